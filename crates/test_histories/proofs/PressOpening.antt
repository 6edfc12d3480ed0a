-- The press is opened over a file behind the desks.
use Rattle.std.proofs.Common.{◌≡◌, ℕ, refl, sym, subst, ◌∙◌, ap, List, [], ◌∷◌, length}
use Rattle.std.specs.Prelude.{◌<◌, All, IsSome, Result, Ok, Err, IfOk}
use Rattle.disk_api.specs.declared.memory.MemoryDisk.{MemoryDisk}
use Rattle.authority_book.specs.declared.commands.Command.{Command}
use Rattle.gate_journal.specs.Format.{recovered}
use Rattle.gate_journal.specs.View.{View as Journal}
use Rattle.desk_core.specs.View.{View}
use Rattle.key_ids.specs.Uris.{Bases}
use Rattle.key_roll.specs.declared.rows.KeyRow.{KeyRow}
use Rattle.signer_api.specs.State.{SignerState}
use Rattle.rrdp_state.specs.Editions.{Edition as RrdpEdition}
use Rattle.rrdp_state.specs.Exported.{Repository}
use Rattle.rrdp_state.specs.Kept.{Kept}
use Rattle.rrdp_state.specs.State.{kept_of}
use Rattle.editions.specs.Edition.{Edition}
use Rattle.editions.specs.declared.gathered.Gathered.{Gathered}
use Rattle.press_records.specs.Store.{Store as Owner}
use Rattle.press_core.specs.Files.{rrdp_editions, repository_at}
use Rattle.press_core.specs.JournalRecords.{AreRecords, store_for}
use Rattle.press_core.specs.Loading.{LoadedValue, IsFound, IsLoadOf, IsInOrder, loaded_store}
use Rattle.press_core.specs.Resuming.{GoOnFrom, GoesOn}
use Rattle.press_core.specs.Stored.{StoredValue, IsStoreOf, store_of as owner_of}
use Rattle.test_histories.specs.Gathered.{AreFirstsOf}
use Rattle.test_histories.specs.Opened.{AreFoundIn, IsPressOpened}
use Rattle.test_histories.proofs.Firsts.{go_on_from}
use Rattle.test_histories.proofs.Places.{desks_long, lists_long}
use Rattle.test_histories.proofs.PressAt.{known_so}

pub if_ok_so : {A E : Type 0} (result : Result A E) (P Q : A → Type 0) → IfOk result P → ((x : A) → P x → Q x) → IfOk result Q
if_ok_so (Ok x) P Q holds so = so x holds
if_ok_so (Err e) P Q holds so = tt

pub if_ok_both : {A E : Type 0} (result : Result A E) (P Q R : A → Type 0) → IfOk result P → IfOk result Q → ((x : A) → P x → Q x → R x) → IfOk result R
if_ok_both (Ok x) P Q R one other so = so x one other
if_ok_both (Err e) P Q R one other so = tt

kept_session : (repository : Repository) (editions : List RrdpEdition) → (kept_of repository editions).session ≡ repository.session
kept_session repository [] = refl
kept_session repository (edition ∷ older) = refl

found_in : (session : List ℕ) (records : List (List ℕ)) (editions : List Edition) (loaded : LoadedValue MemoryDisk) (press : StoredValue MemoryDisk)
    → owner_of press ≡ loaded_store loaded → IsFound session records editions loaded → AreFoundIn records editions press
found_in session [] editions loaded press owner found = found.0
found_in session (first ∷ rest) editions loaded press owner found =
    subst (λ (o : Owner). AreRecords o editions (first ∷ rest)) (sym owner) found

module _ (desks : List (View MemoryDisk)) (file session : List ℕ) (site : Bases) (editions : List Edition) (loaded : LoadedValue MemoryDisk)
    (firsts : List Gathered) (ring : List SignerState) (press : StoredValue MemoryDisk) (all : length desks ≡ 64)
    (is : IsLoadOf site session file editions loaded) (order : IsInOrder loaded) (known : IsSome loaded.journal.records)
    (live : All (λ (row : KeyRow). row.signer < 2) loaded.rows) (two : length ring ≡ 2) (are : AreFirstsOf 0 desks loaded.cut firsts)
    (goes : GoesOn loaded firsts ring press) where
  session_is : press.press.rrdp.session ≡ loaded.session
  session_is = ap (λ (k : Kept). k.session) (goes.files ∙ is.left.files.state)
      ∙ kept_session (repository_at loaded.session loaded.site) (rrdp_editions editions)

  owner_is : owner_of press ≡ loaded_store loaded
  owner_is = λ i. store_for (session_is i) (goes.site i)

  holds : IsStoreOf editions press
  holds =
      let found = known_so loaded.journal.records (AreRecords (loaded_store loaded) editions) known is.records in
      record {
        records = found.0;
        told = ap (λ (j : Journal MemoryDisk). j.records) goes.journal ∙ found.1;
        are = subst (λ (o : Owner). AreRecords o editions found.0) (sym owner_is) found.2;
      }

  pub opened_by : IsPressOpened desks file editions press
  opened_by = record {
    found = found_in session (recovered file) editions loaded press owner_is is.found;
    holds = holds;
    limit = ap (λ (j : Journal MemoryDisk). j.limit) goes.journal ∙ order.limit;
    is_open = ap (λ (j : Journal MemoryDisk). j.shut) goes.journal ∙ order.is_open;
    settled = ap (λ (j : Journal MemoryDisk). j.doubt) goes.journal ∙ order.settled;
    stands = λ premises devices stand same steps.
        goes.stands premises editions is.left
        (ap length same ∙ (lists_long devices ∙ (sym (desks_long 0 desks devices stand) ∙ all)))
        (subst (λ (lists : List (List Command)). GoOnFrom lists firsts) (sym same) (go_on_from desks devices loaded.cut firsts stand are))
        steps;
    live = subst (λ (rows : List KeyRow). All (λ (row : KeyRow). row.signer < 2) rows) (sym goes.rows) live;
    signers = ap length goes.ring ∙ two;
  }
