-- The state in which opening finds the press, and what its disk holds.
use Rattle.std.proofs.Common.{◌≡◌, ◌≢◌, ◌≤◌, ◌<◌, ℕ, List, [], ◌∷◌, length, refl, sym, ◌∙◌, ap, subst, arith, inl, inr, append-nil}
use Rattle.std.proofs.lemmas.Bool.{false≢true}
use Rattle.std.proofs.lemmas.Option.{none-some}
use Rattle.std.proofs.lemmas.List.Elements.{All-nil, All-cons}
use Rattle.std.specs.Prelude.{Option, None, Some, IfSome, IsSome, All}
use Rattle.disk_api.specs.Content.{BothKnown}
use Rattle.disk_api.specs.declared.disk.Disk.{Ghosts as DiskGhosts}
use Rattle.outlet_api.specs.declared.outlet.Outlet.{Ghosts as OutletGhosts}
use Rattle.gate_journal.specs.Format.{recovered, damaged_at}
use Rattle.gate_journal.specs.View.{View as JournalView, RecoversToInDoubt, IsSafe}
use Rattle.key_ids.specs.Uris.{Bases}
use Rattle.key_roll.specs.declared.rows.KeyRow.{KeyRow}
use Rattle.authority_book.specs.declared.rows.NameRow.{NameRow}
use Rattle.pub_set.specs.declared.objects.Object.{Object}
use Rattle.desk_core.specs.View.{View}
use Rattle.rrdp_state.specs.Editions.{Edition as RrdpEdition}
use Rattle.rrdp_state.specs.Exported.{Repository}
use Rattle.rrdp_state.specs.Kept.{Kept}
use Rattle.rrdp_state.specs.State.{kept_of, StandsFor as StandsForFiles}
use Rattle.rp_rules.specs.Certificates.{Vouched}
use Rattle.rp_rules.specs.Sound.{IsAuditOf}
use Rattle.rp_rules.specs.Yield.{AuditedValue}
use Rattle.editions.specs.Edition.{Edition}
use Rattle.press_records.specs.Store.{Store}
use Rattle.press_core.specs.Agreement.{owed_yield, first_mismatch}
use Rattle.press_core.specs.Files.{HasFilesOf, rrdp_editions, repository_at}
use Rattle.press_core.specs.JournalRecords.{AreRecords, Finds, press_limit, store_for}
use Rattle.press_core.specs.Loading.{LoadedValue, IsLeftAs, IsLoadOf, IsFound, anchor_of, loaded_store}
use Rattle.press_core.specs.Resuming.{AreAgreed}
use Rattle.press_core.specs.Stands.{IsLeftBy, StandsFor}
use Rattle.press_core.specs.Stored.{StoredValue}
use Rattle.krill_top.specs.declared.summary.Summary.{Summary}
use Rattle.krill_top.specs.DeskStates.{most_desks, names_in}
use Rattle.krill_top.specs.InstanceState.{InstanceState, outlet_state, lists_of, store_in, premises_of, AreVouchedIn}
use Rattle.krill_top.specs.DesksInStates.{AreIn}
use Rattle.krill_top.specs.PressDisk.{Given, AreBegun, Agrees, opened_state}
use Rattle.krill_top.specs.Run.{IsSummary, signers_needed}
use Rattle.krill_top.specs.inner.Instances.{HasInDoubt, IsJournalOf, IsPressIn}
use Rattle.krill_top.specs.inner.PressOpened.{IsToldBy, IsBehindLoaded, IsOpenedPress}
use Rattle.krill_top.specs.inner.Started.{IsPressFound}
use Rattle.krill_top.specs.Histories.{HasRoomFor}
use Rattle.krill_top.specs.SoundEditions.{TakesNoMore}
use Rattle.krill_top.proofs.Fitting.{room_known}
use Rattle.krill_top.proofs.Lists.{as_many, lists_long}

-- ---- what is known, or not

pub some_so : {A : Type 0} (known : Option A) (P Q : A → Type 0) → IfSome known P → ((x : A) → P x → Q x) → IfSome known Q
some_so None P Q p so = tt
some_so (Some x) P Q p so = so x p

pub some_both : {A : Type 0} (known : Option A) (P Q R : A → Type 0) → IfSome known P → IfSome known Q → ((x : A) → P x → Q x → R x) → IfSome known R
some_both None P Q R p q so = tt
some_both (Some x) P Q R p q so = so x p q

not_none : {A : Type 0} (known : Option A) → known ≡ None → IsSome known → ⊥
not_none None is some = false≢true some
not_none (Some x) is some = none-some x (sym is)

-- ---- the records

-- Where the disk told nothing before, no records are known.
pub records_known : {D : Type 0} (R : List ℕ → List ℕ → Type 0) (site : Bases) (session : List ℕ) (editions : List Edition) (loaded : LoadedValue D) (before now : Option (List ℕ))
    → BothKnown R before now → IfSome loaded.journal.records (λ _. IsSome now) → IfSome before (λ file. IsLoadOf site session file editions loaded)
    → IfSome loaded.journal.records (AreRecords (loaded_store loaded) editions)
records_known R site session editions loaded None now same told known =
    some_so loaded.journal.records (λ _. IsSome now) (AreRecords (loaded_store loaded) editions) told (λ records some. absurd (not_none now same some))
records_known R site session editions loaded (Some file) now same told known = known.records

-- Where it did they are.
pub records_read : {A : Type 0} (R : List ℕ → List ℕ → Type 0) (before now : Option (List ℕ)) (records : Option A) → BothKnown R before now → IfSome now (λ _. IsSome records) → IfSome before (λ _. IsSome records)
records_read R None now records same known = tt
records_read R (Some file) now records same known = subst (λ (o : Option (List ℕ)). IfSome o (λ _. IsSome records)) same.1 known

-- The editions are the same ones, where the disk tells.
pub loaded_by : {D : Type 0} (site : Bases) (session : List ℕ) (loaded : LoadedValue D) (known : Option (List ℕ)) → IfSome known (λ file. (editions : List Edition) × IsLoadOf site session file editions loaded)
    → (editions : List Edition) × IsLeftAs editions loaded
    → (editions : List Edition) × IsLeftAs editions loaded × IfSome known (λ file. IsLoadOf site session file editions loaded)
loaded_by site session loaded None found left = (left.0, left.1, tt)
loaded_by site session loaded (Some file) found left = (found.0, found.1.left, found.1)

finds_file : (store : Store) (editions : List Edition) (records : Option (List (List ℕ))) (file : List ℕ) → IsSome records → IfSome records (AreRecords store editions) → RecoversToInDoubt press_limit records None file
    → Finds store editions file
finds_file store editions None file some are recovers = absurd (false≢true some)
finds_file store editions (Some records) file some are recovers = record { records = records; whole = recovers; are = are }

module _ {D : Type 0} (disk_of : DiskGhosts D) where
  -- a journal with the records of editions, and none in doubt
  pub record HasEditions (store : Store) (editions : List Edition) (journal : JournalView D) : Type 0 where
    pub limit : journal.limit ≡ press_limit
    pub settled : journal.doubt ≡ None
    pub are : IfSome journal.records (AreRecords store editions)

  finds_image : (store : Store) (editions : List Edition) (journal : JournalView D) (file : List ℕ) → HasEditions store editions journal → IsSome journal.records
      → RecoversToInDoubt journal.limit journal.records journal.doubt file → Finds store editions file
  finds_image store editions journal file has some recovers =
      finds_file store editions journal.records file some has.are
      (subst (λ (d : Option (List ℕ)). RecoversToInDoubt press_limit journal.records d file) has.settled
      (subst (λ (n : ℕ). RecoversToInDoubt n journal.records journal.doubt file) has.limit recovers))

  -- its disk stands for them, and so does each image
  pub finds_now : (store : Store) (editions : List Edition) (journal : JournalView D) → HasEditions store editions journal → IsSafe disk_of journal → IfSome (disk_of.content journal.disk) (Finds store editions)
  finds_now store editions journal has safe =
      some_both (disk_of.content journal.disk) (λ _. IsSome journal.records) (λ file. RecoversToInDoubt journal.limit journal.records journal.doubt file) (Finds store editions) safe.known safe.bytes
      (λ file some recovers. finds_image store editions journal file has some recovers)

  pub finds_later : (store : Store) (editions : List Edition) (journal : JournalView D) → HasEditions store editions journal → IsSafe disk_of journal → (image : List ℕ) → disk_of.may_leave journal.disk image
      → IfSome (disk_of.content journal.disk) (λ file. Finds store editions image)
  finds_later store editions journal has safe image may =
      some_so (disk_of.content journal.disk) (λ _. IsSome journal.records) (λ file. Finds store editions image) safe.known
      (λ file some. finds_image store editions journal image has some (safe.images image may))

-- ---- the state

pub names_below : (names : List NameRow) (n : ℕ) → signers_needed names ≤ n → All (λ (name : NameRow). name.signer < n) names
names_below [] n all = All-nil (λ (name : NameRow). name.signer < n)
names_below (row ∷ rows) n all =
    All-cons (λ (name : NameRow). name.signer < n) row rows (omega (arith, all)) (names_below rows n (omega (arith, all)))

kept_session : (repository : Repository) (editions : List RrdpEdition) → (kept_of repository editions).session ≡ repository.session
kept_session repository [] = refl
kept_session repository (edition ∷ older) = refl

begun_in : {D : Type 0} (session : List ℕ) (begun : InstanceState) (loaded : LoadedValue D) → begun.session ≡ loaded.session → begun.site ≡ loaded.site → (records : List (List ℕ))
    → IsFound session records begun.editions loaded → AreBegun session begun records
begun_in session begun loaded same_session same_site [] found = (found.0, same_session ∙ found.1)
begun_in session begun loaded same_session same_site (first ∷ records) found =
    subst (λ (store : Store). AreRecords store begun.editions (first ∷ records)) (λ i. store_for (sym same_session i) (sym same_site i)) found

module _ {D : Type 0} (disk_of : DiskGhosts D) (given : Given) (old : D) (press : StoredValue D) (told : Summary) (opened : IsOpenedPress disk_of given old press told) where
  abbrev pub found_state : InstanceState
  found_state = opened_state given opened.loaded opened.editions

  session_is : press.press.rrdp.session ≡ opened.loaded.session
  session_is = ap (λ (k : Kept). k.session) (opened.behind.goes_on.files ∙ opened.left.files.state)
      ∙ kept_session (repository_at opened.loaded.session opened.loaded.site) (rrdp_editions opened.editions)

  has_files : HasFilesOf opened.editions press.press
  has_files = record {
    kept = subst (λ (site : Bases). StandsForFiles (repository_at press.press.rrdp.session site) (rrdp_editions opened.editions) press.press.rrdp) (sym opened.behind.goes_on.site)
        (subst (λ (session : List ℕ). StandsForFiles (repository_at session opened.loaded.site) (rrdp_editions opened.editions) press.press.rrdp) (sym session_is)
        (subst (λ (k : Kept). StandsForFiles (repository_at opened.loaded.session opened.loaded.site) (rrdp_editions opened.editions) k) (sym opened.behind.goes_on.files) opened.left.files));
    set = opened.behind.goes_on.set ∙ opened.left.objects;
  }

  pub has_editions : HasEditions disk_of (loaded_store opened.loaded) opened.editions press.journal
  has_editions = record {
    limit = ap (λ (j : JournalView D). j.limit) opened.behind.goes_on.journal ∙ opened.order.limit;
    settled = ap (λ (j : JournalView D). j.doubt) opened.behind.goes_on.journal ∙ opened.order.settled;
    are = subst (λ (j : JournalView D). IfSome j.records (AreRecords (loaded_store opened.loaded) opened.editions)) (sym opened.behind.goes_on.journal) opened.records;
  }

  journal_is : IsJournalOf press found_state
  journal_is = record {
    limit = has_editions.limit;
    records = ap (λ (j : JournalView D). j.records) opened.behind.goes_on.journal;
    are = opened.records;
    shut = (λ is_open. refl, λ settled. ap (λ (j : JournalView D). j.shut) opened.behind.goes_on.journal ∙ opened.order.is_open);
    doubt = subst (λ (d : Option (List ℕ)). HasInDoubt press.press.at None d) (sym has_editions.settled) tt;
    room = λ small. room_known opened.loaded.journal.records (HasRoomFor opened.loaded.site opened.editions) small;
    bytes = λ found. found;
  }

  pub opened_long : (desks : List (View D)) → AreIn desks given.found → length desks ≡ most_desks → length (lists_of given.found) ≡ most_desks
  opened_long desks all one_each = lists_long given.found ∙ sym (as_many desks given.found all) ∙ one_each

  -- the instance over it is in that state
  module _ {O : Type 0} (outlet_of : OutletGhosts O) (desks : List (View D)) (signers : ℕ) (outlet : O) (all : AreIn desks given.found) (one_each : length desks ≡ most_desks) where
    long : length (lists_of given.found) ≡ most_desks
    long = opened_long desks all one_each

    left_by : IsLeftBy (lists_of given.found) opened.editions press.press.at
    left_by = opened.behind.goes_on.left (lists_of given.found) opened.editions opened.left long opened.behind.of_desks

    stands_for : (vouched : Vouched) → AreVouchedIn vouched found_state → StandsFor (premises_of vouched found_state) opened.editions press.press.at
    stands_for vouched are = opened.behind.goes_on.stands (premises_of vouched found_state) opened.editions opened.left long opened.behind.of_desks are.found

    pub stands_opened : signers_needed (names_in given.found) ≤ length given.signers → signers ≡ length given.signers → outlet_state outlet_of outlet ≡ given.outlet
        → IsPressIn outlet_of desks press signers outlet found_state
    stands_opened needed counted outlet_is = record {
      desks = all;
      left = left_by;
      stands = stands_for;
      in_doubt = λ vouched all. tt;
      serial = opened.behind.goes_on.serial ∙ opened.left.count;
      files = has_files;
      site = opened.behind.goes_on.site;
      session = session_is;
      journal = journal_is;
      cuts = record { made = []; grows = sym (append-nil opened.editions); within = All-nil (TakesNoMore given.found) };
      exported = opened.behind.goes_on.last_export;
      outlet = outlet_is;
      shows = tt;
      ring = opened.behind.goes_on.ring;
      kept = λ some. opened.behind.consistent;
      one_each = opened.behind.consistent.cut;
      sheet = refl;
      counted = counted;
      live_signers = subst (λ (rows : List KeyRow). All (λ (row : KeyRow). row.signer < length given.signers) rows) (sym opened.behind.goes_on.rows) opened.signers;
      name_signers = names_below (names_in given.found) (length given.signers) needed;
    }

    summed_up : (audited : Option AuditedValue) → IsBehindLoaded disk_of opened.loaded given.found audited given.signers press told → IsToldBy opened.editions audited told → IsSummary found_state told
    summed_up None behind is = inl is
    summed_up (Some audited) behind is = inr (
      audited,
      record {
        published_state = press.press.at;
        left = left_by;
        context = behind.agreed.by.context;
        bases = behind.agreed.by.bases;
        moment = behind.agreed.by.moment ∙ sym behind.goes_on.moment;
        anchor = ap anchor_of behind.goes_on.rows ∙ behind.agreed.by.anchor;
        vouched = behind.agreed.by.vouched;
        audit = subst (λ (set : List Object). IsAuditOf behind.agreed.by.context set audited) (sym behind.goes_on.set) behind.agreed.by.audit;
        owes = behind.consistent.owes;
        origins = behind.agreed.origins;
        rows = ap (λ (rows : List KeyRow). first_mismatch rows audited.points) behind.goes_on.rows ∙ behind.agreed.rows;
      },
      is,
    )

    pub summary_is : IsSummary found_state told
    summary_is = summed_up opened.audited opened.behind opened.told_is

  agrees_with : (audited : Option AuditedValue) → AreAgreed opened.loaded given.signers press audited → IsToldBy opened.editions audited told → opened.loaded.serial ≢ 0 → Agrees given opened.loaded
  agrees_with None agreed is some = absurd (some (opened.left.count ∙ ap length is.0))
  agrees_with (Some audited) agreed is some = record {
    some = some;
    signers = opened.signers;
    audited = audited;
    by = agreed.by;
    firsts = opened.behind.firsts;
    are = opened.behind.are;
    of_desks = opened.behind.of_desks;
    owed = owed_yield opened.loaded.site press.press.at.configs press.press.at.owed;
    owes = record { configs = press.press.at.configs; come = opened.behind.goes_on.configs; list = press.press.at.owed; owes = opened.behind.consistent.owes; is = refl };
    origins = agreed.origins;
    rows = agreed.rows;
  }

  -- where there is an edition, the set that was loaded agrees with what the desks hold
  pub agrees : opened.loaded.serial ≢ 0 → Agrees given opened.loaded
  agrees some = agrees_with opened.audited opened.behind.agreed opened.told_is some

  -- what is found of the disk, in a state that begins so
  pub press_found : (new : D) (begun : InstanceState) → begun.session ≡ opened.loaded.session → begun.site ≡ opened.loaded.site → begun.editions ≡ opened.editions → begun.records ≡ opened.loaded.journal.records → begun.in_doubt ≡ None
      → disk_of.fault_count press.journal.disk ≤ disk_of.fault_count new → IsPressFound disk_of given.session old new begun
  press_found new begun same_session same_site same_editions same_records settled later = record {
    whole = some_so (disk_of.content old) (λ file. IsLoadOf given.site given.session file opened.editions opened.loaded) (λ file. damaged_at press_limit file ≡ None) opened.known (λ file is. is.whole);
    found = some_so (disk_of.content old) (λ file. IsLoadOf given.site given.session file opened.editions opened.loaded) (λ file. AreBegun given.session begun (recovered file)) opened.known
        (λ file is. begun_in given.session begun opened.loaded same_session same_site (recovered file)
        (subst (λ (e : List Edition). IsFound given.session (recovered file) e opened.loaded) (sym same_editions) is.found));
    known = subst (λ (r : Option (List (List ℕ))). IfSome (disk_of.content old) (λ _. IsSome r)) (sym same_records) opened.read;
    records = subst (λ (r : Option (List (List ℕ))). IfSome r (AreRecords (store_in begun) begun.editions)) (sym same_records)
        (subst (λ (e : List Edition). IfSome opened.loaded.journal.records (AreRecords (store_in begun) e)) (sym same_editions)
        (subst (λ (store : Store). IfSome opened.loaded.journal.records (AreRecords store opened.editions)) (λ i. store_for (sym same_session i) (sym same_site i)) opened.records));
    is_open = settled;
    later = omega (arith, opened.later, later);
  }
