-- What was opened can lie behind a lock.
use Rattle.std.proofs.Common.{◌≡◌, ℕ, List, [], ◌++◌, length, refl, sym, ap, ◌∙◌, subst, arith, append-nil, inl}
use Rattle.std.specs.Prelude.{Option, IfSome}
use Rattle.outlet_api.specs.declared.outlet.Outlet.{Ghosts as OutletGhosts}
use Rattle.outlet_api.specs.Calls.{Files}
use Rattle.key_ids.specs.Uris.{Bases}
use Rattle.signer_api.specs.State.{SignerState}
use Rattle.signer_ring.specs.Ring.{Keeps}
use Rattle.rrdp_state.specs.Exported.{Repository}
use Rattle.rrdp_state.specs.Kept.{Kept}
use Rattle.rrdp_state.specs.State.{StandsFor as StandsForFiles}
use Rattle.editions.specs.Edition.{Edition}
use Rattle.editions.specs.PublishedState.{PublishedStateValue}
use Rattle.press_records.specs.Store.{Store}
use Rattle.press_core.specs.Stands.{IsLeftBy, StandsFor}
use Rattle.press_core.specs.Files.{HasFilesOf, rrdp_editions, repository_at, repository_of}
use Rattle.press_core.specs.Exports.{IsCoherent, ShowsEdition, ShowsLast}
use Rattle.press_core.specs.JournalRecords.{AreRecords, store_for}
use Rattle.press_core.specs.Stored.{HasRecordsOf, store_of}
use Rattle.manager.specs.Named.{Named}
use Rattle.manager.specs.Limits.{FitsWith}
use Rattle.manager.specs.Lists.{AreListsOf}
use Rattle.manager.specs.Found.{AreFound}
use Rattle.manager.specs.Locked.{LockedValue, premises_of, repository_in, IsInDoubt, IsLockedOver, IsLocked}
use Rattle.manager.specs.Opening.{IsOpened}
use Rattle.manager.proofs.Vouching.{keeps_same}

module _ {D O : Type 0} (outlet_of : OutletGhosts O) (named : Named) (locked : LockedValue D O) (is : IsOpened outlet_of named locked) (editions : List Edition) (found : AreFound named editions) where
  none_more : editions ++ [] ≡ editions
  none_more = append-nil editions

  -- what was found is what the press has
  left : IsLeftBy is.lists editions locked.press.press.at
  left = subst (λ (s : PublishedStateValue). IsLeftBy is.lists editions s) (sym is.at)
      (found.left is.lists (subst (λ (records : List (List (List ℕ))). AreListsOf (length named.signers) 0 is.lists records) is.records is.seen))

  same_repository : repository_of locked.press.press ≡ repository_in named
  same_repository = λ i. record { session = is.session i; base = (is.site i).rrdp }

  has_files : HasFilesOf editions locked.press.press
  has_files = record {
    kept = subst (λ (r : Repository). StandsForFiles r (rrdp_editions editions) locked.press.press.rrdp) (sym same_repository)
        (subst (λ (k : Kept). StandsForFiles (repository_in named) (rrdp_editions editions) k) (sym is.kept) found.files);
    set = ap (λ (s : PublishedStateValue). s.set) is.at ∙ found.set;
  }

  same_store : store_of locked.press ≡ store_for named.session named.site
  same_store = λ i. store_for (is.session i) (is.site i)

  has_records : HasRecordsOf editions locked.press
  has_records = subst (λ (s : Store). IfSome locked.press.journal.records (AreRecords s editions)) (sym same_store)
      (subst (λ (r : Option (List (List ℕ))). IfSome r (AreRecords (store_for named.session named.site) editions)) (sym is.journal) found.records)

  counted : locked.press.press.at.serial ≡ length editions
  counted = ap (λ (s : PublishedStateValue). s.serial) is.at ∙ found.count

  pub opened_over : IsLockedOver outlet_of named editions is.lists [] [] locked
  opened_over = record {
    seen = is.seen;
    site = is.site;
    session = is.session;
    made = record {
      left = subst (λ (es : List Edition). IsLeftBy is.lists es locked.press.press.at) (sym none_more) left;
      after = tt;
      last = is.at;
      counted = counted ∙ ap length (sym none_more);
      one_each = is.one_each;
      kept = subst (λ (s : List SignerState). Keeps named.signers s) (sym is.ring) (keeps_same named.signers);
      told = λ tell vouched has k d within. absurd (omega (arith, within));
      sound = λ vouched all steps. record {
        stands = subst (λ (es : List Edition). StandsFor (premises_of named is.lists vouched) es locked.press.press.at) (sym none_more) ((is.each editions found).stands vouched steps);
        published = λ k d within. absurd (omega (arith, within));
      };
      live_signers = is.live_signers;
    };
    list = is.list;
    shown = is.shown;
    files = subst (λ (es : List Edition). HasFilesOf es locked.press.press) (sym none_more) has_files;
    shows = subst (λ (es : List Edition). ShowsLast (ShowsEdition named.session named.site) es locked.press.press.last_export (outlet_of.files locked.outlet)) (sym none_more) (is.each editions found).shows;
    coherent = λ was. subst (λ (es : List Edition). IfSome (outlet_of.files locked.outlet) (IsCoherent (repository_in named) es)) (sym none_more)
        (subst (λ (f : Option Files). IfSome f (IsCoherent (repository_in named) editions)) (sym is.outlet) was);
    limit = is.limit;
    records = subst (λ (es : List Edition). HasRecordsOf es locked.press) (sym none_more) has_records;
    room = inl refl;
    doubt_room = subst (λ (d : Option (List ℕ)). IfSome d (FitsWith locked.press.journal)) (sym is.settled) tt;
    settled = λ none. is.settled;
    doubt = subst (λ (d : Option (List ℕ)). IfSome d (IsInDoubt named editions is.lists [] [] locked.press.press.ring locked.press.press.at)) (sym is.settled) tt;
  }

pub opened_locked : {D O : Type 0} (outlet_of : OutletGhosts O) (named : Named) (locked : LockedValue D O) → IsOpened outlet_of named locked → IsLocked outlet_of named locked
opened_locked outlet_of named locked is = record {
  lists = is.lists;
  run = [];
  calls = [];
  editions = is.editions;
  found = is.found;
  each = λ editions found. opened_over outlet_of named locked is editions found;
}
