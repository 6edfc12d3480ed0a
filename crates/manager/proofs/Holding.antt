-- What the press's disk holds.
use Rattle.std.proofs.Common.{◌≡◌, ℕ, List, [], ◌∷◌, ◌++◌, subst, inl, inr}
use Rattle.std.specs.Prelude.{Option, None, Some, IfSome, IsSome}
use Rattle.std.proofs.lemmas.Bool.{false≢true}
use Rattle.disk_api.specs.declared.disk.Disk.{Ghosts as DiskGhosts}
use Rattle.outlet_api.specs.declared.outlet.Outlet.{Ghosts as OutletGhosts}
use Rattle.gate_journal.specs.View.{RecoversToInDoubt, IsSafe}
use Rattle.authority_book.specs.declared.commands.Command.{Command}
use Rattle.editions.specs.Edition.{Edition}
use Rattle.editions.specs.PublishedState.{PublishedStateValue}
use Rattle.press_records.specs.Store.{Store}
use Rattle.press_core.specs.JournalRecords.{AreRecords, IsRecordOf, press_limit, store_for}
use Rattle.press_core.specs.Next.{NextValue}
use Rattle.press_core.specs.Follows.{edition_of}
use Rattle.press_core.specs.Stands.{IsLeftBy}
use Rattle.press_core.specs.Stored.{store_of}
use Rattle.manager.specs.Named.{Named}
use Rattle.manager.specs.Found.{AreFound}
use Rattle.manager.specs.Locked.{LockedValue, IsInDoubt, IsLocked, all_of}
use Rattle.manager.specs.Closing.{doubted_edition, FindsInDoubt, FindsAll, IsClosed}

-- one record more is that of one edition more
abbrev pub RecordsLaw : Type 0
RecordsLaw = (lists : List (List Command)) (before : List Edition) (at : PublishedStateValue) (prepared : NextValue)
    (store : Store) (records : List (List ℕ)) (entry : List ℕ)
    → IsLeftBy lists before at → AreRecords store before records → IsRecordOf at prepared entry
    → AreRecords store (before ++ edition_of prepared ∷ []) (records ++ entry ∷ [])

module _ {D O : Type 0} (law : RecordsLaw) (outlet_of : OutletGhosts O) (named : Named) (locked : LockedValue D O) (is : IsLocked outlet_of named locked) where
  abbrev store : Store
  store = store_for named.session named.site

  -- what a file is that recovers to the journal's records, and perhaps to the one in doubt
  finds : (editions : List Edition) (found : AreFound named editions) (known : Option (List (List ℕ))) (doubt : Option (List ℕ)) (file : List ℕ) → IsSome known → IfSome known (AreRecords store (all_of editions is.run))
      → (has : IfSome doubt (IsInDoubt named editions is.lists is.run is.calls locked.press.press.ring locked.press.press.at)) → RecoversToInDoubt press_limit known doubt file
      → FindsInDoubt store (all_of editions is.run) (doubted_edition named editions is.lists is.run is.calls locked.press.press.ring locked.press.press.at doubt has) file
  finds editions found None doubt file some are has recovers = absurd (false≢true some)
  finds editions found (Some records) None file some are has recovers = record { records = records; whole = recovers; are = are }
  finds editions found (Some records) (Some entry) file some are has (inl whole) = inl (record { records = records; whole = whole; are = are })
  finds editions found (Some records) (Some entry) file some are has (inr whole) =
      inr (record { records = records ++ entry ∷ []; whole = whole; are = law is.lists (all_of editions is.run) locked.press.press.at has.prepared store records entry (is.each editions found).made.left are has.recorded })

  finds_here : (file : List ℕ) → IsSome locked.press.journal.records → RecoversToInDoubt locked.press.journal.limit locked.press.journal.records locked.press.journal.doubt file → FindsAll outlet_of named locked is file
  finds_here file some recovers editions found =
      let behind = is.each editions found in
      let same : store_of locked.press ≡ store = λ i. store_for (behind.session i) (behind.site i) in
      finds editions found locked.press.journal.records locked.press.journal.doubt file some
      (subst (λ (s : Store). IfSome locked.press.journal.records (AreRecords s (all_of editions is.run))) same behind.records) behind.doubt
      (subst (λ (n : ℕ). RecoversToInDoubt n locked.press.journal.records locked.press.journal.doubt file) behind.limit recovers)

  both : {A : Type 0} (known : Option A) (P Q : A → Type 0) (R : Type 0) → IfSome known (λ _. R) → IfSome known P → (R → (x : A) → P x → Q x) → IfSome known Q
  both None P Q R some all so = tt
  both (Some x) P Q R some all so = so some x all

  one : {A : Type 0} (known : Option A) (Q : Type 0) (R : Type 0) → IfSome known (λ _. R) → (R → Q) → IfSome known (λ _. Q)
  one None Q R some so = tt
  one (Some x) Q R some so = so some

  pub closed : (disk_of : DiskGhosts D) → IsSafe disk_of locked.press.journal → IsClosed disk_of outlet_of named locked
  closed disk_of safe = record {
    is = is;
    known = safe.known;
    bytes = both (disk_of.content locked.press.journal.disk) _ (FindsAll outlet_of named locked is) (IsSome locked.press.journal.records) safe.known safe.bytes
        (λ some file recovers. finds_here file some recovers);
    images = λ image may. one (disk_of.content locked.press.journal.disk) (FindsAll outlet_of named locked is image) (IsSome locked.press.journal.records) safe.known
        (λ some. finds_here image some (safe.images image may));
  }
