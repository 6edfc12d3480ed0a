-- The press's disk over a run, from what opening found to what closing leaves.
use Rattle.std.proofs.Common.{◌≡◌, ℕ, List, [], ◌∷◌, ◌++◌, refl, sym, subst, arith, inl, inr}
use Rattle.std.proofs.lemmas.Bool.{false≢true}
use Rattle.std.specs.Prelude.{Option, None, Some, All, IfSome, IsSome}
use Rattle.disk_api.specs.declared.disk.Disk.{Ghosts as DiskGhosts}
use Rattle.gate_journal.specs.View.{RecoversTo, RecoversToInDoubt, IsSafe as IsSafeJournal}
use Rattle.authority_book.specs.declared.commands.Command.{Command}
use Rattle.editions.specs.Edition.{Edition}
use Rattle.editions.specs.PublishedState.{PublishedStateValue}
use Rattle.press_records.specs.Store.{Store}
use Rattle.press_core.specs.JournalRecords.{AreRecords, Finds, press_limit}
use Rattle.press_core.specs.Stands.{IsLeftBy}
use Rattle.krill_top.specs.InstanceState.{InstanceState, lists_of, store_in}
use Rattle.krill_top.specs.Histories.{HasPressRoom}
use Rattle.krill_top.specs.PressDisk.{Holds, HoldsIn, IsPressServed}
use Rattle.krill_top.specs.SoundEditions.{TakesNoMore}
use Rattle.krill_top.specs.inner.Instances.{InstanceValue, IsDoubtOf, HasInDoubt, IsInState, PressGoesOn}
use Rattle.krill_top.specs.inner.Room.{HasRoomUnknown}
use Rattle.krill_top.specs.inner.Started.{IsPressFound}
use Rattle.outlet_api.specs.declared.outlet.Outlet.{Ghosts as OutletGhosts}
use Rattle.krill_top.specs.inner.RunLaws.{RecordsLaw}
use Rattle.krill_top.proofs.PressFound.{some_so, some_both}

found_by : (store : Store) (editions : List Edition) (records : List (List ℕ)) (file : List ℕ) → RecoversTo press_limit records file → AreRecords store editions records → Finds store editions file
found_by store editions records file whole are = record { records = records; whole = whole; are = are }

one_more : RecordsLaw → (lists : List (List Command)) (store : Store) (editions : List Edition) (at : PublishedStateValue) (edition : Edition) (records : List (List ℕ)) (entry : List ℕ)
    → IsLeftBy lists editions at → AreRecords store editions records → IsDoubtOf at edition entry → AreRecords store (editions ++ edition ∷ []) (records ++ entry ∷ [])
one_more law lists store editions at edition records entry left are doubt =
    subst (λ (e : Edition). AreRecords store (editions ++ e ∷ []) (records ++ entry ∷ [])) (sym doubt.edition_is)
    (law lists editions at doubt.prepared store records entry left are doubt.recorded)

-- what a file recovers to, where the records are known
holds : RecordsLaw → (lists : List (List Command)) (store : Store) (editions : List Edition) (at : PublishedStateValue) (in_doubt : Option Edition) (known : Option (List (List ℕ))) (doubt : Option (List ℕ)) (file : List ℕ)
    → IsLeftBy lists editions at → IsSome known → IfSome known (AreRecords store editions) → HasInDoubt at in_doubt doubt → RecoversToInDoubt press_limit known doubt file
    → Holds store editions in_doubt file
holds law lists store editions at in_doubt None doubt file left some are has recovers = absurd (false≢true some)
holds law lists store editions at None (Some records) None file left some are has recovers = found_by store editions records file recovers are
holds law lists store editions at None (Some records) (Some entry) file left some are has recovers = absurd has
holds law lists store editions at (Some edition) (Some records) None file left some are has recovers = absurd has
holds law lists store editions at (Some edition) (Some records) (Some entry) file left some are has (inl whole) = inl (found_by store editions records file whole are)
holds law lists store editions at (Some edition) (Some records) (Some entry) file left some are has (inr whole) =
    inr (found_by store (editions ++ edition ∷ []) (records ++ entry ∷ []) file whole (one_more law lists store editions at edition records entry left are has))

module _ {D O : Type 0} (disk_of : DiskGhosts D) (outlet_of : OutletGhosts O) where
  -- what a file is, in the state
  holds_in : RecordsLaw → (instance : InstanceValue D O) (state : InstanceState) (file : List ℕ) → IsInState outlet_of instance state → IsSome instance.journal.records
      → RecoversToInDoubt instance.journal.limit instance.journal.records instance.journal.doubt file → HoldsIn state file
  holds_in law instance state file stands some recovers =
      holds law (lists_of state.desk_states) (store_in state) state.editions instance.press.at state.in_doubt state.records instance.journal.doubt file stands.left
      (subst IsSome stands.journal.records some) stands.journal.are stands.journal.doubt
      (subst (λ (r : Option (List (List ℕ))). RecoversToInDoubt press_limit r instance.journal.doubt file) stands.journal.records
      (subst (λ (n : ℕ). RecoversToInDoubt n instance.journal.records instance.journal.doubt file) stands.journal.limit recovers))

  pub press_served : RecordsLaw → (session : List ℕ) (old mid back : D) (closed : InstanceValue D O) (begun ended : InstanceState) → IsPressFound disk_of session old mid begun
      → IfSome begun.records (λ _. All (TakesNoMore begun.desk_states) begun.editions)
      → PressGoesOn disk_of mid closed.journal.disk begun ended → IsInState outlet_of closed ended → IsSafeJournal disk_of closed.journal → back ≡ closed.journal.disk
      → IsPressServed disk_of session old back begun ended
  press_served law session old mid back closed begun ended first cuts goes stands safe same =
      subst (λ (d : D). IsPressServed disk_of session old d begun ended) (sym same) (record {
        whole = first.whole;
        found = first.found;
        known = first.known;
        records = first.records;
        cuts = cuts;
        told = subst (λ (r : Option (List (List ℕ))). IfSome (disk_of.content closed.journal.disk) (λ _. IsSome r)) stands.journal.records safe.known;
        is_open = first.is_open;
        left = some_both (disk_of.content closed.journal.disk) _ _ (HoldsIn ended) safe.known safe.bytes
            (λ file some recovers. holds_in law closed ended file stands some recovers);
        images = λ image may. some_so (disk_of.content closed.journal.disk) _ (λ file. HoldsIn ended image) safe.known
            (λ file some. holds_in law closed ended image stands some (safe.images image may));
        cause = λ shut.
            let rose = goes.cause first.is_open shut in
            record { from = rose.from; to = rose.to; begins = omega (arith, first.later, rose.begins); risen = rose.risen; ends = rose.ends };
        later = omega (arith, first.later, goes.later);
      })

-- where no records are known, the disk doesn't tell
untold : {A B : Type 0} (content : Option A) (records : Option B) → IfSome content (λ _. IsSome records) → records ≡ None → content ≡ None
untold None records known none = refl
untold (Some file) None known none = absurd (false≢true known)
untold (Some file) (Some all) known none = absurd (cc)

pub room_unknown : {D : Type 0} (disk_of : DiskGhosts D) (session : List ℕ) (old new : D) (begun ended : InstanceState) → IsPressServed disk_of session old new begun ended
    → HasPressRoom disk_of new ended → HasRoomUnknown ended
room_unknown disk_of session old new begun ended served room none = room (untold (disk_of.content new) ended.records served.told none) none
