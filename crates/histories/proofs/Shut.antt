-- A journal that a fault shut stays shut, with the record in doubt, until a reopening.
use Rattle.std.proofs.Common.{◌≡◌, ℕ, ◌+◌, zero, suc, refl, sym, subst, ◌∙◌, ap, true, false, List, [], ◌∷◌, Some}
use Rattle.std.specs.Prelude.{Bool, Option, slice_get, option_and_then, if◌then◌else◌}
use Rattle.std.proofs.lemmas.Option.{none-some}
use Rattle.authority_book.specs.declared.commands.Command.{Command}
use Rattle.key_ids.specs.Uris.{Bases}
use Rattle.editions.specs.Edition.{Edition}
use Rattle.histories.specs.Devices.{Device, Store, with_one, failed, stopped, for_desk, stopped_from, doubt_at}
use Rattle.histories.specs.Events.{Event, History, after, after_one, after_all, signing}
use Rattle.histories.specs.Events.Event.{Commit, Publish, DeskFault, PressFault, Stop, Reopen}
use Rattle.histories.specs.Legal.{CanBeWritten, MayBePublished, IsAllowed, AreAllowed}
use Rattle.histories.specs.Refused.{IsReopening, AreNoReopenings}
use Rattle.histories.proofs.Lists.{same_one, changed_there, changed_still}

pub not_both : (b : Bool) → b ≡ true → b ≡ false → ⊥
not_both b is isnt = cc

-- It is shut, and this record is in doubt.
pub record IsInDoubt {X : Type 0} (x : X) (device : Device X) : Type 0 where
  pub shut : device.shut ≡ true
  pub doubt : device.doubt ≡ Some x

still_stopped : {X : Type 0} (x : X) (other : Option X) (device : Device X) → IsInDoubt x device → IsInDoubt x (stopped other device)
still_stopped x other device is = record {
  shut = refl;
  doubt = ap (λ (b : Bool). if b then device.doubt else other) is.shut ∙ is.doubt;
}

stopped_there : (n : ℕ) (doubts : List (Option Command)) (desks : List (Device Command)) (m : ℕ) (d : Device Command)
    → slice_get desks m ≡ Some d → (o : Option Command) × (slice_get (stopped_from n doubts desks) m ≡ Some (stopped o d))
stopped_there n doubts [] m d there = absurd (none-some d there)
stopped_there n doubts (first ∷ desks) zero d there =
    (for_desk doubts n, ap (λ (one : Device Command). Some (stopped (for_desk doubts n) one)) (same_one first d there))
stopped_there n doubts (first ∷ desks) (suc m) d there = stopped_there (n + 1) doubts desks m d there

-- So is that desk's.
abbrev pub IsDeskInDoubt : ℕ → Command → Store → Type 0
IsDeskInDoubt desk command store =
    (device : Device Command) × (slice_get store.desks desk ≡ Some device) × IsInDoubt command device

pub told_doubt : (desk : ℕ) (command : Command) (store : Store) → IsDeskInDoubt desk command store
    → doubt_at store.desks desk ≡ Some command
told_doubt desk command store is =
    ap (λ (o : Option (Device Command)). option_and_then (λ device. device.doubt) o) is.1 ∙ is.2.doubt

module _ (site : Bases) where
  pub desk_shut : (store : Store) (desk : ℕ) (command other : Command) → IsDeskInDoubt desk command store → CanBeWritten site store desk other → ⊥
  desk_shut store desk command other is may =
      let same : may.device ≡ is.0 = same_one may.device is.0 (sym may.there ∙ is.1) in
      not_both is.0.shut is.2.shut (ap (λ (d : Device Command). d.shut) (sym same) ∙ may.is_open)

  pub press_shut : (store : Store) (edition other : Edition) → IsInDoubt edition store.press → MayBePublished site store other → ⊥
  press_shut store edition other is may = not_both store.press.shut is.shut may.is_open

  -- ---- behind the fault

  pub desk_failed : (store : Store) (desk : ℕ) (command : Command) → CanBeWritten site store desk command
      → IsDeskInDoubt desk command (after store (DeskFault desk command))
  desk_failed store desk command may = (
    failed command may.device,
    changed_there desk (failed command) store.desks may.device may.there,
    record { shut = refl; doubt = refl },
  )

  pub press_failed : (store : Store) (edition : Edition) → IsInDoubt edition (after store (PressFault edition)).press
  press_failed store edition = record { shut = refl; doubt = refl }

  -- ---- and behind each event that isn't a reopening

  desk_still : (store : Store) (desk : ℕ) (command : Command) (event : Event) → IsAllowed site store event → (IsReopening event → ⊥)
      → IsDeskInDoubt desk command store → IsDeskInDoubt desk command (after store event)
  desk_still store desk command (Commit place other) may never is =
      changed_still (IsInDoubt command) place (with_one other) store.desks desk is.0 is.1 is.2
      (λ same. record { shut = is.2.shut; doubt = is.2.doubt })
  desk_still store desk command (Publish edition) may never is = is
  desk_still store desk command (DeskFault place other) may never is =
      changed_still (IsInDoubt command) place (failed other) store.desks desk is.0 is.1 is.2
      (λ same. absurd (desk_shut store desk command other is (subst (λ (n : ℕ). CanBeWritten site store n other) same may)))
  desk_still store desk command (PressFault edition) may never is = is
  desk_still store desk command (Stop commands edition) may never is =
      let stop = stopped_there 0 commands store.desks desk is.0 is.1 in
      (stopped stop.0 is.0, stop.1, still_stopped command stop.0 is.0 is.2)
  desk_still store desk command (Reopen lists editions) may never is = absurd (never tt)

  pub desk_until : (store : Store) (desk : ℕ) (command : Command) (between : History) → AreAllowed site store between
      → AreNoReopenings between → IsDeskInDoubt desk command store → IsDeskInDoubt desk command (after_all store between)
  desk_until store desk command [] legal never is = is
  desk_until store desk command (h ∷ between) legal never is = desk_until (after_one store h) desk command between legal.1 never.1
      (desk_still (signing store h.signed) desk command h.event legal.0 never.0 is)

  press_still : (store : Store) (edition : Edition) (event : Event) → IsAllowed site store event → (IsReopening event → ⊥)
      → IsInDoubt edition store.press → IsInDoubt edition (after store event).press
  press_still store edition (Commit desk command) may never is = is
  press_still store edition (Publish other) may never is = record { shut = is.shut; doubt = is.doubt }
  press_still store edition (DeskFault desk command) may never is = is
  press_still store edition (PressFault other) may never is = absurd (press_shut store edition other is may)
  press_still store edition (Stop commands other) may never is = still_stopped edition other store.press is
  press_still store edition (Reopen lists editions) may never is = absurd (never tt)

  pub press_until : (store : Store) (edition : Edition) (between : History) → AreAllowed site store between
      → AreNoReopenings between → IsInDoubt edition store.press → IsInDoubt edition (after_all store between).press
  press_until store edition [] legal never is = is
  press_until store edition (h ∷ between) legal never is = press_until (after_one store h) edition between legal.1 never.1
      (press_still (signing store h.signed) edition h.event legal.0 never.0 is)
