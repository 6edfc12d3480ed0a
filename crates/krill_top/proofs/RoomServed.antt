-- That journals have room for what stands in the end, where one session or a workload was served.
use Rattle.std.proofs.Common.{◌≡◌, ◌≤◌, ℕ, List, sym, ap, ◌∙◌, subst}
use Rattle.std.specs.Prelude.{Option, None, Some, All, slice_get}
use Rattle.disk_api.specs.declared.disk.Disk.{Ghosts as DiskGhosts}
use Rattle.authority_book.specs.declared.commands.Command.{Command}
use Rattle.desk_core.specs.View.{View}
use Rattle.key_ids.specs.Uris.{Bases}
use Rattle.editions.specs.Edition.{Edition}
use Rattle.histories.specs.Events.{History}
use Rattle.histories.specs.Legal.{bytes_for, most_bytes}
use Rattle.press_core.specs.Stored.{StoredValue}
use Rattle.krill_top.specs.DeskStates.{DeskState, commands_of}
use Rattle.krill_top.specs.DesksInStates.{HasDeskRoom, DeskGoesOnAt, DesksGoOn}
use Rattle.krill_top.specs.Histories.{HasRoomFor, MayFind, and_doubt, doubt_of}
use Rattle.krill_top.specs.InstanceState.{Found, InstanceState}
use Rattle.krill_top.specs.Run.{AreServed, IsServedAt}
use Rattle.krill_top.specs.inner.Instances.{IsJournalOf}
use Rattle.krill_top.specs.inner.Room.{HasRoom, HasRoomUnknown, IsEditionOfBytes}
use Rattle.krill_top.proofs.Fitting.{room_either}
use Rattle.krill_top.specs.inner.RunLaws.{RunLaws}
use Rattle.krill_top.proofs.Room.{found_bytes, found_fits, found_press}
use Rattle.krill_top.proofs.RunHistories.{RunAt, run_served}

module _ {D : Type 0} (disk_of : DiskGhosts D) where
  room_on : (old new : Option (View D)) (was is : DeskState) → DeskGoesOnAt disk_of old new (Some was) (Some is) → HasDeskRoom was → HasDeskRoom is
  room_on None None was is goes small = absurd goes
  room_on None (Some new) was is goes small = absurd goes
  room_on (Some old) None was is goes small = absurd goes
  room_on (Some old) (Some new) was is goes small = goes.room small

  open_at : (number : ℕ) (old new : Option D) (was is : DeskState) → IsServedAt disk_of number old new (Some was) (Some is) → was.doubt ≡ None
  open_at number None None was is served = absurd served
  open_at number None (Some new) was is served = absurd served
  open_at number (Some old) None was is served = absurd served
  open_at number (Some old) (Some new) was is served = served.kept.is_open

  -- a desk that was found with room has room in the end
  desk_room : (number : ℕ) (disk back : Option D) (old new : Option (View D)) (was is : Option DeskState) → RunAt number was is → IsServedAt disk_of number disk back was is → DeskGoesOnAt disk_of old new was is
      → bytes_for (commands_of was) ≤ most_bytes → bytes_for (and_doubt (commands_of is) (doubt_of is)) ≤ most_bytes
  desk_room number disk back old new None None run served goes small = small
  desk_room number disk back old new None (Some is) run served goes small = absurd run
  desk_room number disk back old new (Some was) None run served goes small = absurd run
  desk_room number disk back old new (Some was) (Some is) run served goes small =
      room_on old new was is goes (subst (λ (d : Option Command). bytes_for (and_doubt was.commands d) ≤ most_bytes) (sym (open_at number disk back was is served)) small)

  pub room_served : RunLaws → (history : History) (begun ended : InstanceState) → MayFind history begun → (disks backs : List D) (old new : List (View D)) (press : StoredValue D)
      → begun.found.editions ≡ begun.editions → ended.site ≡ begun.site → ended.found ≡ begun.found → AreServed disk_of disks backs begun.desk_states ended.desk_states
      → DesksGoOn disk_of old new begun.desk_states ended.desk_states → IsJournalOf press ended → HasRoomUnknown ended → HasRoom ended
  room_served laws history begun ended find disks backs old new press just same_site same_found served goes journal unknown =
      let found : ended.found.editions ≡ begun.editions = ap (λ (f : Found). f.editions) same_found ∙ just in
      let small : HasRoomFor ended.site ended.found.editions =
      subst (λ (s : Bases). HasRoomFor s ended.found.editions) (sym same_site) (subst (λ (e : List Edition). HasRoomFor begun.site e) (sym found) (found_press laws history begun find)) in
      record {
        desks = λ desk within. desk_room desk (slice_get disks desk) (slice_get backs desk) (slice_get old desk) (slice_get new desk) (slice_get begun.desk_states desk) (slice_get ended.desk_states desk)
            (run_served disk_of desk (slice_get disks desk) (slice_get backs desk) (slice_get begun.desk_states desk) (slice_get ended.desk_states desk) (served desk))
            (served desk) (goes desk) (found_fits laws history begun find desk);
        press = room_either ended.records (HasRoomFor ended.site (and_doubt ended.editions ended.in_doubt)) (journal.room small) unknown;
        bytes = journal.bytes (subst (λ (e : List Edition). All IsEditionOfBytes e) (sym found) (found_bytes laws history begun find));
      }
