-- A run that changed nothing of what opening found, as a part of a history.
use Rattle.std.proofs.Common.{◌≡◌, ◌≤◌, ℕ, List, [], ◌∷◌, ◌++◌, length, refl, sym, ◌∙◌, subst, append-nil}
use Rattle.std.specs.Prelude.{Option, None, Some, IfSome, All, slice_get}
use Rattle.disk_api.specs.declared.disk.Disk.{Ghosts as DiskGhosts}
use Rattle.outlet_api.specs.declared.outlet.Outlet.{Ghosts as OutletGhosts}
use Rattle.authority_book.specs.declared.commands.Command.{Command}
use Rattle.editions.specs.Edition.{Edition}
use Rattle.editions.specs.Step.{AreSteps}
use Rattle.histories.specs.Events.{History}
use Rattle.histories.specs.Legal.{bytes_for, most_bytes}
use Rattle.histories.specs.Work.{GoesOnAs}
use Rattle.krill_top.specs.Crashes.{MayBeLeft, IsReopened}
use Rattle.krill_top.specs.DeskStates.{DeskState, most_desks, commands_at}
use Rattle.krill_top.specs.Histories.{HasRoomFor, MayFind, and_doubt, doubt_of, signatures, work_of}
use Rattle.krill_top.specs.InstanceState.{InstanceState, lists_of, premises_of}
use Rattle.krill_top.specs.PressDisk.{IsPressServed}
use Rattle.krill_top.specs.Run.{IsServedAt, AreServed}
use Rattle.krill_top.specs.inner.Instances.{InstanceValue, IsInState}
use Rattle.krill_top.specs.inner.Room.{HasRoom, IsEditionOfBytes}
use Rattle.krill_top.specs.inner.RunLaws.{RunLaws}
use Rattle.krill_top.proofs.Crashes.{all_kept, reopened}
use Rattle.krill_top.proofs.Lists.{lists_long}
use Rattle.krill_top.proofs.Room.{found_bytes, found_fits, found_press}
use Rattle.krill_top.proofs.RunHistories.{run_served, goes_on}

-- no command is in doubt at a desk that was opened
none_doubted : {D : Type 0} (disk_of : DiskGhosts D) (number : ℕ) (old new : Option D) (was is : Option DeskState) → IsServedAt disk_of number old new was is → doubt_of was ≡ None
none_doubted disk_of number old new None is served = refl
none_doubted disk_of number None None (Some was) is served = absurd served
none_doubted disk_of number None (Some new) (Some was) is served = absurd served
none_doubted disk_of number (Some old) None (Some was) is served = absurd served
none_doubted disk_of number (Some old) (Some new) (Some was) None served = absurd served
none_doubted disk_of number (Some old) (Some new) (Some was) (Some is) served = served.kept.is_open

module _ {D O : Type 0} (disk_of : DiskGhosts D) (outlet_of : OutletGhosts O) (laws : RunLaws) (olds news : List D) (session : List ℕ) (old new : D)
    (instance : InstanceValue D O) (begun : InstanceState) (stands : IsInState outlet_of instance begun)
    (disks : AreServed disk_of olds news begun.desk_states begun.desk_states) (press : IsPressServed disk_of session old new begun begun) where
  many : length begun.desk_states ≡ most_desks
  many = sym (lists_long begun.desk_states) ∙ stands.left.desks ∙ stands.one_each

  has_room : (history : History) → MayFind history begun → HasRoom begun
  has_room history find = record {
    desks = λ desk within. subst (λ (d : Option Command). bytes_for (and_doubt (commands_at begun.desk_states desk) d) ≤ most_bytes)
        (sym (none_doubted disk_of desk (slice_get olds desk) (slice_get news desk) (slice_get begun.desk_states desk) (slice_get begun.desk_states desk) (disks desk)))
        (found_fits laws history begun find desk);
    press = subst (λ (d : Option Edition). HasRoomFor begun.site (and_doubt begun.editions d)) (sym press.is_open) (found_press laws history begun find);
    bytes = subst (λ (d : Option Edition). All IsEditionOfBytes (and_doubt begun.editions d)) (sym press.is_open) (found_bytes laws history begun find);
  }

  pub found_goes_on : begun.found.lists ≡ lists_of begun.desk_states → begun.found.editions ≡ begun.editions → (history : History) → MayFind history begun
      → GoesOnAs begun.site history (signatures begun.calls) (work_of begun begun)
  found_goes_on just just_editions history find = goes_on laws history begun begun refl refl just just_editions find (has_room history find)
      (λ k. run_served disk_of k (slice_get olds k) (slice_get news k) (slice_get begun.desk_states k) (slice_get begun.desk_states k) (disks k))
      many [] (sym (append-nil begun.editions)) (λ vouched all. (stands.stands vouched all).steps)
      (λ vouched all. subst (λ (d : Option Edition). IfSome d (λ edition. AreSteps (premises_of vouched begun) (begun.editions ++ edition ∷ []))) (sym press.is_open) tt)

  pub found_reopened : (images : ℕ → List ℕ) (image : List ℕ) → MayBeLeft disk_of news new images image → IsReopened begun begun images image
  found_reopened images image may = reopened laws disk_of olds news session old new begun begun
      (all_kept disk_of olds news begun.desk_states begun.desk_states disks) press many images image may
