-- What a crash on return leaves, and what a reopening finds there.
use Rattle.std.specs.Prelude.{◌≡◌, ℕ, ◌<◌, List, [], ◌∷◌, ◌++◌, Some, IsSome, length, get_or, slice_get}
use Rattle.disk_api.specs.declared.disk.Disk.{Ghosts as DiskGhosts}
use Rattle.authority_book.specs.declared.commands.Command.{Command}
use Rattle.editions.specs.Edition.{Edition}
use Rattle.press_records.specs.Store.{Store}
use Rattle.press_core.specs.JournalRecords.{Finds}
use Rattle.histories.specs.Events.{History}
use Rattle.histories.specs.Events.Event.{Reopen}
use Rattle.histories.specs.Legal.{IsLegal}
use Rattle.histories.specs.Work.{GoesOnAs, with_work}
use Rattle.krill_top.specs.DeskStates.{most_desks}
use Rattle.krill_top.specs.InstanceState.{InstanceState, store_in}
use Rattle.krill_top.specs.RunDisks.{RecoveredTo}
use Rattle.krill_top.specs.Histories.{signatures, work_of}

-- The disks tell what they hold, and a crash may leave these images of them: of the desks' disks by
-- their numbers, and of the press's.
pub record MayBeLeft {D : Type 0} (disk_of : DiskGhosts D) (desks : List D) (press : D)
    (images : ℕ → List ℕ) (image : List ℕ) : Type 0 where
  pub desks_known : (number : ℕ) (disk : D) → slice_get desks number ≡ Some disk
      → IsSome (disk_of.content disk)
  pub desks_left : (number : ℕ) (disk : D) → slice_get desks number ≡ Some disk
      → disk_of.may_leave disk (images number)
  pub press_known : IsSome (disk_of.content press)
  pub press_left : disk_of.may_leave press image

-- The images recover to the records of these commands of each desk, and to those of that store and
-- these editions. So opening finds just these over them (`IsKept.found`, `IsPressServed.found`).
pub record AreFoundIn (images : ℕ → List ℕ) (image : List ℕ) (store : Store)
    (lists : List (List Command)) (editions : List Edition) : Type 0 where
  pub count : length lists ≡ most_desks
  pub desks : (number : ℕ) → number < most_desks
      → RecoveredTo (Some (images number)) number (get_or lists number [])
  pub press : Finds store editions image

-- The images recover to commands and editions of the run's store, and to no others. Behind each legal
-- history that may have left what the run found, with what the run did behind it, a reopening that
-- finds these is legal.
pub record IsReopened (begun ended : InstanceState) (images : ℕ → List ℕ) (image : List ℕ)
    : Type 0 where
  pub lists : List (List Command)
  pub editions : List Edition
  pub found : AreFoundIn images image (store_in ended) lists editions
  pub only : (store : Store) (others : List (List Command)) (more : List Edition)
      → AreFoundIn images image store others more
      → (store ≡ store_in ended) × (others ≡ lists) × (more ≡ editions)
  pub legal : (history : History)
      → (run : GoesOnAs begun.site history (signatures ended.calls) (work_of begun ended))
      → IsLegal begun.site (with_work history (work_of begun ended) run.more
      ++ record { signed = []; event = Reopen lists editions } ∷ [])
