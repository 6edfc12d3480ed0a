-- What a pass is told of a publication.
use Rattle.std.proofs.Common.{ℕ, ◌≤◌, List, length, arith, inr}
use Rattle.std.specs.Prelude.{◌⊎◌, Option, None, Some, IfSome, Result, Ok, Err, IfErr}
use Rattle.disk_api.specs.declared.disk.Disk.{Ghosts as DiskGhosts}
use Rattle.commit_word.specs.Seats.{FollowerSeat}
use Rattle.notice_board.specs.declared.shown.ShownEdition.{ShownEdition}
use Rattle.editions.specs.declared.gathered.Gathered.{Gathered}
use Rattle.editions.specs.declared.published_state.PublishedNumbers.{PublishedNumbers}
use Rattle.press_core.specs.PrepareInput.{start_of}
use Rattle.press_core.specs.Stored.{StoredValue}
use Rattle.manager.specs.Lists.{seat_at}
use Rattle.manager.specs.Answers.{IsShownLast, IsShownTo, IsAnswered, IsNotPublished, IsMetBy, nothing_behind}
use Rattle.manager.specs.Publishing.{IsUngathered, IsMetAt}
use Rattle.manager.specs.declared.publish_fault.PublishFault.{PublishFault}
use Rattle.manager.specs.declared.publish_fault.PublishFault.TheVariants as refused

-- who has seen less is told as much
module _ (known more : List FollowerSeat) (shown : List ShownEdition) (less : (desk : ℕ) → length (seat_at known desk).seen ≤ length (seat_at more desk).seen) where
  last_less : (edition : ShownEdition) → IsShownLast more shown edition → IsShownLast known shown edition
  last_less edition is = record {
    before = is.before;
    last = is.last;
    cut = λ desk. let one = less desk in let two = is.cut desk in omega (arith, one, two);
  }

  shown_less : (serial : ℕ) → IsShownTo serial more shown → IsShownTo serial known shown
  shown_less serial is = record { edition = is.edition; is = last_less is.edition is.is; serial_is = is.serial_is }

  behind_less : (behind : Option ℕ) → IfSome behind (λ (n : ℕ). IsShownTo n more shown) → IfSome behind (λ (n : ℕ). IsShownTo n known shown)
  behind_less None is = tt
  behind_less (Some n) is = shown_less n is

  pub answered_less : (told : PublishedNumbers) → IsAnswered told more shown → IsAnswered told known shown
  answered_less told is = record {
    edition = is.edition;
    is = last_less is.edition is.is;
    serial = is.serial;
    moment = is.moment;
    objects = is.objects;
    origins = is.origins;
  }

  pub not_published_less : {D O : Type 0} (fault : PublishFault D O) → IsNotPublished more shown fault → IsNotPublished known shown fault
  not_published_less (refused.Unmade serial fault) is = (is.0, behind_less (nothing_behind fault) is.1)
  not_published_less (refused.Repeated serial fault) is = (is.0, shown_less serial is.1)
  not_published_less (refused.Unexported serial fault) is = shown_less serial is

-- what met the press met the publication
pub met_at : {T D O : Type 0} (disk_of : DiskGhosts D) (clock : ℕ) (old new : StoredValue D) (gathered : List Gathered) (result : Result T (PublishFault D O))
    → IfErr result (IsMetBy disk_of (start_of old.press clock gathered) old new) → IfErr result (λ fault. IsUngathered fault ⊎ IsMetAt disk_of clock fault)
met_at disk_of clock old new gathered (Ok told) is = tt
met_at disk_of clock old new gathered (Err fault) is = inr (record { old = old; new = new; gathered = gathered; met = is })
