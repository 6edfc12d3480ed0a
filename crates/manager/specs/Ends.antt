-- What desks and press come to, once no other thread has them.
use Rattle.std.specs.Prelude.{◌≡◌, ◌≤◌, ℕ, Bool, List, Some, Result, All, IfErr, length, slice_get}
use mathlib.Core.List.{IsPrefix}
use Rattle.disk_api.specs.declared.disk.Disk.{Ghosts as DiskGhosts}
use Rattle.outlet_api.specs.declared.outlet.Outlet.{Ghosts as OutletGhosts}
use Rattle.outlet_api.specs.declared.exports.ExportFault.{ExportFault}
use Rattle.signer_api.specs.State.{SignerState}
use Rattle.signer_ring.specs.Calls.{Call}
use Rattle.rp_rules.specs.Certificates.{Vouched}
use Rattle.commit_word.specs.Seats.{FollowerSeat}
use Rattle.desk_core.specs.View.{View}
use Rattle.editions.specs.Edition.{Edition, cut_at}
use Rattle.editions.specs.VouchedCalls.{IsVouchedBy}
use Rattle.notice_board.specs.declared.shown.ShownEdition.{ShownEdition}
use Rattle.manager.specs.Named.{Named}
use Rattle.manager.specs.Lists.{seat_at}
use Rattle.manager.specs.Found.{AreFound}
use Rattle.manager.specs.Locked.{LockedValue, AreFoundSteps, IsInDoubt}
use Rattle.manager.specs.Closing.{IsClosed}
use Rattle.manager.specs.Answers.{IsRepeated}
use Rattle.manager.specs.Risen.{IsRisenPress, IsExportRise}

-- This cut takes in no more commands of a desk than the desk has.
abbrev pub IsHeld : {D : Type 0} → List (View D) → List ℕ → Type 0
IsHeld {D = D} desks cut =
    (place : ℕ) (desk : View D) → slice_get desks place ≡ Some desk → cut_at cut place ≤ length desk.records

-- Each desk's list begins with what its follower has seen.
abbrev pub HaveSeen : {D : Type 0} → List FollowerSeat → List (View D) → Type 0
HaveSeen {D = D} seats desks = (place : ℕ) (desk : View D) → slice_get desks place ≡ Some desk
    → IsPrefix (seat_at seats place).seen desk.records

-- Of whatever editions were found, where they follow one another by what is vouched: none takes in more
-- commands of a desk than the desk has.
abbrev pub AreFoundHeld : {D : Type 0} → Named → List Call → List (View D) → Type 0
AreFoundHeld named calls desks = (editions : List Edition) (vouched : Vouched)
    → AreFound named editions → AreFoundSteps named editions vouched
    → All (IsVouchedBy vouched) calls → (place : ℕ) (edition : Edition)
    → slice_get editions place ≡ Some edition → IsHeld desks edition.cut

-- The press stood so behind its lock, and its disk holds what it held then. The lists over which
-- its editions were made are what the desks' lists begin with; the editions that were seen are
-- among those that it showed, which are the one found last and those of this run. So neither the
-- edition that stands nor any other of this run takes in a command that its desk hasn't, and so
-- of one in doubt. The last edition was brought to the outlet, before or now, or couldn't be; where the
-- outlet failed then, or the disk before, its count of faults rose since the start.
pub record AreEnds {D O : Type 0} (disk_of : DiskGhosts D) (outlet_of : OutletGhosts O)
    (named : Named) (viewed : List ShownEdition) (desks : List (View D)) (disk : D)
    (ring : List SignerState) (outlet : O) (repeated : Result Bool (ExportFault O)) : Type 0 where
  pub locked : LockedValue D O
  pub closed : IsClosed disk_of outlet_of named locked
  pub disk_is : disk ≡ locked.press.journal.disk
  pub ring_is : ring ≡ locked.press.press.ring
  pub outlet_is : outlet ≡ locked.outlet
  pub exported : IsRepeated locked.press.press.last_export locked.press.press.at.serial repeated
  pub cause : IfErr repeated (IsExportRise named.faults.outlet (outlet_of.fault_count outlet))
  pub faults : IsRisenPress disk_of outlet_of named locked.press.journal locked.outlet
  pub shown : IsPrefix viewed locked.board.shown
  pub seen : HaveSeen locked.seats desks
  pub stands : IsHeld desks locked.press.press.at.cut
  pub run : All (λ stood. IsHeld desks stood.edition.cut) closed.is.run
  pub found : AreFoundHeld named closed.is.calls desks
  pub doubt : (editions : List Edition) (entry : List ℕ)
      (doubted : IsInDoubt named editions closed.is.lists closed.is.run
      closed.is.calls locked.press.press.ring locked.press.press.at entry)
      → IsHeld desks doubted.prepared.next.cut
