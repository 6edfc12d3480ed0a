-- The instance over opened desks and press.
use Rattle.std.specs.Prelude.{◌≡◌, ◌≤◌, ℕ, List, [], None, IfSome, IsSome, length, map, vec_capacity}
use Rattle.disk_api.specs.declared.disk.Disk.{Ghosts as DiskGhosts}
use Rattle.outlet_api.specs.declared.outlet.Outlet.{Ghosts as OutletGhosts}
use Rattle.key_ids.specs.Uris.{Bases}
use Rattle.gate_journal.specs.Format.{recovered, damaged_at}
use Rattle.desk_core.specs.View.{View}
use Rattle.signer_api.specs.State.{SignerState}
use Rattle.press_core.specs.JournalRecords.{AreRecords, press_limit}
use Rattle.press_core.specs.Stored.{StoredValue}
use Rattle.krill_top.specs.declared.ends.Ends.{Ends}
use Rattle.krill_top.specs.declared.starting.Started.{Started}
use Rattle.krill_top.specs.declared.summary.Summary.{Summary}
use Rattle.krill_top.specs.DeskStates.{DeskStates, most_desks, names_in}
use Rattle.krill_top.specs.InstanceState.{InstanceState, IsCoherentIn, store_in}
use Rattle.krill_top.specs.DesksInStates.{AreIn}
use Rattle.krill_top.specs.PressDisk.{AreBegun}
use Rattle.krill_top.specs.Run.{Opens, given_with, signers_needed}
use Rattle.krill_top.specs.inner.Instances.{InstanceValue, IsInState, stored_in}
use Rattle.manager.specs.Pressing.{exported_as}
use Rattle.manager.specs.Ready.{ShowsItsLast}
use Rattle.manager.specs.Resumed.{IsResumed}
use Rattle.krill_top.specs.inner.Opened.{AreOpened}
use Rattle.krill_top.specs.inner.PressOpened.{IsOpenedPress}

-- ---- what opening found

-- The press's disk held the editions with which the run begins, and the run knows their records where
-- the disk told.
pub record IsPressFound {D : Type 0} (disk_of : DiskGhosts D) (session : List ℕ) (old new : D)
    (begun : InstanceState) : Type 0 where
  pub whole : IfSome (disk_of.content old) (λ file. damaged_at press_limit file ≡ None)
  pub found : IfSome (disk_of.content old) (λ file. AreBegun session begun (recovered file))
  pub known : IfSome (disk_of.content old) (λ _. IsSome begun.records)
  pub records : IfSome begun.records (AreRecords (store_in begun) begun.editions)
  pub is_open : begun.in_doubt ≡ None
  pub later : disk_of.fault_count old ≤ disk_of.fault_count new

-- ---- what an instance is made of

-- The desks were opened from the disks of these devices, and signers and outlet are theirs.
pub record AreEndsOf {D G O : Type 0} (disk_of : DiskGhosts D) (state_of : G → SignerState)
    (ends : Ends D G O) (desks : List (View D)) (ring : List SignerState) (outlet : O)
    : Type 0 where
  pub desks_are : AreOpened disk_of 0 ends.desks.items desks
  pub signers_are : map state_of ends.signers.items ≡ ring
  pub outlet_is : ends.outlet ≡ outlet

-- So many signers are there, and all that the names use. The press was opened over its disk.
pub record IsReadyFor {D G O : Type 0} (disk_of : DiskGhosts D) (state_of : G → SignerState)
    (outlet_of : OutletGhosts O) (site : Bases) (session : List ℕ) (ends : Ends D G O)
    (desks : List (View D)) (outlet : O) (press : StoredValue D) (told : Summary) (signers : ℕ)
    : Type 0 where
  pub ends_of : AreEndsOf disk_of state_of ends desks press.press.ring outlet
  pub one_each : length desks ≡ most_desks
  pub counted : signers ≡ length (map state_of ends.signers.items)
  pub there : (found : DeskStates) → AreIn desks found → signers_needed (names_in found) ≤ signers
  pub opened : (found : DeskStates) → AreIn desks found → IsOpenedPress disk_of
      (given_with state_of outlet_of site session found ends.signers.items ends.outlet)
      ends.press press told

-- ---- an instance that was started

-- Its press goes on behind what was loaded of its disk, which the state's editions left, but that the last
-- one may have been exported; and whichever editions left it, the outlet shows the last one then.
pub record IsResumedIn {D O : Type 0} (outlet_of : OutletGhosts O) (instance : InstanceValue D O)
    (begun : InstanceState) : Type 0 where
  pub first : StoredValue D
  pub is : IsResumed instance.desks first
  pub editions : is.editions ≡ begun.editions
  pub press : stored_in instance ≡ exported_as instance.press.last_export first
  pub shows : ShowsItsLast outlet_of (stored_in instance) instance.outlet

-- With the desks as they were found.
pub record IsStartedIn {D G O : Type 0} (disk_of : DiskGhosts D) (state_of : G → SignerState)
    (outlet_of : OutletGhosts O) (site : Bases) (session : List ℕ) (ends : Ends D G O)
    (started : Started D G O) (found : DeskStates) : Type 0 where
  pub opened : InstanceState
  pub begun : InstanceState
  pub same : begun.desk_states ≡ found
  pub opens : Opens disk_of state_of outlet_of site ends opened begun started.summary
  pub stands : IsInState outlet_of started.instance begun
  pub resumed : IsResumedIn outlet_of started.instance begun
  pub press : IsPressFound disk_of session ends.press started.instance.journal.disk begun
  pub coherent : IsCoherentIn opened → IsCoherentIn begun

-- Its desks were opened from the disks, its press from its own, and its signers are these; the last
-- edition was exported, if there is one. There is room for the disks.
pub record IsStarted {D G O : Type 0} (disk_of : DiskGhosts D) (state_of : G → SignerState)
    (outlet_of : OutletGhosts O) (site : Bases) (session : List ℕ) (ends : Ends D G O)
    (started : Started D G O) : Type 0 where
  pub desks : AreOpened disk_of 0 ends.desks.items started.instance.desks
  pub each : (found : DeskStates) → AreIn started.instance.desks found
      → IsStartedIn disk_of state_of outlet_of site session ends started found
  pub empty : started.disks.items ≡ []
  pub room : most_desks ≤ vec_capacity started.disks
