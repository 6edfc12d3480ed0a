-- Why no edition is prepared over a journal, and what a commit that the disk failed leaves.
use Rattle.std.specs.Prelude.{◌≡◌, ◌<◌, ℕ, ◌+◌, ◌-◌, ◌^◌, min, None, Some, List, length}
use Rattle.host_calls.specs.Rise.{HasRisen}
use Rattle.disk_api.specs.declared.disk.Disk.{Ghosts as DiskGhosts}
use Rattle.gate_journal.specs.Format.{held_for}
use Rattle.gate_journal.specs.View as journal
use Rattle.signer_api.specs.State.{SignerState}
use Rattle.editions.specs.PublishedState.{PublishedStateValue}
use Rattle.press_core.specs.PrepareInput.{PrepareInput}
use Rattle.press_core.specs.Planned.{IsPrepared}
use Rattle.press_core.specs.Next.{NextValue}
use Rattle.press_core.specs.Faults.{IsMet, IsPressFault}
use Rattle.press_core.specs.declared.fault.PressFault.{PressFault}
use Rattle.press_core.specs.declared.fault.PressFault.TheVariants as press
use Rattle.press_core.specs.declared.stored_fault.CommitFault.{CommitFault}
use Rattle.press_core.specs.declared.stored_fault.CommitFault.TheVariants as commit
use Rattle.press_core.specs.JournalRecords.{record_bytes, press_limit}
use Rattle.press_core.specs.Stored.{StoredValue, StoredPreparedValue}
use Rattle.press_core.specs.declared.stored_fault.PrepareFault.{PrepareFault}
use Rattle.press_core.specs.declared.stored_fault.PrepareFault.TheVariants.{Shut, ClockRange, SerialEnd, Nothing}
use Rattle.press_core.specs.declared.stored_fault.PrepareFault.TheVariants.{SignerFault, KeyClash, JournalFull, Memory}

-- ---- prepare

-- The record of the edition has no room behind those that are held.
pub record HasNoRoom {D : Type 0} (at : PublishedStateValue) (journal : journal.View D)
    (edition : NextValue) (held needed : ℕ) : Type 0 where
  pub held_is : held ≡ held_for journal.sizes
  pub needed_is : needed ≡ min (length (record_bytes at edition) + 9) (2 ^ 64 - 1)
  pub past : press_limit < held + needed

-- The signers made all that an edition is made of, and its record has no room.
pub record IsFull {D : Type 0} (start : PrepareInput) (ring : List SignerState)
    (journal : journal.View D) (held needed : ℕ) : Type 0 where
  pub edition : NextValue
  pub is_prepared : IsPrepared start ring edition
  pub full : HasNoRoom start.at journal edition held needed

-- An earlier commit was failed by the disk. Then no signer is asked.
pub record IsShutBy {D : Type 0} (start : PrepareInput) (ring : List SignerState)
    (journal : journal.View D) (rose : ℕ × ℕ) : Type 0 where
  pub shut : journal.shut ≡ Some rose
  pub asked : ring ≡ start.ring

-- Each cause; where several hold, the first of them is told. Of an open journal the others are those
-- of the press alone, and behind them that its record has no room.
abbrev pub IsPrepareFault : {D : Type 0} → PrepareInput → List SignerState → journal.View D
    → PrepareFault D → Type 0
IsPrepareFault start ring journal (Shut rose) = IsShutBy start ring journal rose
IsPrepareFault start ring journal (ClockRange now met) =
    (journal.shut ≡ None) × IsPressFault start ring (press.ClockRange now met)
IsPrepareFault start ring journal (SerialEnd value met) =
    (journal.shut ≡ None) × IsPressFault start ring (press.SerialEnd value met)
IsPrepareFault start ring journal (Nothing serial met) =
    (journal.shut ≡ None) × IsPressFault start ring (press.Nothing serial met)
IsPrepareFault start ring journal (SignerFault signer met) =
    (journal.shut ≡ None) × IsPressFault start ring (press.SignerFault signer met)
IsPrepareFault start ring journal (KeyClash id met) =
    (journal.shut ≡ None) × IsPressFault start ring (press.KeyClash id met)
IsPrepareFault start ring journal (JournalFull held needed met) =
    (journal.shut ≡ None) × IsFull start ring journal held needed × IsMet 22 start.clock met
IsPrepareFault start ring journal Memory =
    (journal.shut ≡ None) × IsPressFault start ring press.Memory

-- ---- commit

-- The disk failed in this call: the press stands as before, its journal is shut, and the record may
-- stand on the disk or not.
pub record IsCommitFault {D : Type 0} (disk_of : DiskGhosts D) (rose : ℕ × ℕ)
    (prepared : StoredPreparedValue) (old new : StoredValue D) : Type 0 where
  pub before : rose.0 ≡ disk_of.fault_count old.journal.disk
  pub after : rose.1 ≡ disk_of.fault_count new.journal.disk
  pub risen : HasRisen rose.0 rose.1
  pub shut : new.journal.shut ≡ Some rose
  pub doubt : new.journal.doubt ≡ Some prepared.entry
  pub records : new.journal.records ≡ old.journal.records
  pub press : new.press ≡ old.press

-- What a commit's fault was met by: the disk's counts of faults before and after.
abbrev pub rose_of : {D : Type 0} → CommitFault D → ℕ × ℕ
rose_of (commit.DiskFault rose) = rose

-- ---- in between

-- What a press over its journal answers where the press alone answers this.
abbrev pub prepare_fault_of : {D : Type 0} → PressFault → PrepareFault D
prepare_fault_of (press.ClockRange now met) = ClockRange now met
prepare_fault_of (press.SerialEnd value met) = SerialEnd value met
prepare_fault_of (press.Nothing serial met) = Nothing serial met
prepare_fault_of (press.SignerFault signer met) = SignerFault signer met
prepare_fault_of (press.KeyClash id met) = KeyClash id met
prepare_fault_of press.Memory = Memory

-- Why an edition has no record: it has no room, or there is no memory for it.
abbrev pub IsNoEntry : {D : Type 0} → StoredValue D → NextValue → ℕ → PrepareFault D → Type 0
IsNoEntry stored edition clock (JournalFull held needed met) =
    HasNoRoom stored.press.at stored.journal edition held needed × IsMet 22 clock met
IsNoEntry stored edition clock Memory = Unit {0}
IsNoEntry stored edition clock fault = ⊥
