-- What a session keeps of its refusals.
use Rattle.std.specs.Prelude.{ℕ, Option, Some, None}
use Rattle.outlet_api.specs.declared.exports.ExportFault.{ExportFault}
use Rattle.outlet_api.specs.declared.exports.ExportFault.TheVariants as export
use Rattle.desk_core.specs.declared.faults.DeskFault.{DeskFault}
use Rattle.desk_core.specs.declared.faults.DeskFault.TheVariants as desk
use Rattle.press_core.specs.Met.{MetValue}
use Rattle.press_core.specs.StoredAnswers.{rose_of}
use Rattle.press_core.specs.declared.stored_fault.PrepareFault.{PrepareFault}
use Rattle.press_core.specs.declared.stored_fault.PrepareFault.TheVariants as prepare
use Rattle.manager.specs.declared.locked_desks_answers.CommandFault.{CommandFault}
use Rattle.manager.specs.declared.locked_desks_answers.CommandFault.TheVariants as command
use Rattle.manager.specs.declared.publish_fault.Unmade.{Unmade}
use Rattle.manager.specs.declared.publish_fault.Unmade.TheVariants.{Unprepared, Uncommitted}
use Rattle.manager.specs.declared.publish_fault.PublishFault.{PublishFault}
use Rattle.manager.specs.declared.publish_fault.PublishFault.TheVariants as publish

-- The last value of each kind: the word of a desk's disk that failed, with the desk's number;
-- that of the press's disk and of the outlet; and what met a publication, by the kind of its
-- refusal.
pub record KeptValue : Type 0 where
  pub desk : Option (ℕ × (ℕ × ℕ))
  pub press : Option (ℕ × ℕ)
  pub outlet : Option (ℕ × ℕ)
  pub journal_full : Option MetValue
  pub nothing : Option MetValue
  pub clock_range : Option MetValue
  pub serial_end : Option MetValue
  pub signer_fault : Option MetValue
  pub key_clash : Option MetValue

abbrev pub nothing_kept : KeptValue
nothing_kept = record {
  desk = None;
  press = None;
  outlet = None;
  journal_full = None;
  nothing = None;
  clock_range = None;
  serial_end = None;
  signer_fault = None;
  key_clash = None;
}

-- ---- a command

abbrev pub keeps_of_desk : {D : Type 0} → DeskFault D → KeptValue → KeptValue
keeps_of_desk (desk.Shut rose) kept = record kept { desk = Some rose }
keeps_of_desk (desk.DiskFault rose) kept = record kept { desk = Some rose }
keeps_of_desk other kept = kept

abbrev pub keeps_of_command : {D : Type 0} → CommandFault D → KeptValue → KeptValue
keeps_of_command command.NoSuchAuthority kept = kept
keeps_of_command (command.Refused fault) kept = keeps_of_desk fault kept

-- ---- a publication

abbrev pub keeps_of_preparation : {D : Type 0} → PrepareFault D → KeptValue → KeptValue
keeps_of_preparation (prepare.Shut rose) kept = record kept { press = Some rose }
keeps_of_preparation (prepare.ClockRange now met) kept = record kept { clock_range = Some met }
keeps_of_preparation (prepare.SerialEnd value met) kept = record kept { serial_end = Some met }
keeps_of_preparation (prepare.Nothing serial met) kept = record kept { nothing = Some met }
keeps_of_preparation (prepare.SignerFault signer met) kept =
    record kept { signer_fault = Some met }
keeps_of_preparation (prepare.KeyClash id met) kept = record kept { key_clash = Some met }
keeps_of_preparation (prepare.JournalFull held needed met) kept =
    record kept { journal_full = Some met }
keeps_of_preparation prepare.Memory kept = kept

abbrev pub keeps_of_unmade : {D : Type 0} → Unmade D → KeptValue → KeptValue
keeps_of_unmade (Unprepared fault) kept = keeps_of_preparation fault kept
keeps_of_unmade (Uncommitted fault) kept = record kept { press = Some (rose_of fault) }

abbrev pub keeps_of_export : {O : Type 0} → ExportFault O → KeptValue → KeptValue
keeps_of_export (export.OutletFault rose) kept = record kept { outlet = Some rose }
keeps_of_export export.Memory kept = kept

abbrev pub keeps_of_publication : {D O : Type 0} → PublishFault D O → KeptValue → KeptValue
keeps_of_publication (publish.Unmade serial fault) kept = keeps_of_unmade fault kept
keeps_of_publication (publish.Repeated serial fault) kept = keeps_of_unmade fault kept
keeps_of_publication (publish.Unexported serial fault) kept = keeps_of_export fault kept

-- ---- several sessions

abbrev pub later_or : {X : Type 0} → Option X → Option X → Option X
later_or earlier None = earlier
later_or earlier (Some later) = Some later

-- What two of them keep: of each kind the value of the later one, if it has one.
abbrev pub merged : KeptValue → KeptValue → KeptValue
merged earlier later = record {
  desk = later_or earlier.desk later.desk;
  press = later_or earlier.press later.press;
  outlet = later_or earlier.outlet later.outlet;
  journal_full = later_or earlier.journal_full later.journal_full;
  nothing = later_or earlier.nothing later.nothing;
  clock_range = later_or earlier.clock_range later.clock_range;
  serial_end = later_or earlier.serial_end later.serial_end;
  signer_fault = later_or earlier.signer_fault later.signer_fault;
  key_clash = later_or earlier.key_clash later.key_clash;
}
