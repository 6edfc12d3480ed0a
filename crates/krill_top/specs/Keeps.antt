-- What is kept of a refusal that is told: of each kind the last value.
use Rattle.std.specs.Prelude.{Some}
use Rattle.press_core.specs.declared.fault.PressFault.{PressFault}
use Rattle.press_core.specs.declared.fault.PressFault.TheVariants as press
use Rattle.session_lines.specs.Keeping.{KeptValue}
use Rattle.krill_top.specs.Exports.{Stopped}
use Rattle.krill_top.specs.Exports.Stopped.{ByFault, ByMemory}
use Rattle.krill_top.specs.Outcomes.{Outcome}
use Rattle.krill_top.specs.Outcomes.Outcome.{Shut as DeskShut, DiskFault as DeskFault}
use Rattle.krill_top.specs.Publishing.{Outcome as Publication, Unmade}
use Rattle.krill_top.specs.Publishing.Unmade.{ByPress, Shut, JournalFull, DiskFault}
use Rattle.krill_top.specs.Publishing.Outcome.{Published, Unexported, Repeated, Refused}

-- Of a command: the word of the desk's disk that failed, with the desk's number.
abbrev pub keeps_of_command_outcome : Outcome → KeptValue → KeptValue
keeps_of_command_outcome (DeskShut rise) kept = record kept { desk = Some rise }
keeps_of_command_outcome (DeskFault rise) kept = record kept { desk = Some rise }
keeps_of_command_outcome other kept = kept

-- Of a publication that the press refused: what met it.
abbrev pub keeps_of_press : PressFault → KeptValue → KeptValue
keeps_of_press (press.ClockRange now met) kept = record kept { clock_range = Some met }
keeps_of_press (press.SerialEnd value met) kept = record kept { serial_end = Some met }
keeps_of_press (press.Nothing serial met) kept = record kept { nothing = Some met }
keeps_of_press (press.SignerFault signer met) kept = record kept { signer_fault = Some met }
keeps_of_press (press.KeyClash id met) kept = record kept { key_clash = Some met }
keeps_of_press press.Memory kept = kept

-- Of one that makes no edition: that, or the word of the press's disk that failed, or what met it where
-- the journal has no room.
abbrev pub keeps_of_no_edition : Unmade → KeptValue → KeptValue
keeps_of_no_edition (ByPress fault) kept = keeps_of_press fault kept
keeps_of_no_edition (Shut rose) kept = record kept { press = Some rose }
keeps_of_no_edition (JournalFull held needed met) kept = record kept { journal_full = Some met }
keeps_of_no_edition (DiskFault rose) kept = record kept { press = Some rose }

-- Of an export that was stopped: the word of the outlet that failed.
abbrev pub keeps_of_stopped_export : Stopped → KeptValue → KeptValue
keeps_of_stopped_export (ByFault rose) kept = record kept { outlet = Some rose }
keeps_of_stopped_export ByMemory kept = kept

-- Of a publication.
abbrev pub keeps_of_publication_outcome : Publication → KeptValue → KeptValue
keeps_of_publication_outcome (Published published) kept = kept
keeps_of_publication_outcome (Unexported serial stopped) kept = keeps_of_stopped_export stopped kept
keeps_of_publication_outcome (Repeated unmade) kept = keeps_of_no_edition unmade kept
keeps_of_publication_outcome (Refused serial unmade) kept = keeps_of_no_edition unmade kept
