-- What is kept of a publication's refusal.
use Rattle.std.proofs.Common.{◌≡◌, refl}
use Rattle.press_core.specs.declared.stored_fault.PrepareFault.{PrepareFault}
use Rattle.press_core.specs.declared.stored_fault.PrepareFault.TheVariants as prepare
use Rattle.outlet_api.specs.declared.exports.ExportFault.{ExportFault}
use Rattle.outlet_api.specs.declared.exports.ExportFault.TheVariants as export
use Rattle.session_lines.specs.Keeping.{KeptValue, keeps_of_preparation, keeps_of_export}
use Rattle.krill_top.specs.Exports.{stopped_of}
use Rattle.krill_top.specs.Keeps.{keeps_of_no_edition, keeps_of_stopped_export}
use Rattle.krill_top.specs.Publishing.{unprepared_by}

pub keeps_unprepared : {D : Type 0} (fault : PrepareFault D) (kept : KeptValue) → keeps_of_preparation fault kept ≡ keeps_of_no_edition (unprepared_by fault) kept
keeps_unprepared (prepare.Shut rose) kept = refl
keeps_unprepared (prepare.ClockRange now met) kept = refl
keeps_unprepared (prepare.SerialEnd value met) kept = refl
keeps_unprepared (prepare.Nothing serial met) kept = refl
keeps_unprepared (prepare.SignerFault signer met) kept = refl
keeps_unprepared (prepare.KeyClash id met) kept = refl
keeps_unprepared (prepare.JournalFull held needed met) kept = refl
keeps_unprepared prepare.Memory kept = refl

pub keeps_unexported : {O : Type 0} (fault : ExportFault O) (kept : KeptValue) → keeps_of_export fault kept ≡ keeps_of_stopped_export (stopped_of fault) kept
keeps_unexported (export.OutletFault rose) kept = refl
keeps_unexported export.Memory kept = refl
