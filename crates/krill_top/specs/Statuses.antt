-- How a run ends: its status, and the line that says why.
use Rattle.std.specs.Prelude.{ℕ, Bool, true, false, List, ◌++◌, Option, None, Some, Result, Ok, Err, codes, decimal, string_bytes}
use Rattle.outlet_api.specs.declared.exports.ExportFault.{ExportFault}
use Rattle.outlet_api.specs.declared.exports.ExportFault.TheVariants as export
use Rattle.hex.specs.Hex.{encode_lower}
use Rattle.key_ids.specs.declared.identifier.KeyId.{KeyId}
use Rattle.rp_rules.specs.declared.rules.Rule.{Rule}
use Rattle.rp_rules.specs.Rules.{name_of}
use Rattle.line_loop.specs.declared.traits.SinkStop.{SinkStop}
use Rattle.line_loop.specs.declared.traits.SinkStop.TheVariants as stop
use Rattle.line_loop.specs.declared.session.SessionEnd.{SessionEnd}
use Rattle.line_loop.specs.declared.session.SessionEnd.TheVariants.{End, SourceFault, SinkFault, Spent, Memory}
use Rattle.krill_top.specs.declared.faults.OpenFault.{OpenFault}
use Rattle.krill_top.specs.declared.faults.OpenFault.TheVariants as opening
use Rattle.krill_top.specs.declared.faults.RunFault.{RunFault}
use Rattle.krill_top.specs.declared.faults.RunFault.TheVariants as faults
use Rattle.krill_top.specs.Exports.{Stopped}
use Rattle.krill_top.specs.Exports.Stopped.{ByFault, ByMemory}
use Rattle.krill_top.specs.Publishing.{Outcome as Publication, is_wanting}
use Rattle.krill_top.specs.Publishing.Outcome.{Published, Unexported, Repeated, Refused}

-- The status of a run that ended by this fault.
abbrev pub fault_status : RunFault → ℕ
fault_status faults.Words = 2
fault_status (faults.Base fault) = 2
fault_status (faults.Refused fault) = 3
fault_status (faults.NotEmpty desk held) = 3
fault_status faults.Device = 4
fault_status (faults.Spent bytes) = 5
fault_status faults.Memory = 6

-- The status of a run: 0 where it ended well.
abbrev pub run_status : Option RunFault → ℕ
run_status None = 0
run_status (Some fault) = fault_status fault

-- Why a session ended otherwise than by the end of its source.
abbrev pub fault_of : SessionEnd → Option RunFault
fault_of End = None
fault_of SourceFault = Some faults.Device
fault_of SinkFault = Some faults.Device
fault_of (Spent bytes) = Some (faults.Spent bytes)
fault_of Memory = Some faults.Memory

-- Why the export at the end didn't end well.
abbrev pub export_fault : {T O : Type 0} → Result T (ExportFault O) → Option RunFault
export_fault (Ok done) = None
export_fault (Err (export.OutletFault rose)) = Some faults.Device
export_fault (Err export.Memory) = Some faults.Memory

-- A device that failed goes before want of memory, and that before a budget that is spent.
abbrev pub graver : Option RunFault → Option RunFault → Option RunFault
graver session None = session
graver (Some faults.Device) (Some fault) = Some faults.Device
graver (Some faults.Memory) (Some (faults.Spent bytes)) = Some faults.Memory
graver session (Some fault) = Some fault

-- Why a run ended whose session ended so, and then the export of the last edition.
abbrev pub end_fault : {T O : Type 0} → SessionEnd → Result T (ExportFault O) → Option RunFault
end_fault session closing = graver (fault_of session) (export_fault closing)

-- What is wrong where memory was wanting, and where an edition isn't exported.
abbrev pub wanting_fault : Bool → Option RunFault
wanting_fault true = Some faults.Memory
wanting_fault false = None

abbrev pub outlet_fault : Stopped → RunFault
outlet_fault (ByFault rose) = faults.Device
outlet_fault ByMemory = faults.Memory

-- What is wrong where a workload's publication isn't made and exported. Any other refusal is a reply
-- alone.
abbrev pub unpublished_fault : Publication → Option RunFault
unpublished_fault (Unexported serial stopped) = Some (outlet_fault stopped)
unpublished_fault (Refused serial unmade) = wanting_fault (is_wanting unmade)
unpublished_fault (Published published) = None
unpublished_fault (Repeated unmade) = None

-- Why a line wasn't given whole.
abbrev pub stop_fault : SinkStop → RunFault
stop_fault stop.Fault = faults.Device
stop_fault stop.Memory = faults.Memory

-- Why an opening ends whose last edition couldn't be exported.
abbrev pub first_export_fault : {O : Type 0} → ExportFault O → OpenFault
first_export_fault (export.OutletFault rose) = opening.OutletFault
first_export_fault export.Memory = opening.Memory

-- Where opening was refused: what failed is a device, and out of memory is that.
abbrev pub opening_fault : OpenFault → RunFault
opening_fault (opening.DiskFault device) = faults.Device
opening_fault (opening.SignerFault signer) = faults.Device
opening_fault opening.OutletFault = faults.Device
opening_fault opening.Memory = faults.Memory
opening_fault other = faults.Refused other

-- ---- the line that says why

abbrev pub named : List ℕ → ℕ → List ℕ
named name number = name ++ decimal number

-- The first object that a walk refuses, with the name of the rule; and a field of a key's row, the key
-- by the hex digits of its identifier.
abbrev pub refused_spelling : List ℕ → Rule → List ℕ
refused_spelling uri rule = codes "Refused uri " ++ uri ++ codes " rule " ++ name_of rule

abbrev pub mismatch_spelling : KeyId → ℕ → ℕ → ℕ → List ℕ
mismatch_spelling key field kept found = codes "RowMismatch key " ++ encode_lower key.bytes
    ++ named (codes " field ") field ++ named (codes " kept ") kept ++ named (codes " found ") found

-- A refusal by its name, and its fields by theirs.
abbrev pub opening_spelling : OpenFault → List ℕ
opening_spelling (opening.WrongCount what needed found) = named (codes "WrongCount what ") what
    ++ named (codes " needed ") needed ++ named (codes " found ") found
opening_spelling (opening.Damaged device at) =
    named (codes "Damaged device ") device ++ named (codes " at ") at
opening_spelling (opening.BadRecord device at) =
    named (codes "BadRecord device ") device ++ named (codes " at ") at
opening_spelling (opening.SiteDiffers kept given) = codes "SiteDiffers kept "
    ++ string_bytes kept ++ codes " given " ++ string_bytes given
opening_spelling (opening.CutPast desk cut held) = named (codes "CutPast desk ") desk
    ++ named (codes " cut ") cut ++ named (codes " held ") held
opening_spelling (opening.Refused uri rule) = refused_spelling (string_bytes uri) rule
opening_spelling (opening.Unreached uri) = codes "Unreached uri " ++ string_bytes uri
opening_spelling (opening.OriginsDiffer uri) = codes "OriginsDiffer uri " ++ string_bytes uri
opening_spelling (opening.RowMismatch key field kept found) =
    mismatch_spelling key field kept found
opening_spelling (opening.DiskFault device) = named (codes "DiskFault device ") device
opening_spelling (opening.SignerFault signer) = named (codes "SignerFault signer ") signer
opening_spelling opening.OutletFault = codes "OutletFault"
opening_spelling opening.Memory = codes "Memory"

abbrev pub usage : List ℕ
usage = codes "usage: krillc run|audit|workload --number N [--rsync URI] [--rrdp URI]"

abbrev pub fault_spelling : RunFault → List ℕ
fault_spelling faults.Words = usage
fault_spelling (faults.Base fault) = usage
fault_spelling (faults.Refused fault) = codes "opening refused: " ++ opening_spelling fault
fault_spelling (faults.NotEmpty desk held) =
    named (codes "opening refused: NotEmpty desk ") desk ++ named (codes " held ") held
fault_spelling faults.Device = codes "device failed"
fault_spelling (faults.Spent bytes) = codes "budget spent"
fault_spelling faults.Memory = codes "out of memory"
