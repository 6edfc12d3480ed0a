-- What an export of the last edition does.
use Rattle.std.specs.Prelude.{◌≡◌, ◌≤◌, ℕ, Bool, true, false, option_map, Result, Ok, Err}
use Rattle.host_calls.specs.Rise.{HasRisen}
use Rattle.outlet_api.specs.Calls.{after_all, IsFront}
use Rattle.outlet_api.specs.declared.outlet.OutletStop.{OutletStop}
use Rattle.outlet_api.specs.declared.outlet.OutletStop.TheVariants as stop
use Rattle.outlet_api.specs.declared.exports.ExportFault.{ExportFault}
use Rattle.outlet_api.specs.declared.exports.ExportFault.TheVariants.{OutletFault, Memory}
use Rattle.press_core.specs.declared.last_export.LastExport.TheVariants.{Failed, Done}
use Rattle.press_core.specs.Press.{PressValue}
use Rattle.press_core.specs.Stands.{IsLeftBy}
use Rattle.press_core.specs.Files.{HasFilesOf}
use Rattle.press_core.specs.Exports.{export_of}
use Rattle.krill_top.specs.InstanceState.{InstanceState, lists_of, last_serial, is_exported}
use Rattle.krill_top.specs.InstanceState.{IsCoherentIn, ShowsLastIn}

-- A press has what the editions left, with their files, and this is how its last export ended.
pub record IsExporter (press : PressValue) (state : InstanceState) : Type 0 where
  pub site : press.site ≡ state.site
  pub session : press.rrdp.session ≡ state.session
  pub left : IsLeftBy (lists_of state.desk_states) state.editions press.at
  pub files : HasFilesOf state.editions press
  pub exported : press.last_export ≡ state.exported

-- The first so many of an export's calls were made at the outlet, or all. Any call may be the one that
-- fails, so on each answer the files are as they are after each call: coherent where they were.
pub record Exports (before after : InstanceState) : Type 0 where
  pub press : PressValue
  pub exporter : IsExporter press before
  pub same : after ≡ record before { exported = after.exported; outlet = after.outlet }
  pub front : IsFront (export_of press before.editions) before.outlet.files after.outlet.files
  pub coherent : IsCoherentIn before → IsCoherentIn after
  pub later : before.outlet.faults ≤ after.outlet.faults

-- All of them were made, and the outlet shows the last edition.
pub record ExportsAll (before after : InstanceState) : Type 0 where
  pub exports : Exports before after
  pub all : after.outlet.files
      ≡ option_map (after_all (export_of exports.press before.editions)) before.outlet.files
  pub ended : after.exported ≡ Done (last_serial before)
  pub shown : ShowsLastIn after

-- What stopped an export.
abbrev pub stop_of : {O : Type 0} → ExportFault O → OutletStop
stop_of (OutletFault rose) = stop.Fault
stop_of Memory = stop.Memory

-- The same, with a fault's counts of the outlet's faults before and after the export.
pub data Stopped : Type 0 where
  ByFault : ℕ × ℕ → Stopped
  ByMemory : Stopped

abbrev pub stopped_of : {O : Type 0} → ExportFault O → Stopped
stopped_of (OutletFault rose) = ByFault rose
stopped_of Memory = ByMemory

-- A fault's counts are those of the outlet, and rose.
abbrev pub IsStoppedBetween : ℕ → ℕ → Stopped → Type 0
IsStoppedBetween before after (ByFault rose) = (rose ≡ (before, after)) × HasRisen before after
IsStoppedBetween before after ByMemory = Unit {0}

-- The export was stopped by this: by a fault only where the outlet's count of faults rose.
pub record ExportStops (stopped : Stopped) (before after : InstanceState) : Type 0 where
  pub exports : Exports before after
  pub cause : IsStoppedBetween before.outlet.faults after.outlet.faults stopped
  pub ended : after.exported ≡ Failed

-- The one, or the other.
abbrev pub ExportsOrStops : {T O : Type 0} → Result T (ExportFault O) → InstanceState
    → InstanceState → Type 0
ExportsOrStops (Ok done) before after = ExportsAll before after
ExportsOrStops (Err fault) before after = ExportStops (stopped_of fault) before after

-- Where the last edition isn't exported it is exported again, and it is told whether that was so.
abbrev pub Repeats : {O : Type 0} → Result Bool (ExportFault O) → InstanceState → InstanceState
    → Type 0
Repeats (Ok true) before after = (is_exported before ≡ false) × ExportsAll before after
Repeats (Ok false) before after = (is_exported before ≡ true) × (after ≡ before)
Repeats (Err fault) before after =
    (is_exported before ≡ false) × ExportStops (stopped_of fault) before after
