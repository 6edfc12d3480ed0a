-- What it is for a sink to be told a text.
use Rattle.std.specs.Prelude.{◌≡◌, ◌⊎◌, ℕ, List, ◌++◌, Option, None, Some}
use Rattle.std.specs.Io.KnownBytes.{Appends}
use Rattle.host_calls.specs.Rise.{HasRisen}
use Rattle.line_loop.specs.declared.traits.Sink.{Ghosts as SinkGhosts}
use Rattle.krill_top.specs.declared.faults.RunFault.{RunFault}
use Rattle.krill_top.specs.declared.faults.RunFault.TheVariants as faults

-- The sink took the line, or a beginning of it where it failed or memory was wanting.
abbrev pub Tells : {K : Type 0} → SinkGhosts K → List ℕ → Option RunFault → K → K → Type 0
Tells sink_of line None old new = Appends (sink_of.taken old) (sink_of.taken new) line
Tells sink_of line (Some fault) old new = (written cut_off : List ℕ)
    × (line ≡ written ++ cut_off) × Appends (sink_of.taken old) (sink_of.taken new) written
    × ((fault ≡ faults.Memory)
    ⊎ ((fault ≡ faults.Device) × HasRisen (sink_of.fault_count old) (sink_of.fault_count new)))
