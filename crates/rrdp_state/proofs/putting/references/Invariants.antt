use Rattle.std.proofs.Common.{◌≡◌, take, map}
use Rattle.rrdp_state.specs.Exported.{delta_ref}
use Rattle.rrdp_state.proofs.putting.references.Given as goal

abbrev pub invariant-loop-delta : goal.invariant-loop-delta
invariant-loop-delta l = l.named.items ≡ map (delta_ref (record { session = l.session; base = l.base })) (take l.delta-index l.deltas)
