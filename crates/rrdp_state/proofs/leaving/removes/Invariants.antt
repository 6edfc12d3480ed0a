use Rattle.std.proofs.Common.{◌≡◌, map}
use Rattle.outlet_api.specs.Exports.{removal_of}
use Rattle.rrdp_state.proofs.Removals.{removals_so_far}
use Rattle.rrdp_state.proofs.leaving.removes.Given as goal

abbrev pub invariant-loop-k : goal.invariant-loop-k
invariant-loop-k l = map removal_of l.paths.items ≡ removals_so_far l.session l.serial l.counts.named l.counts.previous l.oldest l.k
