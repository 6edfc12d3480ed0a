use Rattle.std.proofs.Common.{◌-◌, arith, map}
use Rattle.outlet_api.specs.Exports.{removal_of}
use Rattle.rrdp_state.proofs.Removals.{so_far_next, so_far_end}
use Rattle.rrdp_state.proofs.leaving.removes.Goals as goal

pub loop-k-preserved : goal.loop-k-preserved
loop-k-preserved c =
    so_far_next c.args.session.now c.args.serial c.args.counts.named c.args.counts.previous (c.args.serial - 2) c.loop-k.k _ _ _ c.loop-k.invariant
    c.in_ok-push_if_left.ensures c.saturating_sub-delta.ensures

pub returns : goal.returns
returns c =
    so_far_end c.args.session.now c.args.serial c.args.counts.named c.args.counts.previous c.args.counts.before c.loop-k.k (map removal_of c.loop-k.paths.items)
    (omega arith) (omega arith) c.loop-k.invariant
