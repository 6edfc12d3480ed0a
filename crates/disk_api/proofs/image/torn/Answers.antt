use Rattle.std.proofs.Common.{◌≡◌, arith}
use Rattle.disk_api.proofs.Replay.{torn_there}
use Rattle.disk_api.proofs.image.torn.Goals as goal

pub loop-i-preserved : goal.loop-i-preserved
loop-i-preserved c =
    torn_there c.args.bytes.items c.args.steps.now c.loop-i.i c.index-steps-i.result c.index-steps-i.is (omega arith) (λ e. e ≡ c.args.bytes.items) c.loop-i.image.items c.tear.new.image.items c.loop-i.invariant c.in_ok-tear.ensures
