use Rattle.rp_rules.specs.Views.{point_value}
use Rattle.press_core.specs.Agreement as agreement
use Rattle.press_core.proofs.Comparing.{told-map}
use Rattle.press_core.proofs.resuming.first_difference.Goals as goal

pub loop-point-init : goal.loop-point-init
loop-point-init c = told-map (agreement.differs_here c.args.row.now) point_value c.args.points.now
