use Rattle.std.proofs.Common.{List, map, ap, ◌∙◌}
use Rattle.press_core.specs.declared.homes.Home.{Home}
use Rattle.press_core.specs.Tables.{home_of}
use Rattle.press_core.specs.inner.Rows.{home_value}
use Rattle.press_core.proofs.Added.{map-more}
use Rattle.press_core.proofs.homes.homes_of.Goals as goal

pub loop-row-preserved : goal.loop-row-preserved
loop-row-preserved c =
    ap (λ (all : List Home). map home_value all) c.in_ok-push.ensures.items
    ∙ map-more home_value (home_of c.args.site.now c.args.names.now) c.args.rows.now c.loop-row.homes.items c.loop-row.row-index c.row-item.result c.in_ok-home_of.field-0 c.loop-row-test.true
    c.row-item.is c.loop-row.invariant c.in_ok-home_of.ensures
