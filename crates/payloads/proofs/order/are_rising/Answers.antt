use Rattle.std.proofs.Common.{◌-◌, drop, map, sym, ◌∙◌, arith}
use Rattle.std.proofs.lemmas.List.{length-map, length-drop}
use Rattle.payloads.proofs.Lists.{short-rises}
use Rattle.payloads.proofs.order.are_rising.Goals as goal

pub returns : goal.returns
returns g c =
    let rest = drop (c.loop-i.i - 1) c.args.items.now in
    sym (c.loop-i.invariant.same ∙ short-rises g.T.Ranked.below (map g.T.Ranked.view rest) (omega (arith, c.loop-i-test.false, c.loop-i.invariant.some, length-map rest g.T.Ranked.view, length-drop (c.loop-i.i - 1) c.args.items.now)))
