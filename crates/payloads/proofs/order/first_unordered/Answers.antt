use Rattle.std.proofs.Common.{◌-◌, ℕ, drop, map, sym, ◌∙◌, arith}
use Rattle.std.proofs.lemmas.List.{length-map, length-drop}
use Rattle.payloads.proofs.Lists.{short-ordered}
use Rattle.payloads.proofs.order.first_unordered.Goals as goal

pub returns : goal.returns
returns g c =
    let rest = drop (c.loop-i.i - 1) c.args.items.now in
    let see : ℕ × g.row.T.Denot → ℕ × g.T.Ranked.Meaning = λ x. (x.0, g.T.Ranked.view x.1) in
    sym (c.loop-i.invariant.same ∙ short-ordered g.T.Ranked.below (map see rest) (omega (arith, c.loop-i-test.false, c.loop-i.invariant.some, length-map rest see, length-drop (c.loop-i.i - 1) c.args.items.now)))
