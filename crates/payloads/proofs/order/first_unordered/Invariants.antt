use Rattle.std.proofs.Common.{◌≡◌, ◌-◌, ◌≤◌, drop, map}
use Rattle.payloads.specs.Order.{first_unordered}
use Rattle.payloads.proofs.order.first_unordered.Given as goal

abbrev pub invariant-loop-i : goal.invariant-loop-i
invariant-loop-i g l = record {
  some : 1 ≤ l.i;
  same : first_unordered g.T.Ranked.below (map (λ x. (x.0, g.T.Ranked.view x.1)) l.items)
      ≡ first_unordered g.T.Ranked.below (map (λ x. (x.0, g.T.Ranked.view x.1)) (drop (l.i - 1) l.items));
}
