use Rattle.std.proofs.Common.{◌≡◌, ◌-◌, ◌≤◌, drop, map}
use Rattle.payloads.specs.Order.{rises}
use Rattle.payloads.proofs.order.are_rising.Given as goal

abbrev pub invariant-loop-i : goal.invariant-loop-i
invariant-loop-i g l = record {
  some : 1 ≤ l.i;
  same : rises g.T.Ranked.below (map g.T.Ranked.view l.items) ≡ rises g.T.Ranked.below (map g.T.Ranked.view (drop (l.i - 1) l.items));
}
