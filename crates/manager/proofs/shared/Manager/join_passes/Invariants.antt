use Rattle.std.proofs.Common.{◌≡◌, ◌+◌, ◌∷◌, length, take}
use Rattle.manager.proofs.Sharing.{JoinedBehind}
use Rattle.manager.proofs.shared.Manager.join_passes.Given as goal

abbrev pub invariant-loop : goal.invariant-loop
invariant-loop g l = record {
  long : length l.others.items + l.counter ≡ length l.fn.others.items;
  front : l.others.items ≡ take (length l.others.items) l.fn.others.items;
  joined : JoinedBehind (length l.others.items) (l.fn.pass ∷ l.fn.others.items) l.pass;
}
