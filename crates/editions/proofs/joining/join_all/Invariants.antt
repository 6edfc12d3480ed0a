use Rattle.std.proofs.Common.{◌+◌, length}
use Rattle.editions.proofs.StateLemmas.Reaching.{IsReached}
use Rattle.editions.proofs.joining.join_all.Given as goal

abbrev pub invariant-pairs : goal.invariant-pairs
invariant-pairs g l =
    IsReached g.A.AtUri.place g.B.AtUri.place g.C.AtUri.place g.C.Joins.joined l.fn.left l.fn.right l.stands l.comes l.all.items

abbrev pub decreases-pairs : goal.decreases-pairs
decreases-pairs g l = length l.stands + length l.comes
