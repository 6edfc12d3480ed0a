use Rattle.std.proofs.Common.{◌≡◌}
use Rattle.der.proofs.Turns.{turned}
use Rattle.der.proofs.writer.turn_by_ones.Given as goal

abbrev pub invariant-loop-turn : goal.invariant-loop-turn
invariant-loop-turn l = l.bytes ≡ turned l.fn.bytes l._turn
