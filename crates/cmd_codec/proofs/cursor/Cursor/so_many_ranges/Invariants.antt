use Rattle.cmd_codec.proofs.Lists.{RangesSoFar}
use Rattle.cmd_codec.proofs.cursor.Cursor.so_many_ranges.Given as goal

abbrev pub invariant-loop : goal.invariant-loop
invariant-loop l = RangesSoFar l.fn.family l.fn.self l.self l.counter l.set
