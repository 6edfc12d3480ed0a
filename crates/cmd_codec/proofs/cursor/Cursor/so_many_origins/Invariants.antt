use Rattle.cmd_codec.proofs.Lists.{OriginsSoFar}
use Rattle.cmd_codec.proofs.cursor.Cursor.so_many_origins.Given as goal

abbrev pub invariant-loop : goal.invariant-loop
invariant-loop l = OriginsSoFar l.fn.self l.self l.counter l.origins.items
