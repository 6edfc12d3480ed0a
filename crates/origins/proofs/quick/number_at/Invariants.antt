use Rattle.origins.proofs.Begun.{HasRead}
use Rattle.origins.proofs.quick.number_at.Given as goal

abbrev pub invariant-loop-byte : goal.invariant-loop-byte
invariant-loop-byte l = HasRead l.text l.byte-index l.read l.value
