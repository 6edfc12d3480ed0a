use Rattle.ip_text.proofs.Decimals.{HasRead}
use Rattle.ip_text.proofs.number.read_saturating.Given as goal

abbrev pub invariant-loop-byte : goal.invariant-loop-byte
invariant-loop-byte l = HasRead l.text l.byte-index l.value
