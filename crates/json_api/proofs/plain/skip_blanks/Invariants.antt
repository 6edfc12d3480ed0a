use Rattle.std.proofs.Common.{◌≡◌, length}
use Rattle.json.specs.Lex.{lex, between}
use Rattle.json_api.proofs.plain.skip_blanks.Given as goal

abbrev pub invariant-blanks : goal.invariant-blanks
invariant-blanks l = lex between l.left ≡ lex between l.bytes

abbrev pub decreases-blanks : goal.decreases-blanks
decreases-blanks l = length l.left
