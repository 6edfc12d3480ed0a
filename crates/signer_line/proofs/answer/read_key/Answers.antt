use Rattle.std.proofs.Common.{rules}
use Rattle.signer_line.proofs.LineLemmas.{key_spelled}
use Rattle.signer_line.proofs.answer.read_key.Goals as goal

pub returns-clause-spelled : goal.returns-clause-spelled
returns-clause-spelled c = key_spelled _ _ _ c.read.ensures.value (search rules)
