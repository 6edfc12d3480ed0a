use Rattle.std.proofs.Common.{append_assoc}
use Rattle.krill_top.proofs.faults.refused_text.Goals as goal

pub returns : goal.returns
returns c = simp append_assoc (rw (← c.name-rule.ensures) c.format.ensures.ok)
