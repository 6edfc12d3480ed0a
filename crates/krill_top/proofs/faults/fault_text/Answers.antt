use Rattle.std.proofs.Common.{append_assoc}
use Rattle.krill_top.proofs.faults.fault_text.Goals as goal

pub returns-in-NotEmpty : goal.returns-in-NotEmpty
returns-in-NotEmpty c = rw c.in-NotEmpty.is (simp append_assoc c.format.ensures.ok)
