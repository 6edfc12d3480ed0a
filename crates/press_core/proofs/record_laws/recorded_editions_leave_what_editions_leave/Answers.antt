use Rattle.press_core.proofs.Recorded.{recorded-left, left-alike}
use Rattle.press_core.proofs.record_laws.recorded_editions_leave_what_editions_leave.Goals as goal

pub returns-clause-left : goal.returns-clause-left
returns-clause-left c = recorded-left

pub returns-clause-alike : goal.returns-clause-alike
returns-clause-alike c = left-alike
