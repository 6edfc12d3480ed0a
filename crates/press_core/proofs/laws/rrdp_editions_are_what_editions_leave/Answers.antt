use Rattle.press_core.proofs.Told.{follow_told, count_told, leave_told, behind_told}
use Rattle.press_core.proofs.laws.rrdp_editions_are_what_editions_leave.Goals as goal

pub returns-clause-follow : goal.returns-clause-follow
returns-clause-follow c = follow_told

pub returns-clause-count : goal.returns-clause-count
returns-clause-count c = count_told

pub returns-clause-leave : goal.returns-clause-leave
returns-clause-leave c = leave_told

pub returns-clause-behind : goal.returns-clause-behind
returns-clause-behind c = behind_told
