use Rattle.moments.specs.laws.TimeLaws.{moment_in-again, moment_in-taken}
use Rattle.moments.proofs.laws.spelled_is_read.Goals as goal

pub returns-clause-again : goal.returns-clause-again
returns-clause-again c = moment_in-again

pub returns-clause-taken : goal.returns-clause-taken
returns-clause-taken c = moment_in-taken
