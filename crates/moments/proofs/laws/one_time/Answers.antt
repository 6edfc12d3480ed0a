use Rattle.std.proofs.Common.{true, false}
use Rattle.moments.specs.laws.TimeLaws.{one_time}
use Rattle.moments.proofs.laws.one_time.Goals as goal

pub returns-clause-general : goal.returns-clause-general
returns-clause-general c m n a b e = one_time true m n a b (λ no. absurd cc) (λ no. absurd cc) e

pub returns-clause-utc : goal.returns-clause-utc
returns-clause-utc c m n a b before_m before_n e = one_time false m n a b (λ _. before_m) (λ _. before_n) e
