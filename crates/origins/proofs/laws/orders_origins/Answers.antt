use Rattle.std.proofs.Common.{refl}
use Rattle.origins.specs.Order.{origin_cmp}
use Rattle.origins.specs.laws.Ordered.{origin_total, exact_origin}
use Rattle.origins.proofs.laws.orders_origins.Goals as goal

pub returns-clause-cmp : goal.returns-clause-cmp
unfolding origin_cmp
returns-clause-cmp c = λ o p. refl

pub returns-clause-total : goal.returns-clause-total
returns-clause-total c = origin_total

pub returns-clause-exact : goal.returns-clause-exact
returns-clause-exact c = exact_origin
