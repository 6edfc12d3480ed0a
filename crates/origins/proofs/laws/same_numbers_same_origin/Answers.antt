use Rattle.origins.specs.laws.Same.{same_prefix, same_origin}
use Rattle.origins.proofs.laws.same_numbers_same_origin.Goals as goal

pub returns-clause-prefix : goal.returns-clause-prefix
returns-clause-prefix c = same_prefix

pub returns-clause-origin : goal.returns-clause-origin
returns-clause-origin c = same_origin
