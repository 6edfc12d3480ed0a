use Rattle.editions.proofs.WalkLemmas.Profile.{in-profile}
use Rattle.editions.proofs.published_laws.editions_are_in_profile.Goals as goal

pub returns : goal.returns
returns c = λ premises editions edition steps tree. in-profile premises editions edition steps tree
