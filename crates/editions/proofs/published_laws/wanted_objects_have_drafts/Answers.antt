use Rattle.editions.proofs.WalkLemmas.Drafted.{wanted-drafted}
use Rattle.editions.proofs.published_laws.wanted_objects_have_drafts.Goals as goal

pub returns : goal.returns
returns c = λ premises clock editions edition steps tree step.
    wanted-drafted premises clock editions edition steps tree step
