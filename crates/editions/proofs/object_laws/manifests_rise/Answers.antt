use Rattle.editions.proofs.ObjectLemmas.Rising.{manifests-rise}
use Rattle.editions.proofs.object_laws.manifests_rise.Goals as goal

pub returns : goal.returns
returns c = λ premises editions edition steps. manifests-rise premises editions edition steps
