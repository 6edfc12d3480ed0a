use Rattle.editions.proofs.ObjectLemmas.History.{own}
use Rattle.editions.proofs.object_laws.certificates_have_own_serials.Goals as goal

pub returns : goal.returns
returns c = λ premises editions id steps. own premises editions steps id
