use Rattle.editions.proofs.StepLemmas.Until.{superseded_until}
use Rattle.editions.proofs.step_laws.superseded_by_then.Goals as goal

pub returns : goal.returns
returns c = λ one other position id entries in_one in_other same are.
    superseded_until one other position in_one in_other same id entries are
