use Rattle.editions.proofs.ObjectLemmas.Changing.{puts-stand}
use Rattle.editions.proofs.object_laws.what_is_put_stands.Goals as goal

pub returns : goal.returns
returns c = λ s trace old changes up each apart. puts-stand s trace old changes up each apart
