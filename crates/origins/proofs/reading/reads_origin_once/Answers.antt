use Rattle.origins.proofs.Arounds.{same_origin_texts}
use Rattle.origins.proofs.reading.reads_origin_once.Goals as goal

pub returns : goal.returns
returns c = same_origin_texts
