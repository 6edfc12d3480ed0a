use Rattle.origins.proofs.Printed.{spells_own_text}
use Rattle.origins.proofs.writing.reads_own_text.Goals as goal

pub returns : goal.returns
returns c = spells_own_text
