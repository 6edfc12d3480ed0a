use Rattle.res_sets.proofs.ReadBack.{spells_back}
use Rattle.res_sets.proofs.TextOf.{prints_text}
use Rattle.res_sets.proofs.printing.reads_own_texts.Goals as goal

pub returns : goal.returns
returns c = λ set canonical. spells_back c.reads_own_ipv6_text.ensures set _ canonical (prints_text set.family set.ranges)
