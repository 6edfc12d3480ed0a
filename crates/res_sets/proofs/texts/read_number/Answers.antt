use Rattle.res_sets.specs.Texts.{Writes}
use Rattle.res_sets.specs.declared.numbers.Family.TheVariants.{Asn}
use Rattle.res_sets.proofs.Told.{reads_mapped}
use Rattle.res_sets.proofs.texts.read_number.Goals as goal

pub returns-in-Asn : goal.returns-in-Asn
returns-in-Asn c = rw c.in-Asn.is (reads_mapped (Writes Asn c.args.text.now) c.read_as_number.result c.map.result c.map.ensures.cases c.read_as_number.ensures)
