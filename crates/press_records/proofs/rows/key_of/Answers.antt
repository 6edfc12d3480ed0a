use Rattle.press_records.proofs.Keys.{key_told}
use Rattle.press_records.proofs.rows.key_of.Goals as goal

pub returns : goal.returns
returns c = key_told c.args.field.now c.read.result c.requires c.read.ensures.found c.read.ensures.value
