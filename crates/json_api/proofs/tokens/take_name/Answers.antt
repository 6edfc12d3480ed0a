use Rattle.json_api.proofs.Passes.{name_read}
use Rattle.json_api.proofs.tokens.take_name.Goals as goal

pub returns-clause-good : goal.returns-clause-good
returns-clause-good c =
    name_read c.args.reader.now c.next_text.new.self c.in_ok-text.text.now c.read.result c.in_ok-text.ensures.good c.read.ensures.found.0 c.read.ensures.name
