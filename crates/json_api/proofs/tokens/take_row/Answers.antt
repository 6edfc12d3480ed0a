use Rattle.json_api.proofs.Passes.{row_read}
use Rattle.json_api.proofs.tokens.take_row.Goals as goal

pub returns-clause-good : goal.returns-clause-good
returns-clause-good c = row_read c.args.reader.now c.next_text.new.self c.in_ok-text.text.now c.named.result c.in_ok-text.ensures.good c.named.ensures
