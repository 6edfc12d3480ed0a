use Rattle.json_api.proofs.Once.{line_once}
use Rattle.json_api.proofs.laws.reads_lines_once.Goals as goal

pub returns : goal.returns
returns c = line_once (record {
  set = c.reads_texts_once.ensures.one;
  parts = c.reads_origin_once.ensures;
  prefix = c.same_numbers_same_origin.ensures.prefix;
  origin = c.same_numbers_same_origin.ensures.origin;
})
