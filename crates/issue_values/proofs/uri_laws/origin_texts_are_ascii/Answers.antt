use Rattle.origins.specs.laws.TextLaws.{text-ascii}
use Rattle.issue_values.proofs.uri_laws.origin_texts_are_ascii.Goals as goal

pub returns : goal.returns
returns c = text-ascii
