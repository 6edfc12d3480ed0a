use Rattle.std.proofs.Common.{sym, ap, ◌∙◌}
use Rattle.issue_keys.specs.Under.{positions_under}
use Rattle.issue_drafts.proofs.key_publishers.standing_certificates.Goals as goal

pub returns : goal.returns
returns c = λ id. c.in_ok-index.ensures id ∙ ap (positions_under id) (sym c.in_ok-certified.ensures)
