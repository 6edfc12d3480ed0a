use Rattle.std.proofs.Common.{◌∙◌}
use Rattle.issue_keys.specs.laws.FirstPositions.{index-moved}
use Rattle.issue_drafts.proofs.key_publishers.made_certificates.Goals as goal

pub returns : goal.returns
returns c =
    index-moved _ _ _ (c.deref.ensures.value ∙ c.in_ok-keys.ensures) c.in_ok-index.ensures
