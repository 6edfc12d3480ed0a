use Rattle.std.proofs.Common.{Some, ap, ◌∙◌}
use Rattle.std.specs.Option.{option_map}
use Rattle.key_ids.specs.declared.identifier.KeyId.{KeyId}
use Rattle.issue_drafts.specs.WorkKeys.{key_of}
use Rattle.issue_drafts.proofs.key_publishers.id_named.Goals as goal

pub returns-in-Some : goal.returns-in-Some
returns-in-Some c = ap (λ (k : KeyId). Some k) c.id.ensures ∙ ap (option_map key_of) c.in-Some.ensures.key

pub returns-in-None : goal.returns-in-None
returns-in-None c = ap (option_map key_of) c.in-None.ensures.key
