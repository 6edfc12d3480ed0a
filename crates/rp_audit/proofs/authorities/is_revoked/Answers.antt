use Rattle.std.proofs.Common.{rules, ◌∙◌}
use Rattle.std.proofs.lemmas.List.Sorted.{answers_always}
use Rattle.rp_audit.proofs.Revoked.{searched}
use Rattle.rp_audit.proofs.authorities.is_revoked.Goals as goal

pub returns : goal.returns
returns c =
    let by_key = c.binary_search_by_key.ensures.position (λ entry. entry.serial) (answers_always _ _ _ (λ f a r g called. search rules)) in
    c.is_ok.ensures.value ∙ searched c.args.entries.now c.args.serial c.binary_search_by_key.result c.requires c.binary_search_by_key.ensures.bound by_key
