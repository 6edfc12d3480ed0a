use Rattle.std.proofs.Common.{rules}
use Rattle.std.proofs.lemmas.Fn.{always_returns_same}
use Rattle.key_roll.specs.declared.work.NewKey.{NewKey}
use Rattle.issue_keys.proofs.Growing.{desks-are}
use Rattle.issue_keys.proofs.making.by_desk.Goals as goal

pub returns : goal.returns
returns c =
    desks-are c.args.new_keys.now _ _ c.in_ok-news.ensures.items c.in_ok-sort_by_key.ensures.permutation
    (c.in_ok-sort_by_key.ensures.sorted (λ (n : NewKey). n.desk) (always_returns_same _ _ _ (λ a r f called. search rules)))
    (c.in_ok-sort_by_key.ensures.stable (λ (n : NewKey). n.desk) (always_returns_same _ _ _ (λ a r f called. search rules)))
