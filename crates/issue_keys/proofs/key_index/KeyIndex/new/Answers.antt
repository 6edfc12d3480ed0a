use Rattle.std.proofs.Common.{rules}
use Rattle.std.specs.Ordering.{is_lt}
use Rattle.issue_keys.specs.declared.key_index.KeyPosition.{KeyPosition}
use Rattle.issue_keys.specs.Under.{id_cmp}
use Rattle.issue_keys.proofs.Runs.{by_key, kept-under, compares-from}
use Rattle.issue_keys.proofs.key_index.KeyIndex.new.Goals as goal

pub invariant_of-result : goal.invariant_of-result
invariant_of-result c =
    c.in_ok-sort_by.ensures.sorted (λ (a b : KeyPosition). is_lt (id_cmp a.key.bytes b.key.bytes)) by_key
    (compares-from (λ a r f called. search rules))

pub returns : goal.returns
returns c =
    kept-under c.args.entries.items c.sort_by.new.self.items
    (c.in_ok-sort_by.ensures.stable (λ (a b : KeyPosition). is_lt (id_cmp a.key.bytes b.key.bytes)) by_key
    (compares-from (λ a r f called. search rules)))
