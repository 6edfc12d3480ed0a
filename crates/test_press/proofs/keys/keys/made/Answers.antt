use Rattle.std.proofs.Common.{◌<◌, ℕ, List, subst, sym}
use Rattle.std.specs.List.{All}
use Rattle.key_roll.specs.declared.work.NewKey.{NewKey}
use Rattle.test_press.proofs.keys.keys.made.Goals as goal

pub make_keys-requires : goal.make_keys-requires
make_keys-requires c =
    subst (λ (n : ℕ). All (λ (new : NewKey). new.signer < n) c.as_slice.result.now) (sym c.in_ok-has_one.ensures)
    (subst (λ (l : List NewKey). All (λ (new : NewKey). new.signer < 1) l) (sym c.as_slice.ensures.value) c.in_ok-news.ensures)
