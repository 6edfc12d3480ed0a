use Rattle.std.proofs.Common.{◌≡◌, ℕ, ◌+◌, ◌<◌, ◌≤◌, ◌⊎◌, inl, inr, List, length, get_or, sym, subst, arith, rules}
use Rattle.std.proofs.lemmas.Bool.{cases_lt}
use Rattle.std.proofs.lemmas.List.{get_or_read}
use Rattle.std.specs.Prelude.{IsTrue}
use Rattle.pub_set.specs.declared.steps.Change.{Change}
use Rattle.editions.specs.PlannedAndMade.{CanBeRead}
use Rattle.press_core.proofs.making.can_all_be_read.Goals as goal

-- What holds of the first ones holds with one more.
one-more : (changes : List Change) (i : ℕ) (change : Change) → i < length changes → change ≡ get_or changes i change
    → ((k : ℕ) (d : Change) → k < i → CanBeRead (get_or changes k d)) → CanBeRead change → (k : ℕ) (d : Change) → k < i + 1 → CanBeRead (get_or changes k d)
one-more changes i change low is all here k d lt = by (cases_lt k i)
  where
    by : (k < i) ⊎ (i ≤ k) → CanBeRead (get_or changes k d)
    by (inl less) = all k d less
    by (inr last) =
        let same : k ≡ i = omega arith in
        let e : change ≡ get_or changes k d = subst (λ (m : ℕ). change ≡ get_or changes m d) (sym same) (get_or_read changes i change low is d) in
        subst CanBeRead e here

pub loop-change-preserved : goal.loop-change-preserved
loop-change-preserved c =
    let yes : IsTrue c.can_be_read.result = search rules in
    one-more c.args.changes.now c.loop-change.change-index c.change-item.result c.loop-change-test.true c.change-item.is c.loop-change.invariant (c.can_be_read.ensures.0 yes)

pub returns : goal.returns
returns c = (λ yes k d lt. c.loop-change.invariant k d (omega arith), λ all. search rules)

pub returns-then-not-can_be_read : goal.returns-then-not-can_be_read
returns-then-not-can_be_read c = (
  λ no. absurd cc,
  λ all.
      let here : CanBeRead c.change-item.result = subst CanBeRead (sym c.change-item.is) (all c.loop-change.change-index c.change-item.result c.loop-change-test.true) in
      subst IsTrue c.if-not-can_be_read.true (c.can_be_read.ensures.1 here),
)
