use Rattle.std.proofs.Common.{◌≡◌, ◌⊎◌, ◌<◌, ℕ, ◌+◌, ◌++◌, [], ◌∷◌, Bool, true, false, List, length, take, cond, get_or, refl, sym, ap, subst, ◌∙◌, inl, inr, arith, length-append}
use Rattle.std.specs.Prelude.{nat_lt, max, ◌==◌}
use Rattle.std.specs.List.{All, Any}
use Rattle.std.specs.Ordering.{ord_max, nat_cmp, is_lt}
use Rattle.std.specs.declared.cmp.Ordering.TheVariants.{Less, Equal, Greater}
use Rattle.std.proofs.lemmas.Bool.{ltb-true, ltb-false}
use Rattle.std.proofs.lemmas.List.{take_all, take_more, get_or_append_left}
use Rattle.std.proofs.lemmas.List.Elements.{All-weaker, All-more}
use Rattle.std.proofs.lemmas.List.Quantifiers.{Any-push}
use Rattle.key_roll.specs.declared.rows.KeyRow.{KeyRow}
use Rattle.press_core.proofs.loading.signers_needed.Goals as goal

-- The greater of two numbers is one of them, and no less than either.
larger : (a b : ℕ) → ord_max nat_cmp a b ≡ max a b
larger a b = by_test (nat_lt b a) refl (b == a)
  where
    by_test : (less : Bool) → nat_lt b a ≡ less → (same : Bool) → cond (is_lt (cond less Less (cond same Equal Greater))) a b ≡ max a b
    by_test true is same = omega (arith, ltb-true b a is)
    by_test false is true = omega (arith, ltb-false b a is)
    by_test false is false = omega (arith, ltb-false b a is)

one-of : (a b n : ℕ) → n ≡ max a b → (n ≡ a) ⊎ (n ≡ b)
one-of a b n is = by_test (nat_lt b a) refl
  where
    by_test : (less : Bool) → nat_lt b a ≡ less → (n ≡ a) ⊎ (n ≡ b)
    by_test true less = inl (omega (arith, is, ltb-true b a less))
    by_test false less = inr (omega (arith, is, ltb-false b a less))

any-longer : (P : KeyRow → Type 0) (rows : List KeyRow) (row : KeyRow) → Any P rows → Any P (rows ++ row ∷ [])
any-longer P rows row any =
    let long = length-append rows (row ∷ []) in
    let inside = any.2 in
    (any.0, any.1, omega (arith, long, inside), get_or_append_left rows (row ∷ []) any.1 any.0 any.2 ∙ any.3, any.4)

module _ (rows : List KeyRow) (i most next : ℕ) (row : KeyRow) (less : i < length rows) (is : row ≡ get_or rows i row) (greater : next ≡ max most (row.signer + 1)) where
  enough-more : All (λ r. r.signer < most) (take i rows) → All (λ r. r.signer < next) (take (i + 1) rows)
  enough-more all =
      All-more (λ r. r.signer < next) rows i row less
      (All-weaker (λ r. r.signer < most) (λ r. r.signer < next) (λ r few. omega (arith, few, greater)) (take i rows) all)
      (subst (λ (r : KeyRow). r.signer < next) is (omega (arith, greater)))

  longer : take (i + 1) rows ≡ take i rows ++ row ∷ []
  longer = take_more rows i row less ∙ ap (λ (r : KeyRow). take i rows ++ r ∷ []) (sym is)

  needed-more : (most ≡ 0) ⊎ Any (λ r. r.signer + 1 ≡ most) (take i rows) → (next ≡ 0) ⊎ Any (λ r. r.signer + 1 ≡ next) (take (i + 1) rows)
  needed-more needed = by_one (one-of most (row.signer + 1) next greater) needed
    where
      by_one : (next ≡ most) ⊎ (next ≡ row.signer + 1) → (most ≡ 0) ⊎ Any (λ r. r.signer + 1 ≡ most) (take i rows)
          → (next ≡ 0) ⊎ Any (λ r. r.signer + 1 ≡ next) (take (i + 1) rows)
      by_one (inl same) (inl none) = inl (same ∙ none)
      by_one (inl same) (inr any) =
          inr (subst (λ (n : ℕ). Any (λ r. r.signer + 1 ≡ n) (take (i + 1) rows)) (sym same)
          (subst (λ (l : List KeyRow). Any (λ r. r.signer + 1 ≡ most) l) (sym longer) (any-longer (λ r. r.signer + 1 ≡ most) (take i rows) row any)))
      by_one (inr new) before =
          inr (subst (λ (l : List KeyRow). Any (λ r. r.signer + 1 ≡ next) l) (sym longer) (Any-push (λ r. r.signer + 1 ≡ next) (take i rows) row (sym new)))

pub loop-row-preserved : goal.loop-row-preserved
loop-row-preserved c =
    let most = c.loop-row.most in
    let greater = c.max-most.ensures ∙ larger most (c.from.result + 1) ∙ ap (λ (n : ℕ). max most (n + 1)) c.from.ensures in
    record {
      enough = enough-more c.args.rows.now c.loop-row.row-index most c.max-most.result c.row-item.result c.loop-row-test.true c.row-item.is greater c.loop-row.invariant.enough;
      needed = needed-more c.args.rows.now c.loop-row.row-index most c.max-most.result c.row-item.result c.loop-row-test.true c.row-item.is greater c.loop-row.invariant.needed;
    }

pub returns-clause-enough : goal.returns-clause-enough
returns-clause-enough c =
    subst (λ (l : List KeyRow). All (λ row. row.signer < c.loop-row.most) l)
    (take_all c.loop-row.row-index c.args.rows.now (omega (arith, c.loop-row-test.false))) c.loop-row.invariant.enough

pub returns-clause-needed : goal.returns-clause-needed
returns-clause-needed c =
    subst (λ (l : List KeyRow). (c.loop-row.most ≡ 0) ⊎ Any (λ row. row.signer + 1 ≡ c.loop-row.most) l)
    (take_all c.loop-row.row-index c.args.rows.now (omega (arith, c.loop-row-test.false))) c.loop-row.invariant.needed
