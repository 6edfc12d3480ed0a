-- Children found by name, and changed at their place.
use Rattle.std.proofs.Common.{◌≡◌, ℕ, zero, suc, ◌+◌, ◌<◌, Bool, true, false, refl, ◌∙◌, ap, arith, length, get_or, set, List, [], ◌∷◌, cond}
use Rattle.std.specs.Prelude.{None, Some, not, nat_lt}
use Rattle.std.specs.List.{position_or_len}
use Rattle.std.specs.Str.{bytes_eq}
use Rattle.authority_book.specs.declared.rows.Child.{Child}
use Rattle.authority_book.specs.Listed.{with_changed}

abbrev pub named : List ℕ → Child → Bool
named name child = bytes_eq child.name name

abbrev pub place_in : List Child → List ℕ → ℕ
place_in children name = position_or_len (named name) children

-- The child of the name stands at its first place.
pub changed_at : (children : List Child) (name : List ℕ) (change : Child → Child) (place : ℕ) (d : Child) →
    place ≡ place_in children name → place < length children →
    with_changed children name change ≡ set children place (change (get_or children place d))
changed_at [] name change place d is within = absurd (omega arith)
changed_at (child ∷ rest) name change zero d is within = by_test (named name child) refl is
  where
    by_test : (b : Bool) → named name child ≡ b → zero ≡ cond (not b) (1 + place_in rest name) 0 →
        with_changed (child ∷ rest) name change ≡ change child ∷ rest
    by_test true found at = ap (λ b. cond b (change child ∷ rest) (child ∷ with_changed rest name change)) found
    by_test false other at = absurd (omega arith)
changed_at (child ∷ rest) name change (suc place) d is within =
    by_test (named name child) refl is (λ at. changed_at rest name change place d at (omega arith))
  where
    by_test : (b : Bool) → named name child ≡ b → suc place ≡ cond (not b) (1 + place_in rest name) 0 →
        (place ≡ place_in rest name → with_changed rest name change ≡ set rest place (change (get_or rest place d))) →
        with_changed (child ∷ rest) name change ≡ child ∷ set rest place (change (get_or rest place d))
    by_test true found at further = absurd (omega arith)
    by_test false other at further =
        ap (λ b. cond b (change child ∷ rest) (child ∷ with_changed rest name change)) other
        ∙ ap (λ l. child ∷ l) (further (omega arith))

-- Where there is no child of the name, nothing changes.
pub unchanged : (children : List Child) (name : List ℕ) (change : Child → Child) → nat_lt (place_in children name) (length children) ≡ false →
    with_changed children name change ≡ children
unchanged [] name change none = refl
unchanged (child ∷ rest) name change none = by_test (named name child) refl none (unchanged rest name change)
  where
    by_test : (b : Bool) → named name child ≡ b → nat_lt (cond (not b) (1 + place_in rest name) 0) (suc (length rest)) ≡ false →
        (nat_lt (place_in rest name) (length rest) ≡ false → with_changed rest name change ≡ rest) →
        with_changed (child ∷ rest) name change ≡ child ∷ rest
    by_test true found past further = absurd (grind arith)
    by_test false other past further =
        ap (λ b. cond b (change child ∷ rest) (child ∷ with_changed rest name change)) other
        ∙ ap (λ l. child ∷ l) (further (grind arith))

-- What a search for a place has told.
pub found_at : (n len place : ℕ) → Some place ≡ cond (nat_lt n len) (Some n) None → (place ≡ n) × (place < len)
found_at n len place is = by_test (nat_lt n len) refl is
  where
    by_test : (b : Bool) → nat_lt n len ≡ b → Some place ≡ cond b (Some n) None → (place ≡ n) × (place < len)
    by_test true within at =
        let same : place ≡ n = cc in
        (same, grind arith)
    by_test false past at = absurd (cc)

pub not_found : (n len : ℕ) → None ≡ cond (nat_lt n len) (Some n) None → nat_lt n len ≡ false
not_found n len is = by_test (nat_lt n len) is
  where
    by_test : (b : Bool) → None ≡ cond b (Some n) None → b ≡ false
    by_test true at = absurd (cc)
    by_test false at = refl
