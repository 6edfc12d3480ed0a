-- Lists of which the part between two places is turned by one.
use Rattle.std.proofs.Common.{◌≡◌, ℕ, zero, suc, ◌+◌, ◌<◌, ◌≤◌, refl, sym, ◌∙◌, ap, subst, arith, length, get_or, take, drop, List, [], ◌∷◌, ◌++◌}
use Rattle.std.specs.Prelude.{insert, remove}
use Rattle.std.specs.List.{slice_set}
use Rattle.std.proofs.lemmas.List.{append_assoc, length-append, length-take, length-drop}
use borrow.Rule.Slice.PartMut.{mid_of, put_mid}

module _ {X : Type 0} where
  up_by_one : (xs ys : List X) (s p to : ℕ) (x : X) → to ≡ s + p → to < length xs →
      ys ≡ drop 1 (mid_of s (suc p) (slice_set xs s x)) ++ take 1 (mid_of s (suc p) (slice_set xs s x)) →
      put_mid s (suc p) (slice_set xs s x) ys ≡ remove (insert xs (suc to) x) s
  up_by_one [] ys s p to x sum within turned = absurd (omega arith)
  up_by_one (y ∷ xs) ys zero p to x sum within turned =
      let same : p ≡ to = omega (arith, sum) in
      ap (λ l. l ++ drop p xs) turned ∙ (append_assoc (take p xs) (x ∷ []) (drop p xs) ∙ ap (λ (k : ℕ). take k xs ++ x ∷ drop k xs) same)
  up_by_one (y ∷ xs) ys (suc s) p zero x sum within turned = absurd (omega (arith, sum))
  up_by_one (y ∷ xs) ys (suc s) p (suc to) x sum within turned =
      ap (λ l. y ∷ l) (up_by_one xs ys s p to x (omega (arith, sum)) (omega arith) turned)

  -- The first place of a part is written, and goes behind the others.
  pub turned_up : (xs ys : List X) (s n to : ℕ) (x : X) → s + n ≡ to → 0 < n → to ≤ length xs →
      ys ≡ drop 1 (mid_of s n (slice_set xs s x)) ++ take 1 (mid_of s n (slice_set xs s x)) →
      put_mid s n (slice_set xs s x) ys ≡ remove (insert xs to x) s
  turned_up xs ys s zero to x sum some within turned = absurd (omega arith)
  turned_up xs ys s (suc p) zero x sum some within turned = absurd (omega (arith, sum))
  turned_up xs ys s (suc p) (suc to) x sum some within turned =
      up_by_one xs ys s p to x (omega (arith, sum)) (omega arith) turned

  last_of : (xs : List X) (p : ℕ) (x : X) → p < length xs → drop p (take (suc p) (slice_set xs p x)) ≡ x ∷ []
  last_of [] p x within = absurd (omega arith)
  last_of (y ∷ xs) zero x within = refl
  last_of (y ∷ xs) (suc p) x within = last_of xs p x (omega arith)

  before_last : (xs : List X) (p : ℕ) (x : X) → p < length xs → take p (take (suc p) (slice_set xs p x)) ≡ take p xs
  before_last [] p x within = absurd (omega arith)
  before_last (y ∷ xs) zero x within = refl
  before_last (y ∷ xs) (suc p) x within = ap (λ l. y ∷ l) (before_last xs p x (omega arith))

  behind_last : (xs : List X) (p : ℕ) (x : X) → p < length xs → drop (suc p) (slice_set xs p x) ≡ drop (suc p) xs
  behind_last [] p x within = absurd (omega arith)
  behind_last (y ∷ xs) zero x within = refl
  behind_last (y ∷ xs) (suc p) x within = behind_last xs p x (omega arith)

  down_first : (xs ys : List X) (p : ℕ) (x : X) → p < length xs →
      ys ≡ drop p (mid_of 0 (suc p) (slice_set xs p x)) ++ take p (mid_of 0 (suc p) (slice_set xs p x)) →
      put_mid 0 (suc p) (slice_set xs p x) ys ≡ remove (insert xs 0 x) (suc p)
  down_first xs ys p x within turned =
      ap (λ l. l ++ drop (suc p) (slice_set xs p x)) turned
      ∙ (ap (λ l. (l ++ take p (take (suc p) (slice_set xs p x))) ++ drop (suc p) (slice_set xs p x)) (last_of xs p x within)
      ∙ (ap (λ l. x ∷ (l ++ drop (suc p) (slice_set xs p x))) (before_last xs p x within)
      ∙ ap (λ l. x ∷ (take p xs ++ l)) (behind_last xs p x within)))

  down_by_one : (xs ys : List X) (s p from : ℕ) (x : X) → from ≡ s + p → from < length xs →
      ys ≡ drop p (mid_of s (suc p) (slice_set xs from x)) ++ take p (mid_of s (suc p) (slice_set xs from x)) →
      put_mid s (suc p) (slice_set xs from x) ys ≡ remove (insert xs s x) (suc from)
  down_by_one [] ys s p from x sum within turned = absurd (omega arith)
  down_by_one (y ∷ xs) ys zero p from x sum within turned =
      let same : p ≡ from = omega (arith, sum) in
      subst (λ (k : ℕ). k < length (y ∷ xs) → ys ≡ drop p (mid_of 0 (suc p) (slice_set (y ∷ xs) k x)) ++ take p (mid_of 0 (suc p) (slice_set (y ∷ xs) k x)) →
      put_mid 0 (suc p) (slice_set (y ∷ xs) k x) ys ≡ remove (insert (y ∷ xs) 0 x) (suc k)) same
      (λ low first. down_first (y ∷ xs) ys p x low first) within turned
  down_by_one (y ∷ xs) ys (suc s) p zero x sum within turned = absurd (omega (arith, sum))
  down_by_one (y ∷ xs) ys (suc s) p (suc from) x sum within turned =
      ap (λ l. y ∷ l) (down_by_one xs ys s p from x (omega (arith, sum)) (omega arith) turned)

  -- The last place of a part is written, and goes before the others.
  pub turned_down : (xs ys : List X) (s n m from : ℕ) (x : X) → s + m ≡ from → n ≡ suc m → from < length xs →
      ys ≡ drop m (mid_of s n (slice_set xs from x)) ++ take m (mid_of s n (slice_set xs from x)) →
      put_mid s n (slice_set xs from x) ys ≡ remove (insert xs s x) (suc from)
  turned_down xs ys s n m from x sum long within =
      subst (λ (k : ℕ). ys ≡ drop m (mid_of s k (slice_set xs from x)) ++ take m (mid_of s k (slice_set xs from x)) →
      put_mid s k (slice_set xs from x) ys ≡ remove (insert xs s x) (suc from)) (sym long)
      (down_by_one xs ys s m from x (sym sum) within)

  -- A part that keeps its length keeps that of the list.
  pub length-turned : (xs ys : List X) (s n : ℕ) → s + n ≤ length xs → length ys ≡ n → length (put_mid s n xs ys) ≡ length xs
  length-turned xs ys s n within same =
      omega (arith, within, same, length-append (take s xs) (ys ++ drop n (drop s xs)), length-append ys (drop n (drop s xs)), length-take s xs, length-drop n (drop s xs), length-drop s xs)

  -- ---- what stands where, with one more

  pub before_insert : (xs : List X) (to i : ℕ) (x d : X) → i < to → to ≤ length xs → get_or (insert xs to x) i d ≡ get_or xs i d
  before_insert xs zero i x d below within = absurd (omega arith)
  before_insert [] (suc to) i x d below within = absurd (omega arith)
  before_insert (y ∷ xs) (suc to) zero x d below within = refl
  before_insert (y ∷ xs) (suc to) (suc i) x d below within = before_insert xs to i x d (omega arith) (omega arith)

  pub behind_insert : (xs : List X) (to i : ℕ) (x d : X) → to ≤ i → i < length xs → get_or (insert xs to x) (suc i) d ≡ get_or xs i d
  behind_insert xs zero i x d above within = refl
  behind_insert [] (suc to) i x d above within = absurd (omega arith)
  behind_insert (y ∷ xs) (suc to) zero x d above within = absurd (omega arith)
  behind_insert (y ∷ xs) (suc to) (suc i) x d above within = behind_insert xs to i x d (omega arith) (omega arith)

  pub length-insert : (xs : List X) (to : ℕ) (x : X) → to ≤ length xs → length (insert xs to x) ≡ suc (length xs)
  length-insert xs zero x within = refl
  length-insert [] (suc to) x within = absurd (omega arith)
  length-insert (y ∷ xs) (suc to) x within = ap suc (length-insert xs to x (omega arith))
