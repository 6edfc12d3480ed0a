-- Lists behind a gap, changed on either side of a place.
use Rattle.std.proofs.Common.{◌≡◌, ℕ, zero, suc, ◌+◌, ◌<◌, ◌≤◌, refl, sym, ◌∙◌, ap, subst, arith, length, take, drop, List, [], ◌∷◌, ◌++◌}
use Rattle.std.specs.Prelude.{insert, remove}
use Rattle.std.specs.List.{slice_set}
use Rattle.std.proofs.lemmas.List.{take-take, append_assoc, length-append, length-take, length-drop}
use borrow.Rule.Slice.PartMut.{mid_of, put_mid}

module _ {X : Type 0} where
  one_at : (xs : List X) (p : ℕ) → p < length xs → (x : X) × (drop p (take (suc p) xs) ≡ x ∷ [])
  one_at [] p within = absurd (omega arith)
  one_at (x ∷ xs) zero within = (x, refl)
  one_at (x ∷ xs) (suc p) within = one_at xs p (omega arith)

  first_gone : (xs : List X) (p : ℕ) → p < length xs →
      drop 1 ((drop p (take (suc p) xs) ++ take p (take (suc p) xs)) ++ drop (suc p) xs) ≡ remove xs p
  first_gone xs p within =
      let one = one_at xs p within in
      ap (λ l. drop 1 ((l ++ take p (take (suc p) xs)) ++ drop (suc p) xs)) one.1
      ∙ ap (λ l. l ++ drop (suc p) xs) (take-take p (suc p) xs (omega arith))

  removed_before : (xs ys : List X) (s p : ℕ) → s + p < length xs →
      ys ≡ drop p (mid_of s (suc p) xs) ++ take p (mid_of s (suc p) xs) →
      drop (suc s) (put_mid s (suc p) xs ys) ≡ remove (drop s xs) p
  removed_before [] ys s p within turned = absurd (omega arith)
  removed_before (x ∷ xs) ys zero p within turned =
      ap (λ l. drop 1 (l ++ drop (suc p) (x ∷ xs))) turned ∙ first_gone (x ∷ xs) p (omega arith)
  removed_before (x ∷ xs) ys (suc s) p within turned = removed_before xs ys s p (omega arith) turned

  -- The last of the first elements goes before them, into the gap.
  pub removed_left : (xs ys : List X) (s p n m : ℕ) → n ≡ suc p → m ≡ p → s + p < length xs →
      ys ≡ drop m (mid_of s n xs) ++ take m (mid_of s n xs) → drop (suc s) (put_mid s n xs ys) ≡ remove (drop s xs) p
  removed_left xs ys s p n m long last within =
      subst (λ (k : ℕ). ys ≡ drop k (mid_of s n xs) ++ take k (mid_of s n xs) → drop (suc s) (put_mid s n xs ys) ≡ remove (drop s xs) p) (sym last)
      (subst (λ (k : ℕ). ys ≡ drop p (mid_of s k xs) ++ take p (mid_of s k xs) → drop (suc s) (put_mid s k xs ys) ≡ remove (drop s xs) p) (sym long)
      (removed_before xs ys s p within))

  pub removed_right : (xs : List X) (s p i : ℕ) → i ≡ s + p → s + p < length xs → drop s (remove xs i) ≡ remove (drop s xs) p
  removed_right xs zero p i at within = let same : i ≡ p = omega arith in ap (λ k. remove xs k) same
  removed_right [] (suc s) p i at within = absurd (omega arith)
  removed_right (x ∷ xs) (suc s) p zero at within = absurd (omega arith)
  removed_right (x ∷ xs) (suc s) p (suc i) at within = removed_right xs s p i (omega arith) (omega arith)

  put_before : (xs ys : List X) (s p : ℕ) (x : X) → s + p < length xs →
      ys ≡ drop 1 (mid_of s (suc p) (slice_set xs s x)) ++ take 1 (mid_of s (suc p) (slice_set xs s x)) →
      drop s (put_mid s (suc p) (slice_set xs s x) ys) ≡ insert (drop (suc s) xs) p x
  put_before [] ys s p x within turned = absurd (omega arith)
  put_before (y ∷ xs) ys zero p x within turned =
      ap (λ l. l ++ drop p xs) turned ∙ append_assoc (take p xs) (x ∷ []) (drop p xs)
  put_before (y ∷ xs) ys (suc s) p x within turned = put_before xs ys s p x (omega arith) turned

  -- A part that keeps its length keeps that of the list.
  pub length-put_mid : (s n : ℕ) (xs ys : List X) → s + n ≤ length xs → length ys ≡ n → length (put_mid s n xs ys) ≡ length xs
  length-put_mid s n xs ys within same =
      omega (arith, within, same, length-append (take s xs) (ys ++ drop n (drop s xs)), length-append ys (drop n (drop s xs)), length-take s xs, length-drop n (drop s xs), length-drop s xs)

  -- An element that was written into the gap goes behind the first ones.
  pub put_left : (xs ys : List X) (s p n : ℕ) (x : X) → n ≡ suc p → s + p < length xs →
      ys ≡ drop 1 (mid_of s n (slice_set xs s x)) ++ take 1 (mid_of s n (slice_set xs s x)) →
      drop s (put_mid s n (slice_set xs s x) ys) ≡ insert (drop (suc s) xs) p x
  put_left xs ys s p n x long within =
      subst (λ (k : ℕ). ys ≡ drop 1 (mid_of s k (slice_set xs s x)) ++ take 1 (mid_of s k (slice_set xs s x)) → drop s (put_mid s k (slice_set xs s x) ys) ≡ insert (drop (suc s) xs) p x) (sym long)
      (put_before xs ys s p x within)

  pub put_right : (xs : List X) (s p i : ℕ) (x : X) → i ≡ s + p → s + p ≤ length xs → drop s (insert xs i x) ≡ insert (drop s xs) p x
  put_right xs zero p i x at within = let same : i ≡ p = omega arith in ap (λ k. insert xs k x) same
  put_right [] (suc s) p i x at within = absurd (omega arith)
  put_right (y ∷ xs) (suc s) p zero x at within = absurd (omega arith)
  put_right (y ∷ xs) (suc s) p (suc i) x at within = put_right xs s p i x (omega arith) (omega arith)
