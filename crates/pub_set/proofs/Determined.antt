-- What is found at each URI determines a rising list.
use Rattle.std.proofs.Common.{◌≡◌, ℕ, true, false, cond, refl, sym, ◌∙◌, ap, List, [], ◌∷◌, Some, None}
use Rattle.std.specs.declared.cmp.Ordering.TheVariants.{Less, Equal, Greater}
use Rattle.pub_set.specs.Objects.{uri_cmp, is_same, found_at, Rise, AllAbove}
use Rattle.pub_set.specs.laws.UriLaws.{same_is, same_self, tied_is, below_from_above}
use Rattle.pub_set.specs.laws.LookupLaws.{none_above, rise-head, rise-tail, above_further}

some_is : {V : Type 0} (a b : V) → Some a ≡ Some b → a ≡ b
some_is a b h = cc

module _ {X V : Type 0} (key : X → List ℕ) (told : X → V) where
  found_at-first : (x : X) (xs : List X) → found_at key told (x ∷ xs) (key x) ≡ Some (told x)
  found_at-first x xs = rw (same_self (key x)) refl

  -- The least of one list is found in the other, so it isn't below the other's least.
  not_below : (x : X) (xs ys : List X) → found_at key told (x ∷ xs) (key x) ≡ found_at key told ys (key x) → AllAbove key ys (key x) → ⊥
  not_below x xs ys same above =
      let none = none_above key told ys (key x) above in
      let some = found_at-first x xs in
      cc

  tails_same : (x y : X) (xs ys : List X) → Rise key (x ∷ xs) → Rise key (y ∷ ys) → key x ≡ key y →
      ((uri : List ℕ) → found_at key told (x ∷ xs) uri ≡ found_at key told (y ∷ ys) uri) →
      (uri : List ℕ) → found_at key told xs uri ≡ found_at key told ys uri
  tails_same x y xs ys first second keys same uri =
      elim (is_same (key x) uri) as (λ b. is_same (key x) uri ≡ b →
      cond b (Some (told x)) (found_at key told xs uri) ≡ cond b (Some (told y)) (found_at key told ys uri) →
      found_at key told xs uri ≡ found_at key told ys uri) [
        | true ↦ λ here both.
            let at : key x ≡ uri = same_is (key x) uri here in
            let no_xs : found_at key told xs uri ≡ None = rw (← at) (none_above key told xs (key x) (rise-head key x xs first)) in
            let no_ys : found_at key told ys uri ≡ None = rw (← at, keys) (none_above key told ys (key y) (rise-head key y ys second)) in
            no_xs ∙ sym no_ys
        | false ↦ λ here both. both
      ] refl (same uri ∙ ap (λ k. cond (is_same k uri) (Some (told y)) (found_at key told ys uri)) (sym keys))

  pub rise_determined : ((x y : X) → key x ≡ key y → told x ≡ told y → x ≡ y) → (xs ys : List X) → Rise key xs → Rise key ys →
      ((uri : List ℕ) → found_at key told xs uri ≡ found_at key told ys uri) → xs ≡ ys
  rise_determined one [] [] first second same = refl
  rise_determined one [] (y ∷ ys) first second same = absurd (not_below y ys [] (sym (same (key y))) tt)
  rise_determined one (x ∷ xs) [] first second same = absurd (not_below x xs [] (same (key x)) tt)
  rise_determined one (x ∷ xs) (y ∷ ys) first second same =
      elim (uri_cmp (key x) (key y)) as (λ r. uri_cmp (key x) (key y) ≡ r → x ∷ xs ≡ y ∷ ys) [
        | Less ↦ λ is. absurd (not_below x xs (y ∷ ys) (same (key x)) (is, above_further key (key x) (key y) ys is (rise-head key y ys second)))
        | Equal ↦ λ is.
            let keys : key x ≡ key y = tied_is (key x) (key y) is in
            let found : found_at key told (x ∷ xs) (key x) ≡ found_at key told (y ∷ ys) (key y) = same (key x) ∙ ap (found_at key told (y ∷ ys)) keys in
            let values : told x ≡ told y = some_is (told x) (told y) (sym (found_at-first x xs) ∙ (found ∙ found_at-first y ys)) in
            let head = one x y keys values in
            let tail = rise_determined one xs ys (rise-tail key x xs first) (rise-tail key y ys second) (tails_same x y xs ys first second keys same) in
            cc
        | Greater ↦ λ is.
            let less = below_from_above (key x) (key y) is in
            absurd (not_below y ys (x ∷ xs) (sym (same (key y))) (less, above_further key (key y) (key x) xs less (rise-head key x xs first)))
      ] refl
