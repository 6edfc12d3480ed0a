-- Lists of things that each have a URI: their order, and what is found at a URI.
use Rattle.std.proofs.Common.{◌≡◌, ℕ, ◌<◌, zero, suc, true, false, cond, refl, arith, length, get_or, List, [], ◌∷◌, ◌++◌, Some, None}
use Rattle.std.specs.Option.{option_or}
use Rattle.std.specs.List.{AllByRecursion}
use Rattle.std.specs.List.Sorted.{IsStrictlySortedBy}
use Rattle.std.specs.Ordering.{on}
use Rattle.std.specs.declared.cmp.Ordering.TheVariants.{Less}
use Rattle.std.proofs.lemmas.Map.Keys.{sorted_head, sorted_tail}
use Rattle.pub_set.specs.Objects.{uri_cmp, is_same, found_at, Rise, AllBelow, AllAbove}
use Rattle.pub_set.specs.laws.UriLaws.{uri_total, same_self, other_below, other_above}

module _ {X : Type 0} where
  -- What holds of each element, and follows from it, holds of each.
  pub all_weaken : (P Q : X → Type 0) → ((x : X) → P x → Q x) → (xs : List X)
      → AllByRecursion P xs → AllByRecursion Q xs
  all_weaken P Q step [] all = tt
  all_weaken P Q step (x ∷ xs) all = (step x all.0, all_weaken P Q step xs all.1)

  pub all_append : (P : X → Type 0) (xs ys : List X) → AllByRecursion P xs → AllByRecursion P ys
      → AllByRecursion P (xs ++ ys)
  all_append P [] ys first second = second
  all_append P (x ∷ xs) ys first second = (first.0, all_append P xs ys first.1 second)

  pub all_left : (P : X → Type 0) (xs ys : List X) → AllByRecursion P (xs ++ ys)
      → AllByRecursion P xs
  all_left P [] ys all = tt
  all_left P (x ∷ xs) ys all = (all.0, all_left P xs ys all.1)

  pub all_right : (P : X → Type 0) (xs ys : List X) → AllByRecursion P (xs ++ ys)
      → AllByRecursion P ys
  all_right P [] ys all = all
  all_right P (x ∷ xs) ys all = all_right P xs ys all.1

  pub all_at : (P : X → Type 0) (xs : List X) (i : ℕ) (d : X) → AllByRecursion P xs
      → i < length xs → P (get_or xs i d)
  all_at P [] i d all within = absurd (omega arith)
  all_at P (x ∷ xs) zero d all within = all.0
  all_at P (x ∷ xs) (suc i) d all within = all_at P xs i d all.1 (omega arith)

module _ {X : Type 0} (key : X → List ℕ) where
  pub rise-nil : Rise key []
  unfolding IsStrictlySortedBy
  rise-nil = tt

  pub rise-cons : (x : X) (xs : List X) → AllAbove key xs (key x) → Rise key xs
      → Rise key (x ∷ xs)
  unfolding IsStrictlySortedBy
  rise-cons x xs above up = (above, up)

  pub rise-one : (x : X) → Rise key (x ∷ [])
  rise-one x = rise-cons x [] tt rise-nil

  pub rise-head : (x : X) (xs : List X) → Rise key (x ∷ xs) → AllAbove key xs (key x)
  rise-head x xs up = sorted_head (on key uri_cmp) x xs up

  pub rise-tail : (x : X) (xs : List X) → Rise key (x ∷ xs) → Rise key xs
  rise-tail x xs up = sorted_tail (on key uri_cmp) x xs up

  pub above_further : (a b : List ℕ) (xs : List X) → uri_cmp a b ≡ Less → AllAbove key xs b
      → AllAbove key xs a
  above_further a b xs less =
      all_weaken (λ x. uri_cmp b (key x) ≡ Less) (λ x. uri_cmp a (key x) ≡ Less)
      (λ x h. uri_total.trans a b (key x) less h) xs

  pub below_further : (a b : List ℕ) (xs : List X) → uri_cmp a b ≡ Less → AllBelow key xs a
      → AllBelow key xs b
  below_further a b xs less =
      all_weaken (λ x. uri_cmp (key x) a ≡ Less) (λ x. uri_cmp (key x) b ≡ Less)
      (λ x h. uri_total.trans (key x) a b h less) xs

  -- Two rising lists, the first below the second.
  pub rise-append : (xs ys : List X) → Rise key xs → Rise key ys
      → AllByRecursion (λ x. AllAbove key ys (key x)) xs → Rise key (xs ++ ys)
  rise-append [] ys first second apart = second
  rise-append (x ∷ xs) ys first second apart =
      rise-cons x (xs ++ ys) (all_append (λ y. uri_cmp (key x) (key y) ≡ Less) xs ys
      (rise-head x xs first) apart.0)
      (rise-append xs ys (rise-tail x xs first) second apart.1)

  -- The same, with a URI between them.
  pub rise-between : (xs ys : List X) (uri : List ℕ) → Rise key xs → Rise key ys
      → AllBelow key xs uri → AllAbove key ys uri → Rise key (xs ++ ys)
  rise-between xs ys uri first second below above =
      rise-append xs ys first second
      (all_weaken (λ x. uri_cmp (key x) uri ≡ Less) (λ x. AllAbove key ys (key x))
      (λ x h. above_further (key x) uri ys h above) xs below)

  pub rise-left : (xs ys : List X) → Rise key (xs ++ ys) → Rise key xs
  rise-left [] ys up = rise-nil
  rise-left (x ∷ xs) ys up =
      rise-cons x xs (all_left (λ y. uri_cmp (key x) (key y) ≡ Less) xs ys (rise-head x
      (xs ++ ys) up)) (rise-left xs ys (rise-tail x (xs ++ ys) up))

  pub rise-right : (xs ys : List X) → Rise key (xs ++ ys) → Rise key ys
  rise-right [] ys up = up
  rise-right (x ∷ xs) ys up = rise-right xs ys (rise-tail x (xs ++ ys) up)

  -- What stands before another in a rising list is below it.
  pub below-middle : (xs : List X) (x : X) (ys : List X) → Rise key (xs ++ x ∷ ys)
      → AllBelow key xs (key x)
  below-middle [] x ys up = tt
  below-middle (y ∷ xs) x ys up = (
    (all_right (λ z. uri_cmp (key y) (key z) ≡ Less) xs (x ∷ ys) (rise-head y
        (xs ++ x ∷ ys) up)).0,
    below-middle xs x ys (rise-tail y (xs ++ x ∷ ys) up),
  )

  -- One more behind all others.
  pub rise-push : (xs : List X) (x : X) → Rise key xs → AllBelow key xs (key x)
      → Rise key (xs ++ x ∷ [])
  rise-push xs x up below =
      rise-append xs (x ∷ []) up (rise-one x)
      (all_weaken (λ y. uri_cmp (key y) (key x) ≡ Less) (λ y. AllAbove key (x ∷ []) (key y))
      (λ y h. (h, tt)) xs below)

module _ {X V : Type 0} (key : X → List ℕ) (told : X → V) where
  pub none_above : (xs : List X) (uri : List ℕ) → AllAbove key xs uri
      → found_at key told xs uri ≡ None
  none_above [] uri above = refl
  none_above (x ∷ xs) uri above = rw (other_above (key x) uri above.0) (none_above xs uri above.1)

  pub none_below : (xs : List X) (uri : List ℕ) → AllBelow key xs uri
      → found_at key told xs uri ≡ None
  none_below [] uri below = refl
  none_below (x ∷ xs) uri below = rw (other_below (key x) uri below.0) (none_below xs uri below.1)

  -- What isn't in the front is looked for behind it.
  pub found_at-append : (xs ys : List X) (uri : List ℕ)
      → found_at key told (xs ++ ys) uri
      ≡ option_or (found_at key told xs uri) (found_at key told ys uri)
  found_at-append [] ys uri = refl
  found_at-append (x ∷ xs) ys uri =
      elim (is_same (key x) uri) as (λ b. cond b (Some (told x)) (found_at key told
      (xs ++ ys) uri) ≡ option_or (cond b (Some (told x)) (found_at key told xs uri))
      (found_at key told ys uri)) [
        | true ↦ refl
        | false ↦ found_at-append xs ys uri
      ]

  -- What is at a place is found at its URI.
  pub found_at-place : (xs : List X) (i : ℕ) (d : X) → Rise key xs → i < length xs
      → found_at key told xs (key (get_or xs i d)) ≡ Some (told (get_or xs i d))
  found_at-place [] i d up within = absurd (omega arith)
  found_at-place (x ∷ xs) zero d up within = rw (same_self (key x)) refl
  found_at-place (x ∷ xs) (suc i) d up within =
      let after : uri_cmp (key x) (key (get_or xs i d)) ≡ Less = all_at (λ y. uri_cmp (key x)
      (key y) ≡ Less) xs i d (rise-head key x xs up) (omega arith) in
      rw (other_below (key x) (key (get_or xs i d)) after) (found_at-place xs i d
      (rise-tail key x xs up) (omega arith))
