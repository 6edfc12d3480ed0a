-- Each of a list and each two of it, by what is among it.
use Rattle.std.proofs.Common.{◌≡◌, ◌≢◌, suc, AllPairs, Bool, true, false, cond, List, [], ◌∷◌, ◌++◌, ◌⊎◌, inl, inr, map, filter, refl, sym, ap, subst, ◌∙◌, arith}
use Rattle.std.specs.List.{All}
use Rattle.items.specs.laws.AmongLaws.{In, all-in, in-parts, map-in, filter-in, in-contains}
use Rattle.items.specs.laws.PairLaws.{Each, Twos}

pub each-in : {X : Type 0} (P : X → Type 0) (x : X) (xs : List X) → Each P xs → In x xs → P x
each-in P x [] all at = absurd at
each-in P x (y ∷ ys) all (inl same) = subst P same all.0
each-in P x (y ∷ ys) all (inr at) = each-in P x ys all.1 at

pub each-from : {X : Type 0} (P : X → Type 0) (xs : List X) → ((x : X) → In x xs → P x) → Each P xs
each-from P [] holds = tt
each-from P (x ∷ xs) holds = (holds x (inl refl), each-from P xs (λ y at. holds y (inr at)))

-- A relation that follows from another, for what is among the list.
pub twos-from : {X : Type 0} (R S : X → X → Type 0) (xs : List X)
    → ((x y : X) → In x xs → In y xs → R x y → S x y) → Twos R xs → Twos S xs
twos-from R S [] follows twos = tt
twos-from R S (x ∷ xs) follows twos = (
  each-from (S x) xs (λ y at. follows x y (inl refl) (inr at) (each-in (R x) y xs twos.0 at)),
  twos-from R S xs (λ y z at there. follows y z (inr at) (inr there)) twos.1,
)

pub twos-filter : {X : Type 0} (R : X → X → Type 0) (p : X → Bool) (xs : List X) → Twos R xs
    → Twos R (filter p xs)
twos-filter R p [] twos = tt
twos-filter {X} R p (x ∷ xs) twos = by (p x) (twos-filter R p xs twos.1)
  where
    by : (b : Bool) → Twos R (filter p xs) → Twos R (cond b (x ∷ filter p xs) (filter p xs))
    by true rest = (
      each-from (R x) (filter p xs) (λ y at. each-in (R x) y xs twos.0 (filter-in p y xs at).0),
      rest,
    )
    by false rest = rest

pub twos-map : {X Y : Type 0} (R : Y → Y → Type 0) (f : X → Y) (xs : List X)
    → Twos (λ x y. R (f x) (f y)) xs → Twos R (map f xs)
twos-map R f [] twos = tt
twos-map {X} {Y} R f (x ∷ xs) twos = (
  each-from (R (f x)) (map f xs) (λ y at.
      let w = map-in f y xs at in
      subst (R (f x)) w.2 (each-in (λ (z : X). R (f x) (f z)) w.0 xs twos.0 w.1)),
  twos-map R f xs twos.1,
)

pub twos-append : {X : Type 0} (R : X → X → Type 0) (xs ys : List X) → Twos R xs → Twos R ys
    → ((x y : X) → In x xs → In y ys → R x y) → Twos R (xs ++ ys)
twos-append R [] ys one two across = two
twos-append {X} R (x ∷ xs) ys one two across = (
  each-from (R x) (xs ++ ys) (λ z at. by z (in-parts z xs ys at)),
  twos-append R xs ys one.1 two (λ y z at there. across y z (inr at) there),
)
  where
    by : (z : X) → In z xs ⊎ In z ys → R x z
    by z (inl at) = each-in (R x) z xs one.0 at
    by z (inr at) = across x z (inl refl) at

-- What tells elements apart tells which they are.
pub one-of : {X Y : Type 0} (f : X → Y) (xs : List X) (a b : X) → Twos (λ x y. f x ≢ f y) xs
    → In a xs → In b xs → f a ≡ f b → a ≡ b
one-of f [] a b twos at there same = absurd at
one-of f (x ∷ xs) a b twos (inl p) (inl q) same = sym p ∙ q
one-of {X} {Y} f (x ∷ xs) a b twos (inl p) (inr q) same =
    absurd (each-in (λ (y : X). f x ≢ f y) b xs twos.0 q (ap f p ∙ same))
one-of {X} {Y} f (x ∷ xs) a b twos (inr p) (inl q) same =
    absurd (each-in (λ (y : X). f x ≢ f y) a xs twos.0 p (ap f q ∙ sym same))
one-of f (x ∷ xs) a b twos (inr p) (inr q) same = one-of f xs a b twos.1 p q same

-- ---- places in a list

pub pairs-twos : {X : Type 0} (R : X → X → Type 0) (xs : List X) → AllPairs R xs → Twos R xs
pairs-twos R [] pairs = tt
pairs-twos {X} R (x ∷ xs) pairs = (
  each-from (R x) xs (λ y at.
      let c = in-contains y xs at in
      let inside = c.1 in
      subst (R x) c.2 (pairs 0 (suc c.0) y (omega arith) (omega (arith, inside)))),
  pairs-twos R xs (λ i j d less inside. pairs (suc i) (suc j) d (omega (arith, less)) (omega (arith, inside))),
)

each-all : {X : Type 0} (P : X → Type 0) (xs : List X) → Each P xs → All P xs
each-all P xs each = all-in P xs (λ x at. each-in P x xs each at)
