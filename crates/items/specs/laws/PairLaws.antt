-- Each of a list, each two of it, and two lists side by side.
use Rattle.std.proofs.Common.{◌≡◌, suc, Bool, true, false, cond, Option, Some, None, List, [], ◌∷◌, ◌++◌, map, filter, refl, sym, subst, ◌∙◌, arith, ◌⊎◌, inl, inr}
use Rattle.std.specs.List.{All, AllPairs, Contains, filter_map, cons_option}
use Rattle.std.proofs.lemmas.List.Kept.{AllPairs-cons}
use Rattle.items.specs.laws.ElementLaws.{none, here, there, first-or-rest, from-map, from-filter, all-from}

-- ---- each one, and each two

abbrev pub Each : {X : Type 0} → (X → Type 0) → List X → Type 0
Each P [] = Unit {0}
Each P (x ∷ xs) = P x × Each P xs

-- Of each two the first one has that relation to the second.
abbrev pub Twos : {X : Type 0} → (X → X → Type 0) → List X → Type 0
Twos R [] = Unit {0}
Twos R (x ∷ xs) = Each (R x) xs × Twos R xs

pub each-at : {X : Type 0} (P : X → Type 0) (xs : List X) (x : X) → Each P xs → Contains xs x → P x
each-at P [] x all c = absurd (none x c)
each-at P (y ∷ xs) x all c = elim (first-or-rest y xs x c) [
  | inl same ↦ subst P same all.0
  | inr later ↦ each-at P xs x all.1 later
]

pub each-from : {X : Type 0} (P : X → Type 0) (xs : List X) → ((x : X) → Contains xs x → P x)
    → Each P xs
each-from P [] all = tt
each-from P (x ∷ xs) all = (all x (here x xs), each-from P xs (λ y c. all y (there x xs y c)))

pub each-append : {X : Type 0} (P : X → Type 0) (xs ys : List X) → Each P xs → Each P ys
    → Each P (xs ++ ys)
each-append P [] ys first second = second
each-append P (x ∷ xs) ys first second = (first.0, each-append P xs ys first.1 second)

pub each-weaker : {X : Type 0} (P Q : X → Type 0) (xs : List X) → ((x : X) → P x → Q x) → Each P xs
    → Each Q xs
each-weaker P Q [] then all = tt
each-weaker P Q (x ∷ xs) then all = (then x all.0, each-weaker P Q xs then all.1)

pub twos-append : {X : Type 0} (R : X → X → Type 0) (xs ys : List X) → Twos R xs → Twos R ys
    → ((x y : X) → Contains xs x → Contains ys y → R x y) → Twos R (xs ++ ys)
twos-append R [] ys first second between = second
twos-append R (x ∷ xs) ys first second between = (
  each-append (R x) xs ys first.0 (each-from (R x) ys (λ y c. between x y (here x xs) c)),
  twos-append R xs ys first.1 second (λ z y c d. between z y (there x xs z c) d),
)

-- Two elements that have the relation in neither order are one.
pub twos-same : {X : Type 0} (R : X → X → Type 0) (xs : List X) (x y : X) → Twos R xs
    → Contains xs x → Contains xs y → (R x y → ⊥) → (R y x → ⊥) → x ≡ y
twos-same R [] x y pairs c d first second = absurd (none x c)
twos-same R (z ∷ xs) x y pairs c d first second =
    elim (first-or-rest z xs x c) [
      | inl left ↦ elim (first-or-rest z xs y d) [
        | inl right ↦ sym left ∙ right
        | inr later ↦ absurd (first (subst (λ w. R w y) left (each-at (R z) xs y pairs.0 later)))
      ]
      | inr early ↦ elim (first-or-rest z xs y d) [
        | inl right ↦ absurd (second (subst (λ w. R w x) right (each-at (R z) xs x pairs.0 early)))
        | inr later ↦ twos-same R xs x y pairs.1 early later first second
      ]
    ]

pub twos-weaker : {X : Type 0} (R S : X → X → Type 0) (xs : List X) → ((x y : X) → R x y → S x y)
    → Twos R xs → Twos S xs
twos-weaker R S [] then pairs = tt
twos-weaker R S (x ∷ xs) then pairs =
    (each-weaker (R x) (S x) xs (then x) pairs.0, twos-weaker R S xs then pairs.1)

pub each-filter_map : {X Y : Type 0} (f : X → Option Y) (P : X → Type 0) (Q : Y → Type 0) (xs : List X)
    → ((x : X) (y : Y) → P x → f x ≡ Some y → Q y) → Each P xs → Each Q (filter_map f xs)
each-filter_map f P Q [] then all = tt
each-filter_map {X} {Y} f P Q (x ∷ xs) then all =
    by (f x) refl (each-filter_map f P Q xs then all.1)
  where
    by : (o : Option Y) → f x ≡ o → Each Q (filter_map f xs)
        → Each Q (cons_option o (filter_map f xs))
    by None e rest = rest
    by (Some y) e rest = (then x y all.0 e, rest)

pub twos-filter_map : {X Y : Type 0} (f : X → Option Y) (R : X → X → Type 0) (S : Y → Y → Type 0)
    (xs : List X) → ((x y : X) (a b : Y) → R x y → f x ≡ Some a → f y ≡ Some b → S a b)
    → Twos R xs → Twos S (filter_map f xs)
twos-filter_map f R S [] then pairs = tt
twos-filter_map {X} {Y} f R S (x ∷ xs) then pairs =
    by (f x) refl (twos-filter_map f R S xs then pairs.1)
  where
    by : (o : Option Y) → f x ≡ o → Twos S (filter_map f xs)
        → Twos S (cons_option o (filter_map f xs))
    by None e rest = rest
    by (Some a) e rest =
        (each-filter_map f (R x) (S a) xs (λ y b r is. then x y a b r e is) pairs.0, rest)

-- ---- two lists side by side

abbrev pub Sides : {X Y : Type 0} → (X → Y → Type 0) → List X → List Y → Type 0
Sides R [] [] = Unit {0}
Sides R [] (y ∷ ys) = ⊥
Sides R (x ∷ xs) [] = ⊥
Sides R (x ∷ xs) (y ∷ ys) = R x y × Sides R xs ys

pub sides-from : {X Y : Type 0} (R : X → Y → Type 0) (xs : List X)
    → ((x : X) → Contains xs x → (y : Y) × R x y) → (ys : List Y) × Sides R xs ys
sides-from R [] all = ([], tt)
sides-from {X} {Y} R (x ∷ xs) all =
    let first = all x (here x xs) in
    let rest = sides-from R xs (λ z c. all z (there x xs z c)) in
    (first.0 ∷ rest.0, (first.1, rest.1))

-- What stands beside an element.
pub side-of : {X Y : Type 0} (R : X → Y → Type 0) (xs : List X) (ys : List Y) (x : X)
    → Sides R xs ys → Contains xs x → (y : Y) × Contains ys y × R x y
side-of R [] [] x sides c = absurd (none x c)
side-of R [] (y ∷ ys) x sides c = absurd sides
side-of R (z ∷ xs) [] x sides c = absurd sides
side-of {X} {Y} R (z ∷ xs) (y ∷ ys) x sides c = elim (first-or-rest z xs x c) [
  | inl same ↦ (y, here y ys, subst (λ (w : X). R w y) same sides.0)
  | inr later ↦
      let s = side-of R xs ys x sides.1 later in (s.0, there y ys s.0 s.1, s.2)
]

pub each-sides : {X Y : Type 0} (Q : X → Y → Type 0) (P : X → Type 0) (S : Y → Type 0) (xs : List X)
    (ys : List Y) → ((x : X) (a : Y) → P x → Q x a → S a) → Sides Q xs ys → Each P xs → Each S ys
each-sides Q P S [] [] then sides all = tt
each-sides Q P S [] (y ∷ ys) then sides all = absurd sides
each-sides Q P S (x ∷ xs) [] then sides all = absurd sides
each-sides Q P S (x ∷ xs) (y ∷ ys) then sides all =
    (then x y all.0 sides.0, each-sides Q P S xs ys then sides.1 all.1)

pub twos-sides : {X Y : Type 0} (Q : X → Y → Type 0) (R : X → X → Type 0) (S : Y → Y → Type 0)
    (xs : List X) (ys : List Y)
    → ((x y : X) (a b : Y) → R x y → Q x a → Q y b → S a b) → Sides Q xs ys → Twos R xs → Twos S ys
twos-sides Q R S [] [] then sides pairs = tt
twos-sides Q R S [] (y ∷ ys) then sides pairs = absurd sides
twos-sides Q R S (x ∷ xs) [] then sides pairs = absurd sides
twos-sides {X} {Y} Q R S (x ∷ xs) (y ∷ ys) then sides pairs = (
  each-sides Q (R x) (S y) xs ys (λ z b r is. then x z y b r sides.0 is) sides.1 pairs.0,
  twos-sides Q R S xs ys then sides.1 pairs.1,
)

-- ---- by their places

pub twos-from : {X : Type 0} (R : X → X → Type 0) (xs : List X) → AllPairs R xs → Twos R xs
twos-from R [] pairs = tt
twos-from {X} R (x ∷ xs) pairs = (
  each-from (R x) xs (λ y c.
      let inside = c.1 in
      subst (R x) c.2 (pairs 0 (suc c.0) y (omega arith) (omega (arith, inside)))),
  twos-from R xs (λ i j d less inside.
      pairs (suc i) (suc j) d (omega (arith, less)) (omega (arith, inside))),
)

pub each-filter : {X : Type 0} (p : X → Bool) (P : X → Type 0) (xs : List X) → Each P xs
    → Each P (filter p xs)
each-filter p P xs all =
    each-from P (filter p xs) (λ x c. each-at P xs x all (from-filter p xs x c).0)

pub twos-filter : {X : Type 0} (p : X → Bool) (R : X → X → Type 0) (xs : List X) → Twos R xs
    → Twos R (filter p xs)
twos-filter p R [] pairs = tt
twos-filter {X} p R (x ∷ xs) pairs = by (p x) (twos-filter p R xs pairs.1)
  where
    by : (b : Bool) → Twos R (filter p xs) → Twos R (cond b (x ∷ filter p xs) (filter p xs))
    by true rest = (each-filter p (R x) xs pairs.0, rest)
    by false rest = rest

pub twos-map : {X Y : Type 0} (f : X → Y) (R : X → X → Type 0) (S : Y → Y → Type 0) (xs : List X)
    → ((x y : X) → R x y → S (f x) (f y)) → Twos R xs → Twos S (map f xs)
twos-map f R S [] then pairs = tt
twos-map f R S (x ∷ xs) then pairs = (
  each-from (S (f x)) (map f xs) (λ y c.
      let m = from-map f xs y c in
      subst (S (f x)) m.2 (then x m.0 (each-at (R x) xs m.0 pairs.0 m.1))),
  twos-map f R S xs then pairs.1,
)

-- Of two elements one stands before the other, or they are one.
pub twos-cases : {X : Type 0} (R : X → X → Type 0) (xs : List X) (x y : X) → Twos R xs
    → Contains xs x → Contains xs y → (x ≡ y) ⊎ (R x y ⊎ R y x)
twos-cases R [] x y pairs c d = absurd (none x c)
twos-cases R (z ∷ xs) x y pairs c d =
    elim (first-or-rest z xs x c) [
      | inl left ↦ elim (first-or-rest z xs y d) [
        | inl right ↦ inl (sym left ∙ right)
        | inr later ↦ inr (inl (subst (λ w. R w y) left (each-at (R z) xs y pairs.0 later)))
      ]
      | inr early ↦ elim (first-or-rest z xs y d) [
        | inl right ↦ inr (inr (subst (λ w. R w x) right (each-at (R z) xs x pairs.0 early)))
        | inr later ↦ twos-cases R xs x y pairs.1 early later
      ]
    ]

pub each-all : {X : Type 0} (P : X → Type 0) (xs : List X) → Each P xs → All P xs
each-all P xs all = all-from P xs (λ x c. each-at P xs x all c)

pub twos-pairs : {X : Type 0} (R : X → X → Type 0) (xs : List X) → Twos R xs → AllPairs R xs
twos-pairs R [] twos = λ i j d less inside. absurd (omega (arith, inside))
twos-pairs R (x ∷ xs) twos =
    AllPairs-cons R x xs (each-all (R x) xs twos.0) (twos-pairs R xs twos.1)
