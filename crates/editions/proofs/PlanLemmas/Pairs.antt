-- Each two of a list, and lists side by side.
use Rattle.std.proofs.Common.{◌≡◌, ◌≢◌, ℕ, suc, Bool, true, false, cond, Option, None, Some, List, [], ◌∷◌, ◌++◌, map, filter, refl, sym, ap, subst, ◌∙◌, arith, ◌⊎◌, inl, inr}
use Rattle.std.specs.List.{AllPairs, filter_map, cons_option}
use Rattle.std.specs.Option.{option_and_then}
use Rattle.std.specs.Cmp.Lexicographic.{nat_list_cmp_total}
use Rattle.std.specs.Ordering.{on, is_eq}
use Rattle.std.specs.declared.cmp.Ordering.TheVariants.{Less}
use Rattle.std.proofs.lemmas.Bool.{true≢false}
use Rattle.std.proofs.lemmas.Cmp.{tied_itself}
use Rattle.std.proofs.lemmas.List.Kept.{AllPairs-cons}
use Rattle.std.proofs.lemmas.Map.Keys.{sorted_tail}
use Rattle.std.proofs.lemmas.Map.Views.{All-after_first}
use Rattle.pub_set.specs.Objects.{uri_cmp, Rise}
use Rattle.items.specs.laws.AmongLaws.{In, in-all, all-in, in-parts, map-in, filter-in, filter-map-in}
use Rattle.items.specs.laws.PairLaws.{Sides}

-- ---- what is given

pub given-map : {X Y Z : Type 0} (f : Y → Option Z) (h : X → Y) (xs : List X)
    → filter_map f (map h xs) ≡ filter_map (λ x. f (h x)) xs
given-map f h [] = refl
given-map f h (x ∷ xs) = ap (cons_option (f (h x))) (given-map f h xs)

pub given-given : {X Y Z : Type 0} (g : Y → Option Z) (f : X → Option Y) (xs : List X)
    → filter_map g (filter_map f xs) ≡ filter_map (λ x. option_and_then g (f x)) xs
given-given g f [] = refl
given-given {X} {Y} {Z} g f (x ∷ xs) = by (f x) (given-given g f xs)
  where
    by : (o : Option Y) → filter_map g (filter_map f xs) ≡ filter_map (λ z. option_and_then g (f z)) xs → filter_map g (cons_option o (filter_map f xs))
        ≡ cons_option (option_and_then g o) (filter_map (λ z. option_and_then g (f z)) xs)
    by None rest = rest
    by (Some y) rest = ap (cons_option (g y)) rest

-- ---- each two

-- Of each two the first one has that relation to the second.
abbrev pub Twos : {X : Type 0} → (X → X → Type 0) → List X → Type 0
Twos R [] = Unit {0}
Twos {X} R (x ∷ xs) = ((y : X) → In y xs → R x y) × Twos R xs

pub twos-from : {X : Type 0} (R : X → X → Type 0) (xs : List X) → AllPairs R xs → Twos R xs
twos-from R [] pairs = tt
twos-from {X} R (x ∷ xs) pairs = (
  (λ y at. in-all (R x) y xs (λ k d lt. pairs 0 (suc k) d (omega arith) (omega arith)) at),
  twos-from R xs (λ i j d less inside. pairs (suc i) (suc j) d (omega arith) (omega arith)),
)

pub twos-pairs : {X : Type 0} (R : X → X → Type 0) (xs : List X) → Twos R xs → AllPairs R xs
twos-pairs R [] twos = λ i j d less inside. absurd (omega arith)
twos-pairs R (x ∷ xs) twos = AllPairs-cons R x xs (all-in (R x) xs twos.0) (twos-pairs R xs twos.1)

pub twos-weaker : {X : Type 0} (R S : X → X → Type 0) (xs : List X)
    → ((x y : X) → In x xs → In y xs → R x y → S x y) → Twos R xs → Twos S xs
twos-weaker R S [] then twos = tt
twos-weaker R S (x ∷ xs) then twos = (
  (λ y at. then x y (inl refl) (inr at) (twos.0 y at)),
  twos-weaker R S xs (λ y z c d. then y z (inr c) (inr d)) twos.1,
)

pub twos-map : {X Y : Type 0} (f : X → Y) (S : Y → Y → Type 0) (xs : List X)
    → Twos (λ x y. S (f x) (f y)) xs → Twos S (map f xs)
twos-map f S [] twos = tt
twos-map f S (x ∷ xs) twos = (
  (λ y at. let w = map-in f y xs at in subst (S (f x)) w.2 (twos.0 w.0 w.1)),
  twos-map f S xs twos.1,
)

pub twos-given : {X Y : Type 0} (f : X → Option Y) (R : X → X → Type 0) (S : Y → Y → Type 0) (xs : List X)
    → ((x y : X) (a b : Y) → In x xs → In y xs → R x y → f x ≡ Some a → f y ≡ Some b → S a b)
    → Twos R xs → Twos S (filter_map f xs)
twos-given f R S [] then twos = tt
twos-given {X} {Y} f R S (x ∷ xs) then twos =
    by (f x) refl (twos-given f R S xs (λ y z a b c d. then y z a b (inr c) (inr d)) twos.1)
  where
    by : (o : Option Y) → f x ≡ o → Twos S (filter_map f xs) → Twos S (cons_option o (filter_map f xs))
    by None e rest = rest
    by (Some a) e rest = (
      (λ b at. let w = filter-map-in f b xs at in then x w.0 a b (inl refl) (inr w.1) (twos.0 w.0 w.1) e w.2),
      rest,
    )

pub twos-filter : {X : Type 0} (p : X → Bool) (R : X → X → Type 0) (xs : List X) → Twos R xs → Twos R (filter p xs)
twos-filter p R [] twos = tt
twos-filter {X} p R (x ∷ xs) twos = by (p x) (twos-filter p R xs twos.1)
  where
    by : (b : Bool) → Twos R (filter p xs) → Twos R (cond b (x ∷ filter p xs) (filter p xs))
    by true rest = ((λ y at. twos.0 y (filter-in p y xs at).0), rest)
    by false rest = rest

pub twos-append : {X : Type 0} (R : X → X → Type 0) (xs ys : List X) → Twos R xs → Twos R ys
    → ((x y : X) → In x xs → In y ys → R x y) → Twos R (xs ++ ys)
twos-append R [] ys first second between = second
twos-append {X} R (x ∷ xs) ys first second between = (
  (λ y at. by y (in-parts y xs ys at)),
  twos-append R xs ys first.1 second (λ z y c d. between z y (inr c) d),
)
  where
    by : (y : X) → In y xs ⊎ In y ys → R x y
    by y (inl here) = first.0 y here
    by y (inr there) = between x y (inl refl) there

pub less-apart : (a b : List ℕ) → uri_cmp a b ≡ Less → a ≢ b
less-apart a b less same =
    let tied : is_eq (uri_cmp b b) ≡ true = ap is_eq (tied_itself nat_list_cmp_total b) in
    let other : is_eq (uri_cmp b b) ≡ false = ap is_eq (subst (λ (u : List ℕ). uri_cmp u b ≡ Less) same less) in
    true≢false (sym tied ∙ other)

-- Things by rising URI are at URIs of their own.
pub rise-twos : {X : Type 0} (at : X → List ℕ) (xs : List X) → Rise at xs → Twos (λ a b. at a ≢ at b) xs
rise-twos at [] rise = tt
rise-twos {X} at (x ∷ xs) rise = (
  (λ y here. less-apart (at x) (at y)
      (in-all (λ (q : X). on at uri_cmp x q ≡ Less) y xs (All-after_first (on at uri_cmp) x xs rise) here)),
  rise-twos at xs (sorted_tail (on at uri_cmp) x xs rise),
)

-- What tells things apart tells which they are.
pub one-of : {X Y : Type 0} (f : X → Y) (xs : List X) (a b : X) → Twos (λ x y. f x ≢ f y) xs → In a xs → In b xs
    → f a ≡ f b → a ≡ b
one-of f [] a b twos at there same = absurd at
one-of f (x ∷ xs) a b twos (inl p) (inl q) same = sym p ∙ q
one-of f (x ∷ xs) a b twos (inl p) (inr q) same = absurd (twos.0 b q (ap f p ∙ same))
one-of f (x ∷ xs) a b twos (inr p) (inl q) same = absurd (twos.0 a p (ap f q ∙ sym same))
one-of f (x ∷ xs) a b twos (inr p) (inr q) same = one-of f xs a b twos.1 p q same

-- ---- side by side

pub right-of : {X Y : Type 0} (R : X → Y → Type 0) (xs : List X) (ys : List Y) (x : X) → Sides R xs ys → In x xs
    → (y : Y) × In y ys × R x y
right-of R [] ys x sides at = absurd at
right-of R (z ∷ xs) [] x sides at = absurd sides
right-of {X} {Y} R (z ∷ xs) (y ∷ ys) x sides (inl same) = (y, inl refl, subst (λ (w : X). R w y) same sides.0)
right-of R (z ∷ xs) (y ∷ ys) x sides (inr at) = let w = right-of R xs ys x sides.1 at in (w.0, inr w.1, w.2)

pub left-of : {X Y : Type 0} (R : X → Y → Type 0) (xs : List X) (ys : List Y) (y : Y) → Sides R xs ys → In y ys
    → (x : X) × In x xs × R x y
left-of R xs [] y sides at = absurd at
left-of R [] (z ∷ ys) y sides at = absurd sides
left-of {X} {Y} R (x ∷ xs) (z ∷ ys) y sides (inl same) = (x, inl refl, subst (R x) same sides.0)
left-of R (x ∷ xs) (z ∷ ys) y sides (inr at) = let w = left-of R xs ys y sides.1 at in (w.0, inr w.1, w.2)

pub twos-right : {X Y : Type 0} (Q : X → Y → Type 0) (R : X → X → Type 0) (S : Y → Y → Type 0) (xs : List X) (ys : List Y)
    → ((x y : X) (a b : Y) → R x y → Q x a → Q y b → S a b) → Sides Q xs ys → Twos R xs → Twos S ys
twos-right Q R S [] [] then sides twos = tt
twos-right Q R S [] (y ∷ ys) then sides twos = absurd sides
twos-right Q R S (x ∷ xs) [] then sides twos = absurd sides
twos-right Q R S (x ∷ xs) (y ∷ ys) then sides twos = (
  (λ b at. let w = left-of Q xs ys b sides.1 at in then x w.0 y b (twos.0 w.0 w.1) sides.0 w.2),
  twos-right Q R S xs ys then sides.1 twos.1,
)
