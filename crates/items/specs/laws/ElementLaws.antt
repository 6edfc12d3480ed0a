-- Elements of lists: what they come from, what is found, what holds of all, and how many pass a test.
use Rattle.std.proofs.Common.{◌≡◌, ◌≢◌, ℕ, zero, suc, ◌+◌, ◌<◌, ◌≤◌, Bool, true, false, cond, Option, Some, None, List, [], ◌∷◌, ◌++◌, length, map, get_or, remove, filter, find, refl, sym, ap, subst, ◌∙◌, arith, ◌⊎◌, inl, inr}
use Rattle.std.specs.List.{All, AllPairs, Contains, filter_map, cons_option, count_by}
use Rattle.std.specs.List.Sorted.{IsPermutation}
use Rattle.std.specs.Prelude.{slice_get, slice_set}
use Rattle.std.proofs.lemmas.Bool.{false≢true}
use Rattle.std.proofs.lemmas.Option.{same_Some}
use Rattle.std.proofs.lemmas.List.{get_or_append_left, length-append}
use Rattle.std.proofs.lemmas.List.Elements.{All-nil, All-contains, Contains-get_or, Contains-append_left, Contains-append_right, Contains-append_cases, Contains-push, Contains-push_cases}
use Rattle.std.proofs.lemmas.List.Sorted.{IsPermutation-remove, Contains-permutation, length_permutation}
use Rattle.std.proofs.lemmas.List.Sums.{sum_by-cons, sum_by-le-sum_by}

-- ---- elements

pub none : {X : Type 0} (x : X) → Contains [] x → ⊥
none {X = X} x c = All-contains (λ (y : X). ⊥) [] x (All-nil (λ (y : X). ⊥)) c

pub here : {X : Type 0} (x : X) (xs : List X) → Contains (x ∷ xs) x
here x xs = Contains-append_left (x ∷ []) xs x (Contains-push [] x)

pub there : {X : Type 0} (y : X) (xs : List X) (x : X) → Contains xs x → Contains (y ∷ xs) x
there y xs x c = Contains-append_right (y ∷ []) xs x c

one-only : {X : Type 0} (y x : X) → Contains (y ∷ []) x → y ≡ x
one-only y x c = elim (Contains-push_cases [] y x c) [
  | inl nothing ↦ absurd (none x nothing)
  | inr same ↦ same
]

pub first-or-rest : {X : Type 0} (y : X) (xs : List X) (x : X) → Contains (y ∷ xs) x
    → (y ≡ x) ⊎ Contains xs x
first-or-rest y xs x c = elim (Contains-append_cases (y ∷ []) xs x c) [
  | inl one ↦ inl (one-only y x one)
  | inr rest ↦ inr rest
]

-- Where an element of a map comes from.
pub from-map : {X Y : Type 0} (f : X → Y) (xs : List X) (y : Y) → Contains (map f xs) y
    → (x : X) × Contains xs x × (f x ≡ y)
from-map f [] y c = absurd (none y c)
from-map f (x ∷ xs) y c = elim (first-or-rest (f x) (map f xs) y c) [
  | inl same ↦ (x, here x xs, same)
  | inr rest ↦ let r = from-map f xs y rest in (r.0, there x xs r.0 r.1, r.2)
]

pub into-map : {X Y : Type 0} (f : X → Y) (xs : List X) (x : X) → Contains xs x
    → Contains (map f xs) (f x)
into-map f [] x c = absurd (none x c)
into-map f (y ∷ xs) x c = elim (first-or-rest y xs x c) [
  | inl same ↦ subst (λ z. Contains (f y ∷ map f xs) (f z)) same (here (f y) (map f xs))
  | inr rest ↦ there (f y) (map f xs) (f x) (into-map f xs x rest)
]

pub from-filter : {X : Type 0} (p : X → Bool) (xs : List X) (x : X) → Contains (filter p xs) x
    → Contains xs x × (p x ≡ true)
from-filter p [] x c = absurd (none x c)
from-filter {X} p (y ∷ xs) x c = by (p y) refl (from-filter p xs x) c
  where
    by : (b : Bool) → p y ≡ b → (Contains (filter p xs) x → Contains xs x × (p x ≡ true))
        → Contains (cond b (y ∷ filter p xs) (filter p xs)) x
        → Contains (y ∷ xs) x × (p x ≡ true)
    by true passes rest c = elim (first-or-rest y (filter p xs) x c) [
      | inl same ↦ (subst (Contains (y ∷ xs)) same (here y xs), ap p (sym same) ∙ passes)
      | inr later ↦ let r = rest later in (there y xs x r.0, r.1)
    ]
    by false fails rest c = let r = rest c in (there y xs x r.0, r.1)

pub into-filter : {X : Type 0} (p : X → Bool) (xs : List X) (x : X) → p x ≡ true
    → Contains xs x → Contains (filter p xs) x
into-filter p [] x passes c = absurd (none x c)
into-filter {X} p (y ∷ xs) x passes c = by (p y) refl (into-filter p xs x passes)
  where
    by : (b : Bool) → p y ≡ b → (Contains xs x → Contains (filter p xs) x)
        → Contains (cond b (y ∷ filter p xs) (filter p xs)) x
    by true e rest = elim (first-or-rest y xs x c) [
      | inl same ↦ subst (Contains (y ∷ filter p xs)) same (here y (filter p xs))
      | inr later ↦ there y (filter p xs) x (rest later)
    ]
    by false e rest = elim (first-or-rest y xs x c) [
      | inl same ↦ absurd (false≢true (sym e ∙ (ap p same ∙ passes)))
      | inr later ↦ rest later
    ]

pub from-filter_map : {X Y : Type 0} (f : X → Option Y) (xs : List X) (y : Y)
    → Contains (filter_map f xs) y → (x : X) × Contains xs x × (f x ≡ Some y)
from-filter_map f [] y c = absurd (none y c)
from-filter_map {X} {Y} f (x ∷ xs) y c = by (f x) refl (from-filter_map f xs y) c
  where
    by : (o : Option Y) → f x ≡ o
        → (Contains (filter_map f xs) y → (z : X) × Contains xs z × (f z ≡ Some y))
        → Contains (cons_option o (filter_map f xs)) y
        → (z : X) × Contains (x ∷ xs) z × (f z ≡ Some y)
    by None e rest c = let r = rest c in (r.0, there x xs r.0 r.1, r.2)
    by (Some z) e rest c = elim (first-or-rest z (filter_map f xs) y c) [
      | inl same ↦ (x, here x xs, e ∙ ap (λ (w : Y). Some w) same)
      | inr later ↦ let r = rest later in (r.0, there x xs r.0 r.1, r.2)
    ]

pub into-filter_map : {X Y : Type 0} (f : X → Option Y) (xs : List X) (x : X) (y : Y)
    → Contains xs x → f x ≡ Some y → Contains (filter_map f xs) y
into-filter_map f [] x y c e = absurd (none x c)
into-filter_map {X} {Y} f (z ∷ xs) x y c e = elim (first-or-rest z xs x c) [
  | inl same ↦ subst (λ (o : Option Y). Contains (cons_option o (filter_map f xs)) y)
      (sym (ap f same ∙ e)) (here y (filter_map f xs))
  | inr later ↦ kept (f z) (into-filter_map f xs x y later e)
]
  where
    kept : (o : Option Y) → Contains (filter_map f xs) y
        → Contains (cons_option o (filter_map f xs)) y
    kept None c = c
    kept (Some w) c = there w (filter_map f xs) y c

-- Where none passes, none is left.
pub filter-none : {X : Type 0} (p : X → Bool) (xs : List X)
    → ((x : X) → Contains xs x → p x ≡ false) → filter p xs ≡ []
filter-none p [] fails = refl
filter-none {X} p (x ∷ xs) fails =
    ap (λ (b : Bool). cond b (x ∷ filter p xs) (filter p xs)) (fails x (here x xs))
    ∙ filter-none p xs (λ y c. fails y (there x xs y c))

-- A test that each element passes leaves all of them.
pub filter-all : {X : Type 0} (xs : List X) → filter (λ x. true) xs ≡ xs
filter-all [] = refl
filter-all {X} (x ∷ xs) = ap (λ (rest : List X). x ∷ rest) (filter-all xs)

pub map-map : {X Y Z : Type 0} (f : X → Y) (g : Y → Z) (xs : List X)
    → map (λ x. g (f x)) xs ≡ map g (map f xs)
map-map f g [] = refl
map-map {X} {Y} {Z} f g (x ∷ xs) = ap (λ (rest : List Z). g (f x) ∷ rest) (map-map f g xs)

-- ---- what is found

pub found-in : {X : Type 0} (p : X → Bool) (xs : List X) (x : X) → find p xs ≡ Some x
    → Contains xs x × (p x ≡ true)
found-in p [] x e = absurd cc
found-in {X} p (y ∷ xs) x e = by (p y) refl (found-in p xs x) e
  where
    by : (b : Bool) → p y ≡ b → (find p xs ≡ Some x → Contains xs x × (p x ≡ true))
        → cond b (Some y) (find p xs) ≡ Some x → Contains (y ∷ xs) x × (p x ≡ true)
    by true passes rest e =
        let same : y ≡ x = same_Some y x e in
        (subst (Contains (y ∷ xs)) same (here y xs), ap p (sym same) ∙ passes)
    by false fails rest e = let r = rest e in (there y xs x r.0, r.1)

pub is-found : {X : Type 0} (p : X → Bool) (xs : List X) (x : X) → Contains xs x → p x ≡ true
    → (y : X) × (find p xs ≡ Some y)
is-found p [] x c passes = absurd (none x c)
is-found {X} p (y ∷ xs) x c passes = elim (first-or-rest y xs x c) [
  | inl same ↦ (y, ap (λ (b : Bool). cond b (Some y) (find p xs)) (ap p same ∙ passes))
  | inr later ↦ by (p y) (is-found p xs x later passes)
]
  where
    by : (b : Bool) → (z : X) × (find p xs ≡ Some z)
        → (z : X) × (cond b (Some y) (find p xs) ≡ Some z)
    by true rest = (y, refl)
    by false rest = rest

-- ---- all of them

pub all-from : {X : Type 0} (P : X → Type 0) (xs : List X) → ((x : X) → Contains xs x → P x)
    → All P xs
all-from P xs each = λ k d inside. each (get_or xs k d) (Contains-get_or xs k d inside)

pub all-front : {X : Type 0} (P : X → Type 0) (xs ys : List X) → All P (xs ++ ys) → All P xs
all-front P xs ys every =
    all-from P xs (λ x c. All-contains P (xs ++ ys) x every (Contains-append_left xs ys x c))

pub all-behind : {X : Type 0} (P : X → Type 0) (xs ys : List X) → All P (xs ++ ys) → All P ys
all-behind P xs ys every =
    all-from P ys (λ x c. All-contains P (xs ++ ys) x every (Contains-append_right xs ys x c))

pub pairs-front : {X : Type 0} (R : X → X → Type 0) (xs ys : List X) → AllPairs R (xs ++ ys)
    → AllPairs R xs
pairs-front {X} R xs ys pairs i j d low high =
    let long : length (xs ++ ys) ≡ length xs + length ys = length-append xs ys in
    subst (λ (x : X). R x (get_or xs j d))
    (get_or_append_left xs ys d i (omega (arith, low, high)))
    (subst (λ (y : X). R (get_or (xs ++ ys) i d) y) (get_or_append_left xs ys d j high)
    (pairs i j d low (omega (arith, high, long))))

pub pairs-cons : {X : Type 0} (x : X) (xs : List X) → ((y : X) → Contains xs y → x ≢ y)
    → AllPairs (λ a b. a ≢ b) xs → AllPairs (λ a b. a ≢ b) (x ∷ xs)
pairs-cons x xs other apart zero zero d low high = absurd (omega (arith, low))
pairs-cons x xs other apart zero (suc j) d low high =
    other (get_or xs j d) (Contains-get_or xs j d (omega (arith, high)))
pairs-cons x xs other apart (suc i) zero d low high = absurd (omega (arith, low))
pairs-cons x xs other apart (suc i) (suc j) d low high =
    apart i j d (omega (arith, low)) (omega (arith, high))

-- Different elements that are all among others are no more than these.
pub no-more : {X : Type 0} (xs ys : List X) → AllPairs (λ a b. a ≢ b) xs
    → ((x : X) → Contains xs x → Contains ys x) → length xs ≤ length ys
no-more [] ys apart among = omega arith
no-more {X} (x ∷ xs) ys apart among =
    let at = among x (here x xs) in
    let moved : IsPermutation ys (x ∷ remove ys at.0) =
    IsPermutation-remove ys at.0 x at.1 (sym at.2) in
    let long : length (x ∷ remove ys at.0) ≡ length ys =
    length_permutation ys (x ∷ remove ys at.0) moved in
    let rest : length xs ≤ length (remove ys at.0) =
    no-more xs (remove ys at.0)
    (λ i j d low high. apart (suc i) (suc j) d (omega (arith, low)) (omega (arith, high)))
    (λ y c. elim (first-or-rest x (remove ys at.0) y
    (Contains-permutation ys (x ∷ remove ys at.0) y moved (among y (there x xs y c)))) [
      | inl same ↦
          let inside = c.1 in
          absurd (apart 0 (suc c.0) y (omega arith) (omega (arith, inside)) (same ∙ sym c.2))
      | inr later ↦ later
    ]) in
    omega (arith, long, rest)

-- ---- what is put at an index

pub set-same : {X : Type 0} (xs : List X) (i : ℕ) (x y : X) → slice_get xs i ≡ Some x
    → slice_get (slice_set xs i y) i ≡ Some y
set-same [] i x y is = absurd cc
set-same (z ∷ xs) zero x y is = refl
set-same (z ∷ xs) (suc i) x y is = set-same xs i x y is

pub set-other : {X : Type 0} (xs : List X) (i j : ℕ) (y : X) → i ≢ j
    → slice_get (slice_set xs j y) i ≡ slice_get xs i
set-other [] i j y apart = refl
set-other (z ∷ xs) zero zero y apart = absurd (apart refl)
set-other (z ∷ xs) zero (suc j) y apart = refl
set-other (z ∷ xs) (suc i) zero y apart = refl
set-other (z ∷ xs) (suc i) (suc j) y apart = set-other xs i j y (λ e. apart (ap suc e))

-- ---- how many

abbrev one : Bool → ℕ
one b = cond b 1 0

pub one-le : (b c : Bool) → (b ≡ true → c ≡ true) → one b ≤ one c
one-le true c then = rw (then refl) (omega arith)
one-le false c then = omega arith

pub count-le : {X : Type 0} (p q : X → Bool) → ((x : X) → p x ≡ true → q x ≡ true)
    → (xs : List X) → count_by p xs ≤ count_by q xs
count-le {X} p q then xs =
    sum_by-le-sum_by (λ (x : X). one (p x)) (λ (x : X). one (q x)) xs
    (λ x. one-le (p x) (q x) (then x))

-- A test that one element more passes counts more.
pub count-less : {X : Type 0} (p q : X → Bool) → ((x : X) → p x ≡ true → q x ≡ true)
    → (xs : List X) (y : X) → Contains xs y → p y ≡ false → q y ≡ true
    → count_by p xs < count_by q xs
count-less p q then [] y c fails passes = absurd (none y c)
count-less {X} p q then (x ∷ xs) y c fails passes =
    let left : count_by p (x ∷ xs) ≡ one (p x) + count_by p xs =
    sum_by-cons (λ (z : X). one (p z)) x xs in
    let right : count_by q (x ∷ xs) ≡ one (q x) + count_by q xs =
    sum_by-cons (λ (z : X). one (q z)) x xs in
    elim (first-or-rest x xs y c) [
      | inl same ↦
          let none : one (p x) ≡ 0 = ap one (ap p same ∙ fails) in
          let some : one (q x) ≡ 1 = ap one (ap q same ∙ passes) in
          let rest = count-le p q then xs in
          omega (arith, left, right, none, some, rest)
      | inr later ↦
          let first = one-le (p x) (q x) (then x) in
          let rest = count-less p q then xs y later fails passes in
          omega (arith, left, right, first, rest)
    ]
