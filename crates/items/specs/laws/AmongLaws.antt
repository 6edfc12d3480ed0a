-- What is among a list, by recursion on it.
use Rattle.std.proofs.Common.{◌≡◌, suc, Contains, Bool, true, false, cond, ◌||◌, Option, None, Some, List, [], ◌∷◌, ◌++◌, ◌⊎◌, inl, inr, map, filter, find, refl, sym, ap, subst, ◌∙◌, arith}
use Rattle.std.specs.List.{All, filter_map, cons_option, list_any, flat_map}
use Rattle.std.specs.List.Sorted.{IsPermutation}
use Rattle.std.specs.Option.{is_some, IfSome}
use Rattle.std.proofs.lemmas.Bool.{false≢true}
use Rattle.std.proofs.lemmas.List.Elements.{All-cons, All-contains}
use Rattle.std.proofs.lemmas.List.Sorted.{All-permutation, IsPermutation-sym}

abbrev pub In : {X : Type 0} → X → List X → Type 0
In x [] = ⊥
In x (y ∷ ys) = (y ≡ x) ⊎ In x ys

pub in-all : {X : Type 0} (P : X → Type 0) (x : X) (xs : List X) → All P xs → In x xs → P x
in-all P x [] all at = absurd at
in-all P x (y ∷ ys) all (inl same) = subst P same (all 0 y (omega arith))
in-all P x (y ∷ ys) all (inr at) = in-all P x ys (λ k d lt. all (suc k) d (omega arith)) at

-- What holds of each that is among them holds of all.
pub all-in : {X : Type 0} (P : X → Type 0) (xs : List X) → ((x : X) → In x xs → P x) → All P xs
all-in P [] holds = λ k d lt. absurd (omega arith)
all-in P (x ∷ xs) holds =
    All-cons P x xs (holds x (inl refl)) (all-in P xs (λ y at. holds y (inr at)))

pub in-front : {X : Type 0} (x : X) (xs ys : List X) → In x xs → In x (xs ++ ys)
in-front x [] ys at = absurd at
in-front x (z ∷ xs) ys (inl same) = inl same
in-front x (z ∷ xs) ys (inr at) = inr (in-front x xs ys at)

pub in-behind : {X : Type 0} (x : X) (xs ys : List X) → In x ys → In x (xs ++ ys)
in-behind x [] ys at = at
in-behind x (z ∷ xs) ys at = inr (in-behind x xs ys at)

pub in-parts : {X : Type 0} (x : X) (xs ys : List X) → In x (xs ++ ys) → In x xs ⊎ In x ys
in-parts x [] ys at = inr at
in-parts x (z ∷ xs) ys (inl same) = inl (inl same)
in-parts {X} x (z ∷ xs) ys (inr at) = by (in-parts x xs ys at)
  where
    by : In x xs ⊎ In x ys → In x (z ∷ xs) ⊎ In x ys
    by (inl one) = inl (inr one)
    by (inr other) = inr other

pub in-map : {X Y : Type 0} (f : X → Y) (x : X) (xs : List X) → In x xs → In (f x) (map f xs)
in-map f x [] at = absurd at
in-map f x (y ∷ ys) (inl same) = inl (ap f same)
in-map f x (y ∷ ys) (inr at) = inr (in-map f x ys at)

pub map-in : {X Y : Type 0} (f : X → Y) (y : Y) (xs : List X) → In y (map f xs)
    → (x : X) × In x xs × (f x ≡ y)
map-in f y [] at = absurd at
map-in f y (x ∷ xs) (inl same) = (x, inl refl, same)
map-in f y (x ∷ xs) (inr at) = let w = map-in f y xs at in (w.0, inr w.1, w.2)

pub in-filter : {X : Type 0} (p : X → Bool) (x : X) (xs : List X) → p x ≡ true → In x xs
    → In x (filter p xs)
in-filter p x [] passes at = absurd at
in-filter {X} p x (y ∷ ys) passes at = by (p y) refl (in-filter p x ys passes) at
  where
    by : (b : Bool) → p y ≡ b → (In x ys → In x (filter p ys)) → (y ≡ x) ⊎ In x ys
        → In x (cond b (y ∷ filter p ys) (filter p ys))
    by true e more (inl same) = inl same
    by true e more (inr rest) = inr (more rest)
    by false e more (inl same) = absurd (false≢true (sym e ∙ (ap p same ∙ passes)))
    by false e more (inr rest) = more rest

-- What passes is among them, and passes.
pub filter-in : {X : Type 0} (p : X → Bool) (x : X) (xs : List X) → In x (filter p xs)
    → In x xs × (p x ≡ true)
filter-in p x [] at = absurd at
filter-in {X} p x (y ∷ ys) at = by (p y) refl (filter-in p x ys) at
  where
    more : In x ys × (p x ≡ true) → In x (y ∷ ys) × (p x ≡ true)
    more h = (inr h.0, h.1)

    by : (b : Bool) → p y ≡ b → (In x (filter p ys) → In x ys × (p x ≡ true))
        → In x (cond b (y ∷ filter p ys) (filter p ys)) → In x (y ∷ ys) × (p x ≡ true)
    by true e rest (inl same) = (inl same, ap p (sym same) ∙ e)
    by true e rest (inr here) = more (rest here)
    by false e rest here = more (rest here)

pub in-filter-map : {X Y : Type 0} (f : X → Option Y) (x : X) (y : Y) (xs : List X)
    → f x ≡ Some y → In x xs → In y (filter_map f xs)
in-filter-map f x y [] gives at = absurd at
in-filter-map {X} {Y} f x y (z ∷ zs) gives at = by (f z) refl (in-filter-map f x y zs gives) at
  where
    by : (o : Option Y) → f z ≡ o → (In x zs → In y (filter_map f zs)) → (z ≡ x) ⊎ In x zs
        → In y (cons_option o (filter_map f zs))
    by None e rest (inl same) =
        let no : None ≡ Some y = sym e ∙ (ap f same ∙ gives) in absurd cc
    by None e rest (inr here) = rest here
    by (Some w) e rest (inl same) =
        let both : Some w ≡ Some y = sym e ∙ (ap f same ∙ gives) in
        let one : w ≡ y = cc in inl one
    by (Some w) e rest (inr here) = inr (rest here)

pub filter-map-in : {X Y : Type 0} (f : X → Option Y) (y : Y) (xs : List X)
    → In y (filter_map f xs) → (x : X) × In x xs × (f x ≡ Some y)
filter-map-in f y [] at = absurd at
filter-map-in {X} {Y} f y (x ∷ xs) at = by (f x) refl (filter-map-in f y xs) at
  where
    by : (o : Option Y) → f x ≡ o → (In y (filter_map f xs) → (z : X) × In z xs × (f z ≡ Some y))
        → In y (cons_option o (filter_map f xs)) → (z : X) × In z (x ∷ xs) × (f z ≡ Some y)
    by None e rest here = let w = rest here in (w.0, inr w.1, w.2)
    by (Some z) e rest (inl same) = (x, inl refl, e ∙ ap (λ (v : Y). Some v) same)
    by (Some z) e rest (inr here) = let w = rest here in (w.0, inr w.1, w.2)

pub in-flat-map : {X Y : Type 0} (f : X → List Y) (x : X) (y : Y) (xs : List X) → In x xs
    → In y (f x) → In y (flat_map f xs)
in-flat-map f x y [] at here = absurd at
in-flat-map f x y (z ∷ xs) (inl same) here =
    in-front y (f z) (flat_map f xs) (subst (λ w. In y (f w)) (sym same) here)
in-flat-map f x y (z ∷ xs) (inr at) here =
    in-behind y (f z) (flat_map f xs) (in-flat-map f x y xs at here)

pub flat-map-in : {X Y : Type 0} (f : X → List Y) (y : Y) (xs : List X) → In y (flat_map f xs)
    → (x : X) × In x xs × In y (f x)
flat-map-in f y [] at = absurd at
flat-map-in {X} {Y} f y (x ∷ xs) at =
    by (in-parts y (f x) (flat_map f xs) at) (flat-map-in f y xs)
  where
    by : In y (f x) ⊎ In y (flat_map f xs)
        → (In y (flat_map f xs) → (z : X) × In z xs × In y (f z))
        → (z : X) × In z (x ∷ xs) × In y (f z)
    by (inl first) rest = (x, inl refl, first)
    by (inr later) rest = let w = rest later in (w.0, inr w.1, w.2)

-- What all that is given has.
pub all-given : {X Y : Type 0} (P : Y → Type 0) (f : X → Option Y) (xs : List X)
    → ((x : X) → In x xs → IfSome (f x) P) → All P (filter_map f xs)
all-given P f [] holds = λ k d lt. absurd (omega arith)
all-given {X} {Y} P f (x ∷ xs) holds =
    by (f x) (holds x (inl refl)) (all-given P f xs (λ y at. holds y (inr at)))
  where
    by : (o : Option Y) → IfSome o P → All P (filter_map f xs) → All P (cons_option o (filter_map f xs))
    by None h rest = rest
    by (Some y) h rest = All-cons P y (filter_map f xs) h rest

pub in-permuted : {X : Type 0} (x : X) (xs ys : List X) → IsPermutation xs ys → In x xs → In x ys
in-permuted {X} x xs ys moved at =
    in-all (λ (y : X). In y ys) x xs
    (All-permutation (λ (y : X). In y ys) ys xs (IsPermutation-sym xs ys moved)
    (all-in (λ (y : X). In y ys) ys (λ y here. here))) at

-- ---- what is found

pub found-in : {X : Type 0} (p : X → Bool) (xs : List X) (x : X) → find p xs ≡ Some x
    → In x xs × (p x ≡ true)
found-in p [] x e = absurd cc
found-in {X} p (y ∷ ys) x e = by (p y) refl (found-in p ys x) e
  where
    by : (b : Bool) → p y ≡ b → (find p ys ≡ Some x → In x ys × (p x ≡ true))
        → cond b (Some y) (find p ys) ≡ Some x → In x (y ∷ ys) × (p x ≡ true)
    by true f more same = let one : y ≡ x = cc in (inl one, ap p (sym one) ∙ f)
    by false f more rest = let h = more rest in (inr h.0, h.1)

pub some-found : {X : Type 0} (p : X → Bool) (xs : List X) (x : X) → In x xs → p x ≡ true
    → (y : X) × (find p xs ≡ Some y)
some-found p [] x at passes = absurd at
some-found {X} p (y ∷ ys) x at passes = by (p y) refl (λ here. some-found p ys x here passes) at
  where
    by : (b : Bool) → p y ≡ b → (In x ys → (z : X) × (find p ys ≡ Some z)) → (y ≡ x) ⊎ In x ys
        → (z : X) × (cond b (Some y) (find p ys) ≡ Some z)
    by true e more here = (y, refl)
    by false e more (inl same) = absurd (false≢true (sym e ∙ (ap p same ∙ passes)))
    by false e more (inr rest) = more rest

pub found-some : {X : Type 0} (p : X → Bool) (xs : List X) (x : X) → In x xs → p x ≡ true
    → is_some (find p xs) ≡ true
found-some p [] x at passes = absurd at
found-some {X} p (y ∷ ys) x at passes = by (p y) refl (λ here. found-some p ys x here passes) at
  where
    by : (b : Bool) → p y ≡ b → (In x ys → is_some (find p ys) ≡ true) → (y ≡ x) ⊎ In x ys
        → is_some (cond b (Some y) (find p ys)) ≡ true
    by true e more here = refl
    by false e more (inl same) = absurd (false≢true (sym e ∙ (ap p same ∙ passes)))
    by false e more (inr rest) = more rest

-- One of them passes.
pub any-in : {X : Type 0} (p : X → Bool) (xs : List X) (x : X) → In x xs → p x ≡ true
    → list_any p xs ≡ true
any-in p [] x at passes = absurd at
any-in {X} p (y ∷ ys) x (inl same) passes = let e : p y ≡ true = ap p same ∙ passes in rw e
any-in {X} p (y ∷ ys) x (inr at) passes = by (p y) (any-in p ys x at passes)
  where
    by : (b : Bool) → list_any p ys ≡ true → (b || list_any p ys) ≡ true
    by true h = refl
    by false h = h

pub in-any : {X : Type 0} (p : X → Bool) (xs : List X) → list_any p xs ≡ true
    → (x : X) × In x xs × (p x ≡ true)
in-any p [] e = absurd (false≢true e)
in-any {X} p (y ∷ ys) e = by (p y) refl (in-any p ys) e
  where
    by : (b : Bool) → p y ≡ b → (list_any p ys ≡ true → (x : X) × In x ys × (p x ≡ true))
        → (b || list_any p ys) ≡ true → (x : X) × In x (y ∷ ys) × (p x ≡ true)
    by true f more h = (y, inl refl, f)
    by false f more h = let w = more h in (w.0, inr w.1, w.2)

-- ---- places in a list

pub in-contains : {X : Type 0} (x : X) (xs : List X) → In x xs → Contains xs x
in-contains x [] at = absurd at
in-contains x (y ∷ ys) (inl same) = (0, omega arith, same)
in-contains x (y ∷ ys) (inr at) =
    let c = in-contains x ys at in
    let inside = c.1 in
    (suc c.0, omega (arith, inside), c.2)

pub contains-in : {X : Type 0} (x : X) (xs : List X) → Contains xs x → In x xs
contains-in {X} x xs c = All-contains (λ (y : X). In y xs) xs x (all-in (λ (y : X). In y xs) xs (λ y at. at)) c
