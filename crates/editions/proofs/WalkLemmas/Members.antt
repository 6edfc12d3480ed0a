-- The elements of a list, each with its place in it.
use Rattle.std.proofs.Common.{◌≡◌, Bool, true, false, cond, Option, Some, List, [], ◌∷◌, map, filter, refl, sym, ap, subst, ◌∙◌, inl, inr}
use Rattle.std.specs.List.{filter_map, cons_option}
use Rattle.std.proofs.lemmas.Bool.{true≢false}
use Rattle.items.specs.laws.AmongLaws.{In}
use Rattle.items.specs.laws.PairLaws.{Each, Twos}
use Rattle.editions.proofs.WalkLemmas.Elements.{each-from, each-in}

abbrev pub Member : {X : Type 0} → List X → Type 0
Member {X} xs = (x : X) × In x xs

abbrev later : {X : Type 0} (y : X) (xs : List X) → Member xs → Member (y ∷ xs)
later y xs e = (e.0, inr e.1)

abbrev pub members : {X : Type 0} (xs : List X) → List (Member xs)
members [] = []
members (x ∷ xs) = (x, inl refl) ∷ map (later x xs) (members xs)

pub map-map : {X Y Z : Type 0} (f : X → Y) (g : Y → Z) (xs : List X) → map g (map f xs) ≡ map (λ x. g (f x)) xs
map-map f g [] = refl
map-map {X} {Y} {Z} f g (x ∷ xs) = ap (λ (l : List Z). g (f x) ∷ l) (map-map f g xs)

-- They are the elements.
pub members-are : {X : Type 0} (xs : List X) → map (λ (e : Member xs). e.0) (members xs) ≡ xs
members-are [] = refl
members-are {X} (x ∷ xs) =
    ap (λ (l : List X). x ∷ l)
    (map-map (later x xs) (λ (e : Member (x ∷ xs)). e.0) (members xs) ∙ members-are xs)

in-map-of : {X Y : Type 0} (f : X → Y) (x : X) (xs : List X) → In x xs → In (f x) (map f xs)
in-map-of f x [] at = absurd at
in-map-of f x (y ∷ ys) (inl same) = inl (ap f same)
in-map-of f x (y ∷ ys) (inr at) = inr (in-map-of f x ys at)

-- Each element is there as a member.
pub member-of : {X : Type 0} (x : X) (xs : List X) → In x xs → (e : Member xs) × In e (members xs) × (e.0 ≡ x)
member-of x [] at = absurd at
member-of x (y ∷ xs) (inl same) = ((y, inl refl), inl refl, same)
member-of x (y ∷ xs) (inr at) =
    let w = member-of x xs at in
    (later y xs w.0, inr (in-map-of (later y xs) w.0 (members xs) w.1), w.2)

map-back : {X Y : Type 0} (f : X → Y) (y : Y) (xs : List X) → In y (map f xs) → (x : X) × In x xs × (f x ≡ y)
map-back f y [] at = absurd at
map-back f y (x ∷ xs) (inl same) = (x, inl refl, same)
map-back f y (x ∷ xs) (inr at) = let w = map-back f y xs at in (w.0, inr w.1, w.2)

twos-later : {X Y : Type 0} (R : Y → Y → Type 0) (f : X → Y) (xs : List X) → Twos (λ a b. R (f a) (f b)) xs
    → Twos R (map f xs)
twos-later R f [] twos = tt
twos-later {X} {Y} R f (x ∷ xs) twos = (
  each-from (R (f x)) (map f xs) (λ y at.
      let w = map-back f y xs at in
      subst (R (f x)) w.2 (each-in (λ (z : X). R (f x) (f z)) w.0 xs twos.0 w.1)),
  twos-later R f xs twos.1,
)

-- What each two elements are, each two members are.
pub members-twos : {X : Type 0} (R : X → X → Type 0) (xs : List X) → Twos R xs
    → Twos (λ (a b : Member xs). R a.0 b.0) (members xs)
members-twos R [] twos = tt
members-twos {X} R (x ∷ xs) twos = (
  each-from (λ (e : Member (x ∷ xs)). R x e.0) (map (later x xs) (members xs)) (λ e at.
      let w = map-back (later x xs) e (members xs) at in
      subst (λ (f : Member (x ∷ xs)). R x f.0) w.2 (each-in (R x) w.0.0 xs twos.0 w.0.1)),
  twos-later (λ (a b : Member (x ∷ xs)). R a.0 b.0) (later x xs) (members xs) (members-twos R xs twos.1),
)

-- ---- lists that are made of members

-- Where each gives something.
pub filter-map-some : {X Y Z : Type 0} (f : Y → Option Z) (g : X → Y) (h : X → Z) (xs : List X)
    → ((x : X) → In x xs → f (g x) ≡ Some (h x)) → filter_map f (map g xs) ≡ map h xs
filter-map-some f g h [] some = refl
filter-map-some {X} {Y} {Z} f g h (x ∷ xs) some =
    ap (λ (o : Option Z). cons_option o (filter_map f (map g xs))) (some x (inl refl))
    ∙ ap (λ (zs : List Z). h x ∷ zs) (filter-map-some f g h xs (λ y at. some y (inr at)))

-- What a test keeps of a map.
pub filter-of-map : {X Y : Type 0} (p : Y → Bool) (f : X → Y) (q : X → Bool) (xs : List X)
    → ((x : X) → In x xs → p (f x) ≡ q x) → filter p (map f xs) ≡ map f (filter q xs)
filter-of-map p f q [] same = refl
filter-of-map {X} {Y} p f q (x ∷ xs) same =
    ap (λ (b : Bool). cond b (f x ∷ filter p (map f xs)) (filter p (map f xs))) (same x (inl refl))
    ∙ (ap (λ (l : List Y). cond (q x) (f x ∷ l) l) (filter-of-map p f q xs (λ y at. same y (inr at)))
    ∙ by (q x) (filter q xs))
  where
    by : (b : Bool) (l : List X) → cond b (f x ∷ map f l) (map f l) ≡ map f (cond b (x ∷ l) l)
    by true l = refl
    by false l = refl

-- The one element that passes.
pub filter-one : {X : Type 0} (p : X → Bool) (x : X) (xs : List X) → In x xs → p x ≡ true
    → Twos (λ a b. p a ≡ true → p b ≡ true → ⊥) xs → (y : X) × (filter p xs ≡ y ∷ []) × (p y ≡ true)
filter-one p x [] at passes twos = absurd at
filter-one {X} p x (y ∷ ys) at passes twos = by (p y) refl at (λ here. filter-one p x ys here passes twos.1)
  where
    none : (zs : List X) → p y ≡ true → Each (λ b. p y ≡ true → p b ≡ true → ⊥) zs → filter p zs ≡ []
    none [] passed apart = refl
    none (z ∷ zs) passed apart = fails (p z) refl (none zs passed apart.1)
      where
        fails : (b : Bool) → p z ≡ b → filter p zs ≡ [] → cond b (z ∷ filter p zs) (filter p zs) ≡ []
        fails true e rest = absurd (apart.0 passed e)
        fails false e rest = rest

    by : (b : Bool) → p y ≡ b → In x (y ∷ ys)
        → (In x ys → (z : X) × (filter p ys ≡ z ∷ []) × (p z ≡ true))
        → (z : X) × (cond b (y ∷ filter p ys) (filter p ys) ≡ z ∷ []) × (p z ≡ true)
    by true e here rest = (y, ap (λ (l : List X). y ∷ l) (none ys e twos.0), e)
    by false e (inl same) rest = absurd (true≢false (sym passes ∙ (ap p (sym same) ∙ e)))
    by false e (inr here) rest = rest here
