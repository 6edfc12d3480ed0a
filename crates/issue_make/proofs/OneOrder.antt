-- Lists in an order, and what determines them.
use Rattle.std.proofs.Common.{◌≡◌, ◌≢◌, ℕ, ◌+◌, ◌<◌, zero, suc, ◌⊎◌, inl, inr, Bool, true, false, not, ◌&&◌, cond}
use Rattle.std.proofs.Common.{List, [], ◌∷◌, length, get_or, map, filter, refl, sym, ap, subst, ◌∙◌, arith}
use Rattle.std.specs.Cmp.{IsStrictWeakOrder}
use Rattle.std.specs.List.{All, AllPairs, AllByRecursion, Contains, slice_index_or}
use Rattle.std.specs.List.Sorted.{IsPermutation, IsSortedBy, IsStrictlySortedBy, ties}
use Rattle.std.specs.Ordering.{is_lt}
use Rattle.std.specs.declared.cmp.Ordering.TheVariants.{Less}
use Rattle.std.proofs.lemmas.Bool.{true_from_ne_false}
use Rattle.std.proofs.lemmas.List.Sorted.{sorted_far, Contains-permutation, IsPermutation-sym}
use Rattle.pub_set.specs.Objects.{uri_cmp, Rise}
use Rattle.issue_drafts.specs.laws.UriOrder.{by-uri}

pub same-head : {A : Type 0} (x y : A) (xs ys : List A) → x ∷ xs ≡ y ∷ ys → x ≡ y
same-head x y xs ys e = cc

pub same-tail : {A : Type 0} (x y : A) (xs ys : List A) → x ∷ xs ≡ y ∷ ys → xs ≡ ys
same-tail x y xs ys e = cc

pub same-cons : {A : Type 0} (x y : A) (xs ys : List A) → x ≡ y → xs ≡ ys → x ∷ xs ≡ y ∷ ys
same-cons x y xs ys e f = cc

never : {A : Type 0} (b : Bool) → b ≡ true → b ≡ false → A
never b t f = absurd cc

-- ---- what stands in a list

abbrev pub In : {X : Type 0} → X → List X → Type 0
In z [] = ⊥
In z (x ∷ xs) = (z ≡ x) ⊎ In z xs

pub in-contains : {X : Type 0} (z : X) (xs : List X) → In z xs → Contains xs z
in-contains z [] h = absurd h
in-contains z (x ∷ xs) (inl e) = (0, omega arith, sym e)
in-contains z (x ∷ xs) (inr h) =
    let c = in-contains z xs h in
    (suc (c.0), omega arith, c.2)

in-at : {X : Type 0} (z : X) (xs : List X) (k : ℕ) → k < length xs → slice_index_or xs k z ≡ z → In z xs
in-at z [] k lt e = absurd (omega arith)
in-at z (x ∷ xs) zero lt e = inl (sym e)
in-at z (x ∷ xs) (suc k) lt e = inr (in-at z xs k (omega arith) e)

pub contains-in : {X : Type 0} (z : X) (xs : List X) → Contains xs z → In z xs
contains-in z xs c = in-at z xs c.0 c.1 c.2

pub in-moved : {X : Type 0} (xs ys : List X) (z : X) → IsPermutation xs ys → In z xs → In z ys
in-moved xs ys z moved h = contains-in z ys (Contains-permutation xs ys z moved (in-contains z xs h))

in-filter : {X : Type 0} (p : X → Bool) (z : X) (xs : List X) → In z (filter p xs) → In z xs
in-filter p z [] h = h
in-filter p z (x ∷ xs) h = by (p x) h (in-filter p z xs)
  where
    by : (b : Bool) → In z (cond b (x ∷ filter p xs) (filter p xs)) → (In z (filter p xs) → In z xs) → In z (x ∷ xs)
    by true (inl e) rest = inl e
    by true (inr k) rest = inr (rest k)
    by false k rest = inr (rest k)

-- ---- a strict order: one list for what stands in it

-- It is below all of them.
abbrev Below : {X : Type 0} → (X → X → Bool) → X → List X → Type 0
Below lt x [] = Unit {0}
Below lt x (y ∷ ys) = (lt x y ≡ true) × Below lt x ys

-- Each is below all behind it.
abbrev pub Up : {X : Type 0} → (X → X → Bool) → List X → Type 0
Up lt [] = Unit {0}
Up lt (x ∷ xs) = Below lt x xs × Up lt xs

-- Each is below the one behind it.
abbrev pub Steps : {X : Type 0} → (X → X → Bool) → X → List X → Type 0
Steps lt x [] = Unit {0}
Steps lt x (y ∷ ys) = (lt x y ≡ true) × Steps lt y ys

below-next : {X : Type 0} (lt : X → X → Bool) → IsStrictWeakOrder lt → (x y z : X) → lt y x ≡ false
    → lt y z ≡ true → lt x z ≡ true
below-next lt o x y z level up = true_from_ne_false (lt x z) (λ not. never (lt y z) up (o.chain y x z level not))

below-all : {X : Type 0} (lt : X → X → Bool) → IsStrictWeakOrder lt → (x y : X) (ys : List X)
    → lt y x ≡ false → Below lt y ys → Below lt x ys
below-all lt o x y [] level b = tt
below-all lt o x y (z ∷ zs) level b = (below-next lt o x y z level b.0, below-all lt o x y zs level b.1)

pub below-in : {X : Type 0} (lt : X → X → Bool) (x z : X) (ys : List X) → Below lt x ys → In z ys → lt x z ≡ true
below-in lt x z [] b h = absurd h
below-in {X} lt x z (y ∷ ys) b (inl e) = subst (λ (w : X). lt x w ≡ true) (sym e) b.0
below-in lt x z (y ∷ ys) b (inr h) = below-in lt x z ys b.1 h

pub up-steps : {X : Type 0} (lt : X → X → Bool) → IsStrictWeakOrder lt → (x : X) (xs : List X) → Steps lt x xs
    → Up lt (x ∷ xs)
up-steps lt o x [] s = (tt, tt)
up-steps lt o x (y ∷ ys) s =
    let rest = up-steps lt o y ys s.1 in
    ((s.0, below-all lt o x y ys (o.one_way x y s.0) rest.0), rest)

tail-in : {X : Type 0} (lt : X → X → Bool) → IsStrictWeakOrder lt → (x y z : X) (xs ys : List X)
    → Below lt x xs → x ≡ y → In z xs → In z (y ∷ ys) → In z ys
tail-in lt o x y z xs ys b same h (inr k) = k
tail-in {X} lt o x y z xs ys b same h (inl e) =
    let up : lt x z ≡ true = below-in lt x z xs b h in
    let self : lt x x ≡ true = subst (λ (w : X). lt x w ≡ true) (e ∙ sym same) up in
    never (lt x x) self (o.one_way x x self)

head-same : {X : Type 0} (lt : X → X → Bool) → IsStrictWeakOrder lt → (x y : X) (xs ys : List X)
    → Below lt x xs → Below lt y ys → In x (y ∷ ys) → In y (x ∷ xs) → x ≡ y
head-same lt o x y xs ys bx by_y (inl e) k = e
head-same lt o x y xs ys bx by_y (inr h) (inl e) = sym e
head-same lt o x y xs ys bx by_y (inr h) (inr k) =
    never (lt x y) (below-in lt x y xs bx k) (o.one_way y x (below-in lt y x ys by_y h))

pub unique : {X : Type 0} (lt : X → X → Bool) → IsStrictWeakOrder lt → (xs ys : List X) → Up lt xs → Up lt ys
    → ((z : X) → In z xs → In z ys) → ((z : X) → In z ys → In z xs) → xs ≡ ys
unique lt o [] [] ux uy f g = refl
unique lt o [] (y ∷ ys) ux uy f g = absurd (g y (inl refl))
unique lt o (x ∷ xs) [] ux uy f g = absurd (f x (inl refl))
unique lt o (x ∷ xs) (y ∷ ys) ux uy f g =
    let same : x ≡ y = head-same lt o x y xs ys ux.0 uy.0 (f x (inl refl)) (g y (inl refl)) in
    same-cons x y xs ys same
    (unique lt o xs ys ux.1 uy.1 (λ z h. tail-in lt o x y z xs ys ux.0 same h (f z (inr h)))
    (λ z h. tail-in lt o y x z ys xs uy.0 (sym same) h (g z (inr h))))

-- ---- by URI

below-rise : {X : Type 0} (key : X → List ℕ) (x : X) (ys : List X)
    → AllByRecursion (λ y. uri_cmp (key x) (key y) ≡ Less) ys → Below (λ a b. is_lt (uri_cmp (key a) (key b))) x ys
below-rise key x [] all = tt
below-rise key x (y ∷ ys) all = (ap is_lt all.0, below-rise key x ys all.1)

up-rise : {X : Type 0} (key : X → List ℕ) (xs : List X) → Rise key xs → Up (λ a b. is_lt (uri_cmp (key a) (key b))) xs
unfolding IsStrictlySortedBy
up-rise key [] up = tt
up-rise key (x ∷ xs) up = (below-rise key x xs up.0, up-rise key xs up.1)

-- What stands in a list that rises determines it.
pub rise-same : {X : Type 0} (key : X → List ℕ) (xs ys : List X) → Rise key xs → Rise key ys
    → ((z : X) → In z xs → In z ys) → ((z : X) → In z ys → In z xs) → xs ≡ ys
rise-same {X} key xs ys first second f g =
    unique (λ (a b : X). is_lt (uri_cmp (key a) (key b))) (by-uri key) xs ys (up-rise key xs first) (up-rise key ys second) f g

-- So does the list that it is another order of.
pub rise-moved : {X : Type 0} (key : X → List ℕ) (all xs ys : List X) → IsPermutation all xs → IsPermutation all ys
    → Rise key xs → Rise key ys → xs ≡ ys
rise-moved key all xs ys moved other first second =
    rise-same key xs ys first second
    (λ z h. in-moved all ys z other (in-moved xs all z (IsPermutation-sym all xs moved) h))
    (λ z h. in-moved all xs z moved (in-moved ys all z (IsPermutation-sym all ys other) h))

-- ---- a stable order: one list for what ties

-- None of them is below it.
abbrev Least : {X : Type 0} → (X → X → Bool) → X → List X → Type 0
Least lt x [] = Unit {0}
Least lt x (y ∷ ys) = (lt y x ≡ false) × Least lt x ys

-- None is below one before it.
abbrev pub Level : {X : Type 0} → (X → X → Bool) → List X → Type 0
Level lt [] = Unit {0}
Level lt (x ∷ xs) = Least lt x xs × Level lt xs

least-by : {X : Type 0} (lt : X → X → Bool) (x : X) (xs : List X)
    → ((k : ℕ) (d : X) → k < length xs → lt (get_or xs k d) x ≡ false) → Least lt x xs
least-by lt x [] each = tt
least-by lt x (y ∷ ys) each =
    (each 0 x (omega arith), least-by lt x ys (λ k d inside. each (suc k) d (omega arith)))

sorted-rest : {X : Type 0} (lt : X → X → Bool) (x : X) (xs : List X) → IsSortedBy lt (x ∷ xs) → IsSortedBy lt xs
sorted-rest lt x xs h k d low high =
    let e : suc k + 1 ≡ suc (k + 1) = omega arith in
    subst (λ (n : ℕ). lt (get_or (x ∷ xs) n d) (get_or xs k d) ≡ false) e
    (h (suc k) d (omega arith) (omega arith))

pub level-sorted : {X : Type 0} (lt : X → X → Bool) → IsStrictWeakOrder lt → (xs : List X) → IsSortedBy lt xs → Level lt xs
level-sorted lt o [] up = tt
level-sorted lt o (x ∷ xs) up = (
  least-by lt x xs (λ k d inside. sorted_far lt o (x ∷ xs) up 0 (suc k) d (omega arith) (omega arith)),
  level-sorted lt o xs (sorted-rest lt x xs up),
)

least-in : {X : Type 0} (lt : X → X → Bool) (x z : X) (ys : List X) → Least lt x ys → In z ys → lt z x ≡ false
least-in lt x z [] b h = absurd h
least-in {X} lt x z (y ∷ ys) b (inl e) = subst (λ (w : X). lt w x ≡ false) (sym e) b.0
least-in lt x z (y ∷ ys) b (inr h) = least-in lt x z ys b.1 h

never-below : {X : Type 0} (lt : X → X → Bool) → IsStrictWeakOrder lt → (x : X) → lt x x ≡ false
never-below lt o x = by (lt x x) refl
  where
    by : (b : Bool) → lt x x ≡ b → lt x x ≡ false
    by true e = o.one_way x x e
    by false e = e

tied : (a b : Bool) → a ≡ false → b ≡ false → (not a && not b) ≡ true
tied a b e f = ap (λ (c : Bool). not c && not b) e ∙ ap (λ (c : Bool). not c) f

passed : {X : Type 0} (p : X → Bool) (x : X) (xs : List X) → p x ≡ true → filter p (x ∷ xs) ≡ x ∷ filter p xs
passed {X} p x xs e = ap (λ (b : Bool). cond b (x ∷ filter p xs) (filter p xs)) e

least-head : {X : Type 0} (lt : X → X → Bool) → IsStrictWeakOrder lt → (x y : X) (ys : List X) → Least lt y ys
    → In x (y ∷ ys) → lt x y ≡ false
least-head {X} lt o x y ys b (inl e) = subst (λ (w : X). lt w y ≡ false) (sym e) (never-below lt o y)
least-head lt o x y ys b (inr h) = least-in lt y x ys b h

kept-in : {X : Type 0} (lt : X → X → Bool) → IsStrictWeakOrder lt → (x : X) (xs ys : List X)
    → filter (ties lt x) (x ∷ xs) ≡ filter (ties lt x) ys → In x ys
kept-in {X} lt o x xs ys same =
    in-filter (ties lt x) x ys
    (subst (λ (l : List X). In x l)
    (sym (passed (ties lt x) x xs (tied (lt x x) (lt x x) (never-below lt o x) (never-below lt o x))) ∙ same) (inl refl))

filter-rest : {X : Type 0} (p : X → Bool) (x y : X) (xs ys : List X) → x ≡ y
    → filter p (x ∷ xs) ≡ filter p (y ∷ ys) → filter p xs ≡ filter p ys
filter-rest {X} p x y xs ys e same =
    by (p x) (subst (λ (w : X). filter p (x ∷ xs) ≡ filter p (w ∷ ys)) (sym e) same)
  where
    by : (b : Bool) → cond b (x ∷ filter p xs) (filter p xs) ≡ cond b (x ∷ filter p ys) (filter p ys)
        → filter p xs ≡ filter p ys
    by true h = same-tail x x (filter p xs) (filter p ys) h
    by false h = h

pub stable-same : {X : Type 0} (lt : X → X → Bool) → IsStrictWeakOrder lt → (xs ys : List X) → Level lt xs → Level lt ys
    → ((z : X) → filter (ties lt z) xs ≡ filter (ties lt z) ys) → xs ≡ ys
stable-same lt o [] [] lx ly same = refl
stable-same lt o [] (y ∷ ys) lx ly same = absurd (kept-in lt o y ys [] (sym (same y)))
stable-same lt o (x ∷ xs) [] lx ly same = absurd (kept-in lt o x xs [] (same x))
stable-same lt o (x ∷ xs) (y ∷ ys) lx ly same =
    let low : lt x y ≡ false = least-head lt o x y ys ly.0 (kept-in lt o x xs (y ∷ ys) (same x)) in
    let high : lt y x ≡ false = least-head lt o y x xs lx.0 (kept-in lt o y ys (x ∷ xs) (sym (same y))) in
    let self : ties lt x x ≡ true = tied (lt x x) (lt x x) (never-below lt o x) (never-below lt o x) in
    let level : ties lt x y ≡ true = tied (lt x y) (lt y x) low high in
    let head : x ≡ y =
    same-head x y (filter (ties lt x) xs) (filter (ties lt x) ys)
    (sym (passed (ties lt x) x xs self) ∙ (same x ∙ passed (ties lt x) y ys level)) in
    same-cons x y xs ys head
    (stable-same lt o xs ys lx.1 ly.1 (λ z. filter-rest (ties lt z) x y xs ys head (same z)))

-- ---- as many, and each of them

-- Each is another than those behind it.
abbrev pub Differ : {X : Type 0} → List X → Type 0
Differ [] = Unit {0}
Differ {X} (x ∷ xs) = ((z : X) → In z xs → z ≢ x) × Differ xs

-- What is left of a list without one of its items.
without : {X : Type 0} (x : X) (ys : List X) → In x ys
    → (rest : List X) × (length ys ≡ suc (length rest)) × ((z : X) → In z ys → (z ≡ x) ⊎ In z rest)
without x [] h = absurd h
without {X} x (y ∷ ys) (inl e) = (ys, refl, by)
  where
    by : (z : X) → In z (y ∷ ys) → (z ≡ x) ⊎ In z ys
    by z (inl f) = inl (f ∙ sym e)
    by z (inr k) = inr k
without {X} x (y ∷ ys) (inr h) =
    let w = without x ys h in
    (y ∷ w.0, ap suc w.1, λ z k. by w.0 z k (w.2 z))
  where
    later : (rest : List X) (z : X) → (z ≡ x) ⊎ In z rest → (z ≡ x) ⊎ In z (y ∷ rest)
    later rest z (inl f) = inl f
    later rest z (inr i) = inr (inr i)

    by : (rest : List X) (z : X) → In z (y ∷ ys) → (In z ys → (z ≡ x) ⊎ In z rest) → (z ≡ x) ⊎ In z (y ∷ rest)
    by rest z (inl f) more = inr (inl f)
    by rest z (inr k) more = later rest z (more k)

other-in : {X : Type 0} (x z : X) (rest : List X) → (z ≡ x) ⊎ In z rest → z ≢ x → In z rest
other-in x z rest (inl e) other = absurd (other e)
other-in x z rest (inr k) other = k

back-in : {X : Type 0} (x z : X) (xs rest : List X) → (z ≡ x) ⊎ In z rest → (In z rest → In z xs) → In z (x ∷ xs)
back-in x z xs rest (inl e) more = inl e
back-in x z xs rest (inr k) more = inr (more k)

-- Items that differ, all of which stand in a list of as many, are all that stands there.
pub all-in : {X : Type 0} (xs ys : List X) → Differ xs → ((z : X) → In z xs → In z ys) → length ys ≡ length xs
    → (z : X) → In z ys → In z xs
all-in [] [] apart each many z h = h
all-in [] (y ∷ ys) apart each many z h = absurd (omega arith)
all-in (x ∷ xs) ys apart each many z h =
    let w = without x ys (each x (inl refl)) in
    let long : length ys ≡ suc (length w.0) = w.1 in
    back-in x z xs w.0 (w.2 z h)
    (all-in xs w.0 apart.1 (λ q k. other-in x q w.0 (w.2 q (each q (inr k))) (apart.0 q k)) (omega arith) z)

key-other : {X : Type 0} (key : X → List ℕ) (a : List ℕ) (xs : List X) (z : X)
    → All (λ b. a ≢ b) (map key xs) → In z xs → key z ≢ a
key-other key a [] z all h = absurd h
key-other {X} key a (x ∷ xs) z all (inl e) =
    λ same. all 0 a (omega arith) (sym same ∙ ap key e)
key-other key a (x ∷ xs) z all (inr k) = key-other key a xs z (λ i d lt. all (suc i) d (omega arith)) k

pub differ-by : {X : Type 0} (key : X → List ℕ) (xs : List X) → AllPairs (λ a b. a ≢ b) (map key xs) → Differ xs
differ-by key [] apart = tt
differ-by key (x ∷ xs) apart = (
  λ z h e. key-other key (key x) xs z (λ k d lt. apart 0 (suc k) d (omega arith) (omega arith)) h (ap key e),
  differ-by key xs (λ i j d low high. apart (suc i) (suc j) d (omega arith) (omega arith)),
)
