-- Lists in a strict order, and what stands in them.
use Rattle.std.proofs.Common.{◌≡◌, ◌⊎◌, inl, inr, Bool, true, false, cond, List, [], ◌∷◌, refl, sym, ap, subst, ◌∙◌}
use Rattle.std.specs.Cmp.{IsStrictWeakOrder}
use Rattle.std.proofs.lemmas.Bool.{true_from_ne_false}

abbrev pub In : {X : Type 0} → X → List X → Type 0
In z [] = ⊥
In z (x ∷ xs) = (z ≡ x) ⊎ In z xs

-- It is below all of them.
abbrev pub Below : {X : Type 0} → (X → X → Bool) → X → List X → Type 0
Below lt x [] = Unit {0}
Below lt x (y ∷ ys) = (lt x y ≡ true) × Below lt x ys

-- Each is below all behind it.
abbrev pub Up : {X : Type 0} → (X → X → Bool) → List X → Type 0
Up lt [] = Unit {0}
Up lt (x ∷ xs) = Below lt x xs × Up lt xs

-- Each is below the one behind it.
abbrev pub Steps : {X : Type 0} → (X → X → Bool) → X → List X → Type 0
Steps lt x [] = Unit {0}
Steps lt x (y ∷ ys) = (lt x y ≡ true) × Steps lt y ys

pub never : {A : Type 0} (b : Bool) → b ≡ true → b ≡ false → A
never b t f = absurd cc

-- What isn't above another is below what the other is below.
pub below-next : {X : Type 0} (lt : X → X → Bool) → IsStrictWeakOrder lt → (x y z : X) → lt y x ≡ false
    → lt y z ≡ true → lt x z ≡ true
below-next lt o x y z level up = true_from_ne_false (lt x z) (λ not. never (lt y z) up (o.chain y x z level not))

pub below-all : {X : Type 0} (lt : X → X → Bool) → IsStrictWeakOrder lt → (x y : X) (ys : List X)
    → lt y x ≡ false → Below lt y ys → Below lt x ys
below-all lt o x y [] level b = tt
below-all lt o x y (z ∷ zs) level b = (below-next lt o x y z level b.0, below-all lt o x y zs level b.1)

pub below-in : {X : Type 0} (lt : X → X → Bool) (x z : X) (ys : List X) → Below lt x ys → In z ys → lt x z ≡ true
below-in lt x z [] b h = absurd h
below-in {X} lt x z (y ∷ ys) b (inl e) = subst (λ (w : X). lt x w ≡ true) (sym e) b.0
below-in lt x z (y ∷ ys) b (inr h) = below-in lt x z ys b.1 h

pub up-steps : {X : Type 0} (lt : X → X → Bool) → IsStrictWeakOrder lt → (x : X) (xs : List X) → Steps lt x xs
    → Up lt (x ∷ xs)
up-steps lt o x [] s = (tt, tt)
up-steps lt o x (y ∷ ys) s =
    let rest = up-steps lt o y ys s.1 in
    ((s.0, below-all lt o x y ys (o.one_way x y s.0) rest.0), rest)

-- ---- one list for what stands in it

pub tail-in : {X : Type 0} (lt : X → X → Bool) → IsStrictWeakOrder lt → (x y z : X) (xs ys : List X)
    → Below lt x xs → x ≡ y → In z xs → In z (y ∷ ys) → In z ys
tail-in lt o x y z xs ys b same h (inr k) = k
tail-in {X} lt o x y z xs ys b same h (inl e) =
    let up : lt x z ≡ true = below-in lt x z xs b h in
    let self : lt x x ≡ true = subst (λ (w : X). lt x w ≡ true) (e ∙ sym same) up in
    never (lt x x) self (o.one_way x x self)

pub head-same : {X : Type 0} (lt : X → X → Bool) → IsStrictWeakOrder lt → (x y : X) (xs ys : List X)
    → Below lt x xs → Below lt y ys → In x (y ∷ ys) → In y (x ∷ xs) → x ≡ y
head-same lt o x y xs ys bx by_y (inl e) k = e
head-same lt o x y xs ys bx by_y (inr h) (inl e) = sym e
head-same lt o x y xs ys bx by_y (inr h) (inr k) =
    never (lt x y) (below-in lt x y xs bx k) (o.one_way y x (below-in lt y x ys by_y h))

pub unique : {X : Type 0} (lt : X → X → Bool) → IsStrictWeakOrder lt → (xs ys : List X) → Up lt xs → Up lt ys
    → ((z : X) → In z xs → In z ys) → ((z : X) → In z ys → In z xs) → xs ≡ ys
unique lt o [] [] ux uy f g = refl
unique lt o [] (y ∷ ys) ux uy f g = absurd (g y (inl refl))
unique lt o (x ∷ xs) [] ux uy f g = absurd (f x (inl refl))
unique {X} lt o (x ∷ xs) (y ∷ ys) ux uy f g =
    let same : x ≡ y = head-same lt o x y xs ys ux.0 uy.0 (f x (inl refl)) (g y (inl refl)) in
    let rest : xs ≡ ys =
    unique lt o xs ys ux.1 uy.1 (λ z h. tail-in lt o x y z xs ys ux.0 same h (f z (inr h)))
    (λ z h. tail-in lt o y x z ys xs uy.0 (sym same) h (g z (inr h))) in
    ap (λ (l : List X). x ∷ l) rest ∙ ap (λ (w : X). w ∷ ys) same

-- ---- a list in that order

-- One more, in place of one that is level with it.
abbrev pub put : {X : Type 0} → (X → X → Bool) → X → List X → List X
put lt x [] = x ∷ []
put lt x (y ∷ ys) = cond (lt x y) (x ∷ y ∷ ys) (cond (lt y x) (y ∷ put lt x ys) (x ∷ ys))

abbrev pub arranged : {X : Type 0} → (X → X → Bool) → List X → List X
arranged lt [] = []
arranged lt (x ∷ xs) = put lt x (arranged lt xs)

below-put : {X : Type 0} (lt : X → X → Bool) (z x : X) (ys : List X) → Below lt z ys → lt z x ≡ true
    → Below lt z (put lt x ys)
below-put lt z x [] b h = (h, tt)
below-put lt z x (y ∷ ys) b h = by (lt x y) (lt y x) (below-put lt z x ys b.1 h)
  where
    by : (p q : Bool) → Below lt z (put lt x ys)
        → Below lt z (cond p (x ∷ y ∷ ys) (cond q (y ∷ put lt x ys) (x ∷ ys)))
    by true q more = (h, b)
    by false true more = (b.0, more)
    by false false more = (h, b.1)

up-put : {X : Type 0} (lt : X → X → Bool) → IsStrictWeakOrder lt → (x : X) (ys : List X) → Up lt ys
    → Up lt (put lt x ys)
up-put lt o x [] u = (tt, tt)
up-put lt o x (y ∷ ys) u = by (lt x y) (lt y x) refl refl (up-put lt o x ys u.1)
  where
    by : (p q : Bool) → lt x y ≡ p → lt y x ≡ q → Up lt (put lt x ys)
        → Up lt (cond p (x ∷ y ∷ ys) (cond q (y ∷ put lt x ys) (x ∷ ys)))
    by true q e f more = ((e, below-all lt o x y ys (o.one_way x y e) u.0), u)
    by false true e f more = (below-put lt y x ys u.0 f, more)
    by false false e f more = (below-all lt o x y ys f u.0, u.1)

pub up-arranged : {X : Type 0} (lt : X → X → Bool) → IsStrictWeakOrder lt → (xs : List X) → Up lt (arranged lt xs)
up-arranged lt o [] = tt
up-arranged lt o (x ∷ xs) = up-put lt o x (arranged lt xs) (up-arranged lt o xs)

behind : {X : Type 0} (z x y : X) (ys : List X) → In z (x ∷ ys) → In z (x ∷ y ∷ ys)
behind z x y ys (inl e) = inl e
behind z x y ys (inr k) = inr (inr k)

put-in : {X : Type 0} (lt : X → X → Bool) (z x : X) (ys : List X) → In z (put lt x ys) → In z (x ∷ ys)
put-in lt z x [] h = h
put-in lt z x (y ∷ ys) h = by (lt x y) (lt y x) h (put-in lt z x ys)
  where
    by : (p q : Bool) → In z (cond p (x ∷ y ∷ ys) (cond q (y ∷ put lt x ys) (x ∷ ys)))
        → (In z (put lt x ys) → In z (x ∷ ys)) → In z (x ∷ y ∷ ys)
    by true q k more = k
    by false true (inl e) more = inr (inl e)
    by false true (inr k) more = behind z x y ys (more k)
    by false false (inl e) more = inl e
    by false false (inr k) more = inr (inr k)

pub arranged-in : {X : Type 0} (lt : X → X → Bool) (z : X) (xs : List X) → In z (arranged lt xs) → In z xs
arranged-in lt z [] h = h
arranged-in lt z (x ∷ xs) h = by (put-in lt z x (arranged lt xs) h) (arranged-in lt z xs)
  where
    by : In z (x ∷ arranged lt xs) → (In z (arranged lt xs) → In z xs) → In z (x ∷ xs)
    by (inl e) more = inl e
    by (inr k) more = inr (more k)

-- None of them is level with it.
abbrev pub Apart : {X : Type 0} → (X → X → Bool) → X → List X → Type 0
Apart {X} lt x ys = (z : X) → In z ys → lt x z ≡ false → lt z x ≡ false → ⊥

abbrev pub AllApart : {X : Type 0} → (X → X → Bool) → List X → Type 0
AllApart lt [] = Unit {0}
AllApart lt (x ∷ xs) = Apart lt x xs × AllApart lt xs

in-put : {X : Type 0} (lt : X → X → Bool) (z x : X) (ys : List X) → Apart lt x ys → In z (x ∷ ys) → In z (put lt x ys)
in-put lt z x [] a h = h
in-put {X} lt z x (y ∷ ys) a h = by (lt x y) (lt y x) refl refl h (in-put lt z x ys (λ w k. a w (inr k)))
  where
    by : (p q : Bool) → lt x y ≡ p → lt y x ≡ q → In z (x ∷ y ∷ ys) → (In z (x ∷ ys) → In z (put lt x ys))
        → In z (cond p (x ∷ y ∷ ys) (cond q (y ∷ put lt x ys) (x ∷ ys)))
    by true q e f k more = k
    by false true e f (inl i) more = inr (more (inl i))
    by false true e f (inr (inl i)) more = inl i
    by false true e f (inr (inr k)) more = inr (more (inr k))
    by false false e f k more = absurd (a y (inl refl) e f)

pub in-arranged : {X : Type 0} (lt : X → X → Bool) (z : X) (xs : List X) → AllApart lt xs → In z xs
    → In z (arranged lt xs)
in-arranged lt z [] a h = h
in-arranged {X} lt z (x ∷ xs) a h =
    in-put lt z x (arranged lt xs) (λ w k. a.0 w (arranged-in lt w xs k)) (by h (in-arranged lt z xs a.1))
  where
    by : In z (x ∷ xs) → (In z xs → In z (arranged lt xs)) → In z (x ∷ arranged lt xs)
    by (inl e) more = inl e
    by (inr k) more = inr (more k)
