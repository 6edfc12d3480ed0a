-- Of rows the first of each serial, as a function of the rows.
use Rattle.std.proofs.Common.{◌≡◌, ℕ, ◌<◌, ◌==◌, nat_lt, inl, inr, Bool, true, false}
use Rattle.std.proofs.Common.{cond, Option, Some, List, [], ◌∷◌, map, refl, sym}
use Rattle.std.proofs.Common.{ap, subst, ◌∙◌, arith}
use Rattle.std.specs.List.{All}
use Rattle.std.specs.Cmp.{IsStrictWeakOrder}
use Rattle.std.proofs.lemmas.Bool.{and_parts, and_from, eq-eqb, ne_eqb, ltb-true, ltb-false, eqb-true}
use Rattle.std.proofs.lemmas.List.Elements.{All-head, All-tail}
use Rattle.std.proofs.lemmas.List.MinMax.{IsStrictWeakOrder-by_number}
use Rattle.der.specs.Forms.{AreAll}
use Rattle.key_roll.specs.declared.rows.RevokedRow.{RevokedRow}
use Rattle.crl_obj.specs.Values.{are_rising, rise_above}
use Rattle.issue_values.specs.Bodies.{crl_entry}
use Rattle.issue_drafts.specs.Firsts.{row_at, AreFirsts}
use Rattle.issue_drafts.proofs.OrderedFiles.{In, Below, Up, Steps, below-in, up-steps, unique, put}
use Rattle.issue_drafts.proofs.OrderedFiles.{arranged, up-arranged}

-- By serial.
abbrev pub lower : RevokedRow → RevokedRow → Bool
lower a b = nat_lt a.serial b.serial

pub by_serial : IsStrictWeakOrder lower
by_serial = IsStrictWeakOrder-by_number (λ (r : RevokedRow). r.serial)

-- ---- rising entries

steps-rise : (x : RevokedRow) (xs : List RevokedRow) → rise_above x.serial (map crl_entry xs) ≡ true
    → Steps lower x xs
steps-rise x [] e = tt
steps-rise x (y ∷ ys) e =
    let both = and_parts (nat_lt x.serial y.serial) (rise_above y.serial (map crl_entry ys)) e in
    (both.0, steps-rise y ys both.1)

pub up-rising : (xs : List RevokedRow) → are_rising (map crl_entry xs) ≡ true → Up lower xs
up-rising [] e = tt
up-rising (x ∷ xs) e = up-steps lower by_serial x xs (steps-rise x xs e)

rise-up : (x : RevokedRow) (xs : List RevokedRow) → Below lower x xs → Up lower xs
    → rise_above x.serial (map crl_entry xs) ≡ true
rise-up x [] b u = refl
rise-up x (y ∷ ys) b u =
    and_from (nat_lt x.serial y.serial) (rise_above y.serial (map crl_entry ys)) b.0 (rise-up y ys u.0 u.1)

rising-up : (xs : List RevokedRow) → Up lower xs → are_rising (map crl_entry xs) ≡ true
rising-up [] u = refl
rising-up (x ∷ xs) u = rise-up x xs u.0 u.1

-- ---- looked up by serial

some-same : (a b : RevokedRow) → Some a ≡ Some b → a ≡ b
some-same a b e = cc

pub at-in : (xs : List RevokedRow) (n : ℕ) (z : RevokedRow) → row_at xs n ≡ Some z → In z xs
at-in [] n z e = absurd cc
at-in (x ∷ xs) n z e = by (x.serial == n) e (at-in xs n z)
  where
    by : (b : Bool) → cond b (Some x) (row_at xs n) ≡ Some z → (row_at xs n ≡ Some z → In z xs) → In z (x ∷ xs)
    by true k more = inl (sym (some-same x z k))
    by false k more = inr (more k)

pub in-at : (xs : List RevokedRow) (z : RevokedRow) → Up lower xs → In z xs → row_at xs z.serial ≡ Some z
in-at [] z u h = absurd h
in-at (x ∷ xs) z u (inl e) =
    let here : (x.serial == z.serial) ≡ true = eq-eqb x.serial z.serial (sym (ap (λ (r : RevokedRow). r.serial) e)) in
    ap (λ (b : Bool). cond b (Some x) (row_at xs z.serial)) here ∙ ap (λ (r : RevokedRow). Some r) (sym e)
in-at (x ∷ xs) z u (inr h) =
    let low : x.serial < z.serial = ltb-true x.serial z.serial (below-in lower x z xs u.0 h) in
    let other : (x.serial == z.serial) ≡ false = ne_eqb x.serial z.serial (λ e. omega arith) in
    ap (λ (b : Bool). cond b (Some x) (row_at xs z.serial)) other ∙ in-at xs z u.1 h

first-in : (rows a b : List RevokedRow) → AreFirsts rows a → AreFirsts rows b → (z : RevokedRow) → In z a → In z b
first-in rows a b fa fb z h =
    at-in b z.serial z (fb.each z.serial ∙ (sym (fa.each z.serial) ∙ in-at a z (up-rising a fa.rising) h))

pub firsts-same : (rows a b : List RevokedRow) → AreFirsts rows a → AreFirsts rows b → a ≡ b
firsts-same rows a b fa fb =
    unique lower by_serial a b (up-rising a fa.rising) (up-rising b fb.rising) (first-in rows a b fa fb)
    (first-in rows b a fb fa)

-- ---- one more

apart-serials : (a b n : ℕ) → b < a → (a == n) ≡ true → (b == n) ≡ true → ⊥
apart-serials a b n lt e f =
    let p : a ≡ n = eqb-true a n e in
    let q : b ≡ n = eqb-true b n f in
    omega arith

swapped : (x y : RevokedRow) (o : Option RevokedRow) (b c : Bool) → (b ≡ true → c ≡ true → ⊥)
    → cond c (Some y) (cond b (Some x) o) ≡ cond b (Some x) (cond c (Some y) o)
swapped x y o true true differ = absurd (differ refl refl)
swapped x y o true false differ = refl
swapped x y o false c differ = refl

hidden : (x y : RevokedRow) (o : Option RevokedRow) (b c : Bool) → c ≡ b
    → cond b (Some x) o ≡ cond b (Some x) (cond c (Some y) o)
hidden x y o true c same = refl
hidden x y o false c same = ap (λ (t : Bool). cond t (Some y) o) (sym same)

level : (a b : ℕ) → nat_lt a b ≡ false → nat_lt b a ≡ false → b ≡ a
level a b e f =
    let p = ltb-false a b e in
    let q = ltb-false b a f in
    omega arith

put-at : (x : RevokedRow) (xs : List RevokedRow) (n : ℕ)
    → row_at (put lower x xs) n ≡ cond (x.serial == n) (Some x) (row_at xs n)
put-at x [] n = refl
put-at x (y ∷ ys) n = by (lower x y) (lower y x) refl refl (put-at x ys n)
  where
    by : (p q : Bool) → lower x y ≡ p → lower y x ≡ q
        → row_at (put lower x ys) n ≡ cond (x.serial == n) (Some x) (row_at ys n)
        → row_at (cond p (x ∷ y ∷ ys) (cond q (y ∷ put lower x ys) (x ∷ ys))) n ≡ cond (x.serial == n)
        (Some x) (row_at (y ∷ ys) n)
    by true q e f more = refl
    by false true e f more =
        ap (λ (o : Option RevokedRow). cond (y.serial == n) (Some y) o) more
        ∙ swapped x y (row_at ys n) (x.serial == n) (y.serial == n)
        (apart-serials x.serial y.serial n (ltb-true y.serial x.serial f))
    by false false e f more =
        hidden x y (row_at ys n) (x.serial == n) (y.serial == n)
        (ap (λ (m : ℕ). m == n) (level x.serial y.serial e f))

each-at : (rows : List RevokedRow) (n : ℕ) → row_at (arranged lower rows) n ≡ row_at rows n
each-at [] n = refl
each-at (x ∷ xs) n =
    put-at x (arranged lower xs) n ∙ ap (λ (o : Option RevokedRow). cond (x.serial == n) (Some x) o) (each-at xs n)

pub firsts-arranged : (rows : List RevokedRow) → AreFirsts rows (arranged lower rows)
firsts-arranged rows = record {
  rising = rising-up (arranged lower rows) (up-arranged lower by_serial rows);
  each = each-at rows;
}

-- ---- what holds of the rows holds of the entries

all-in : {X : Type 0} (P : X → Type 0) (z : X) (xs : List X) → All P xs → In z xs → P z
all-in P z [] all h = absurd h
all-in {X} P z (x ∷ xs) all (inl e) = subst P (sym e) (All-head P x xs all)
all-in P z (x ∷ xs) all (inr h) = all-in P z xs (All-tail P x xs all) h

are-all : {X : Type 0} (P : X → Type 0) (xs : List X) → ((z : X) → In z xs → P z) → AreAll P xs
are-all P [] f = tt
are-all P (x ∷ xs) f = (f x (inl refl), are-all P xs (λ z h. f z (inr h)))

pub firsts-all : (P : RevokedRow → Type 0) (rows entries : List RevokedRow) → AreFirsts rows entries
    → All P rows → AreAll P entries
firsts-all P rows entries f all =
    are-all P entries (λ z h. all-in P z rows all
    (at-in rows z.serial z (sym (f.each z.serial) ∙ in-at entries z (up-rising entries f.rising) h)))
