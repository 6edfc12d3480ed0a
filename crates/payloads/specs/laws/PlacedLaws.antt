-- A reading that gives places too gives the same values.
use Rattle.std.proofs.Common.{◌≡◌, ℕ, zero, suc, Bool, true, false, cond, Option, Some, None, List, [], ◌∷◌, map, length, Result, Ok, Err, refl, sym, ap, ◌∙◌}
use Rattle.std.specs.Prelude.{option_map}
use Rattle.der.specs.declared.shape_fault.ShapeFault.{ShapeFault}
use Rattle.der.specs.declared.shape_fault.ShapeFault.TheVariants.{Shape}
use Rattle.der.specs.Part.{Place, ◌>>=◌, open_at, sole_at, end_at, is_empty}
use Rattle.der.specs.Form.{Whole, Front}
use Rattle.der.specs.Forms.{there_or, within, sole, after, both, only, preceded, maybe, many_at, many, tested, through, placed}
use Rattle.der.specs.laws.FrameLaws.{bind-assoc}

abbrev pub pair : {A B : Type 0} → A → B → Result (A × B) ShapeFault
pair x y = Ok (x, y)

-- The first reading gives what the second one gives, seen by a function.
abbrev pub Sees : {A B : Type 0} → (B → A) → Whole A → Whole B → Type 0
Sees to f g = (p : Place) → f.read p ≡ (g.read p >>= (λ y. Ok (to y)))

abbrev pub SeesFront : {A B : Type 0} → (B → A) → Front A → Front B → Type 0
SeesFront to f g = (p : Place) → f.read p ≡ (g.read p >>= (λ y. pair (to y.0) y.1))

-- One step, and then what is seen of its value.
seen-step : {A B C D : Type 0} (r : Result B ShapeFault) (to : B → A)
    (k : A → Result C ShapeFault) (l : B → Result D ShapeFault) (out : D → C)
    → ((y : B) → k (to y) ≡ (l y >>= (λ z. Ok (out z))))
    → ((r >>= (λ y. Ok (to y))) >>= k) ≡ ((r >>= l) >>= (λ z. Ok (out z)))
seen-step (Ok y) to k l out same = same y
seen-step (Err e) to k l out same = refl

pub whole-sees : {A : Type 0} (f : Whole A) → Sees (λ x. x) f f
whole-sees {A = A} f p = same (f.read p)
  where
    same : (r : Result A ShapeFault) → r ≡ (r >>= (λ y. Ok y))
    same (Ok y) = refl
    same (Err e) = refl

pub front-sees : {A : Type 0} (f : Front A) → SeesFront (λ x. x) f f
front-sees {A = A} f p = same (f.read p)
  where
    same : (r : Result (A × Place) ShapeFault) → r ≡ (r >>= (λ y. pair y.0 y.1))
    same (Ok y) = refl
    same (Err e) = refl

pub placed-sees : {A : Type 0} (f : Front A) → SeesFront (λ (x : ℕ × A). x.1) f (placed f)
placed-sees {A = A} f p = same (f.read p)
  where
    same : (r : Result (A × Place) ShapeFault)
        → r ≡ ((r >>= (λ x. pair {A = ℕ × A} (p.at, x.0) x.1)) >>= (λ y. pair y.0.1 y.1))
    same (Ok y) = refl
    same (Err e) = refl

pub within-sees : {A B : Type 0} (to : B → A) (tag : ℕ) (f : Whole A) (g : Whole B) → Sees to f g
    → SeesFront to (within tag f) (within tag g)
within-sees {A = A} {B = B} to tag f g sees p = go (open_at tag p)
  where
    go : (r : Result (Place × Place) ShapeFault)
        → (r >>= (λ q. f.read q.0 >>= (λ x. pair x q.1)))
        ≡ ((r >>= (λ q. g.read q.0 >>= (λ x. pair x q.1))) >>= (λ y. pair (to y.0) y.1))
    go (Ok q) = ap (λ (r : Result A ShapeFault). r >>= (λ x. pair x q.1)) (sees q.0)
        ∙ seen-step (g.read q.0) to (λ x. pair x q.1) (λ x. pair x q.1)
        (λ (y : B × Place). (to y.0, y.1)) (λ y. refl)
    go (Err e) = refl

pub sole-sees : {A B : Type 0} (to : B → A) (tag : ℕ) (f : Whole A) (g : Whole B) → Sees to f g
    → Sees to (sole tag f) (sole tag g)
sole-sees {A = A} to tag f g sees p = go (sole_at tag p)
  where
    go : (r : Result Place ShapeFault) → (r >>= f.read) ≡ ((r >>= g.read) >>= (λ y. Ok (to y)))
    go (Ok q) = sees q
    go (Err e) = refl

pub after-sees : {A B C : Type 0} (to : C → B) (f : Front A) (g : A → Whole B) (h : A → Whole C)
    → ((x : A) → Sees to (g x) (h x))
    → Sees (λ (y : A × C). (y.0, to y.1)) (after f g) (after f h)
after-sees {A = A} {B = B} {C = C} to f g h sees p = go (f.read p)
  where
    go : (r : Result (A × Place) ShapeFault)
        → (r >>= (λ x. (g x.0).read x.1 >>= (λ y. pair x.0 y)))
        ≡ ((r >>= (λ x. (h x.0).read x.1 >>= (λ y. pair x.0 y))) >>= (λ y. pair y.0 (to y.1)))
    go (Ok x) = ap (λ (r : Result B ShapeFault). r >>= (λ y. pair x.0 y)) (sees x.0 x.1)
        ∙ seen-step ((h x.0).read x.1) to (λ y. pair x.0 y) (λ y. pair x.0 y)
        (λ (y : A × C). (y.0, to y.1)) (λ y. refl)
    go (Err e) = refl

pub both-sees : {A B C D : Type 0} (to : C → A) (on : D → B) (f : Front A) (g : Whole B)
    (h : Front C) (k : Whole D) → SeesFront to f h → Sees on g k
    → Sees (λ (y : C × D). (to y.0, on y.1)) (both f g) (both h k)
both-sees {A = A} {B = B} {C = C} {D = D} to on f g h k first second p =
    ap (λ (r : Result (A × Place) ShapeFault). r >>= (λ x. g.read x.1 >>= (λ y. pair x.0 y)))
    (first p) ∙ go (h.read p)
  where
    go : (r : Result (C × Place) ShapeFault)
        → ((r >>= (λ y. pair (to y.0) y.1)) >>= (λ x. g.read x.1 >>= (λ y. pair x.0 y)))
        ≡ ((r >>= (λ x. k.read x.1 >>= (λ y. pair x.0 y))) >>= (λ y. pair (to y.0) (on y.1)))
    go (Ok x) = ap (λ (r : Result B ShapeFault). r >>= (λ y. pair (to x.0) y)) (second x.1)
        ∙ seen-step (k.read x.1) on (λ y. pair (to x.0) y) (λ y. pair x.0 y)
        (λ (y : C × D). (to y.0, on y.1)) (λ y. refl)
    go (Err e) = refl

pub preceded-sees : {A B : Type 0} (to : B → A) (f : Front (Unit {0})) (g : Whole A) (h : Whole B)
    → Sees to g h → Sees to (preceded f g) (preceded f h)
preceded-sees to f g h sees p = go (f.read p)
  where
    go : (r : Result (Unit {0} × Place) ShapeFault)
        → (r >>= (λ q. g.read q.1)) ≡ ((r >>= (λ q. h.read q.1)) >>= (λ y. Ok (to y)))
    go (Ok q) = sees q.1
    go (Err e) = refl

pub only-sees : {A B : Type 0} (to : B → A) (f : Front A) (g : Front B) → SeesFront to f g
    → Sees to (only f) (only g)
only-sees {A = A} {B = B} to f g sees p =
    ap (λ (r : Result (A × Place) ShapeFault). r >>= (λ x. end_at x.1 >>= (λ y. Ok x.0))) (sees p)
    ∙ go (g.read p)
  where
    go : (r : Result (B × Place) ShapeFault)
        → ((r >>= (λ y. pair (to y.0) y.1)) >>= (λ x. end_at x.1 >>= (λ y. Ok x.0)))
        ≡ ((r >>= (λ x. end_at x.1 >>= (λ y. Ok x.0))) >>= (λ y. Ok (to y)))
    go (Ok x) = sym (bind-assoc (end_at x.1) (λ y. Ok x.0) (λ y. Ok (to y)))
    go (Err e) = refl

pub maybe-sees : {A B : Type 0} (to : B → A) (f : Whole A) (g : Whole B) → Sees to f g
    → Sees (option_map to) (maybe f) (maybe g)
maybe-sees {A = A} {B = B} to f g sees p = go (is_empty p.left)
  where
    go : (b : Bool)
        → cond b (Ok None) (f.read p >>= (λ x. Ok (Some x)))
        ≡ (cond b (Ok None) (g.read p >>= (λ x. Ok (Some x))) >>= (λ y. Ok (option_map to y)))
    go true = refl
    go false = ap (λ (r : Result A ShapeFault). r >>= (λ x. Ok (Some x))) (sees p)
        ∙ seen-step (g.read p) to (λ x. Ok (Some x)) (λ x. Ok (Some x)) (option_map to)
        (λ y. refl)

-- One value and the others.
many-step-sees : {A B : Type 0} (to : B → A) (f : Front A) (g : Front B)
    (more : Place → Result (List A) ShapeFault) (others : Place → Result (List B) ShapeFault)
    → ((q : Place) → more q ≡ (others q >>= (λ ys. Ok (map to ys)))) → SeesFront to f g
    → (p : Place) (b : Bool)
    → cond b (Ok []) (f.read p >>= (λ x. more x.1 >>= (λ xs. Ok (x.0 ∷ xs))))
    ≡ (cond b (Ok []) (g.read p >>= (λ x. others x.1 >>= (λ xs. Ok (x.0 ∷ xs))))
    >>= (λ ys. Ok (map to ys)))
many-step-sees to f g more others rest sees p true = refl
many-step-sees {A = A} {B = B} to f g more others rest sees p false =
    ap (λ (r : Result (A × Place) ShapeFault). r >>= (λ x. more x.1 >>= (λ xs. Ok (x.0 ∷ xs))))
    (sees p) ∙ go (g.read p)
  where
    go : (r : Result (B × Place) ShapeFault)
        → ((r >>= (λ y. pair (to y.0) y.1)) >>= (λ x. more x.1 >>= (λ xs. Ok (x.0 ∷ xs))))
        ≡ ((r >>= (λ x. others x.1 >>= (λ xs. Ok (x.0 ∷ xs)))) >>= (λ ys. Ok (map to ys)))
    go (Ok x) = ap (λ (r : Result (List A) ShapeFault). r >>= (λ xs. Ok (to x.0 ∷ xs))) (rest x.1)
        ∙ seen-step (others x.1) (map to) (λ xs. Ok (to x.0 ∷ xs)) (λ xs. Ok (x.0 ∷ xs)) (map to)
        (λ y. refl)
    go (Err e) = refl

nothing-left : {A B : Type 0} (to : B → A) (last : ℕ) (b : Bool)
    → cond b (Ok []) (Err (Shape last))
    ≡ (cond b (Ok []) (Err (Shape last)) >>= (λ ys. Ok (map to ys)))
nothing-left to last true = refl
nothing-left to last false = refl

pub many_at-sees : {A B : Type 0} (to : B → A) (f : Front A) (g : Front B) → SeesFront to f g
    → (n : ℕ) (p : Place) → many_at f n p ≡ (many_at g n p >>= (λ ys. Ok (map to ys)))
unfolding many_at
many_at-sees to f g sees zero p = nothing-left to p.last (is_empty p.left)
many_at-sees to f g sees (suc n) p =
    let rest = many_at-sees to f g sees n in
    many-step-sees to f g (many_at f n) (many_at g n) rest sees p (is_empty p.left)

pub many-sees : {A B : Type 0} (to : B → A) (f : Front A) (g : Front B) → SeesFront to f g
    → Sees (map to) (many f) (many g)
many-sees to f g sees p = many_at-sees to f g sees (length p.left) p

pub tested-sees : {A B : Type 0} (to : B → A) (f : Whole A) (g : Whole B) (test : A → Bool)
    (other : B → Bool) → ((y : B) → test (to y) ≡ other y) → Sees to f g
    → Sees to (tested f test) (tested g other)
tested-sees {A = A} {B = B} to f g test other same sees p =
    ap (λ (r : Result A ShapeFault). r >>= (λ x. cond (test x) (Ok x) (Err (Shape p.last))))
    (sees p)
    ∙ seen-step (g.read p) to (λ x. cond (test x) (Ok x) (Err (Shape p.last)))
    (λ y. cond (other y) (Ok y) (Err (Shape p.last))) to
    (λ y. ap (λ (b : Bool). cond b (Ok (to y)) (Err (Shape p.last))) (same y)
    ∙ go y (other y))
  where
    go : (y : B) (b : Bool)
        → cond b (Ok (to y)) (Err (Shape p.last))
        ≡ (cond b (Ok y) (Err (Shape p.last)) >>= (λ z. Ok (to z)))
    go y true = refl
    go y false = refl

pub through-sees : {A B C D : Type 0} (on : B → A) (to : D → C) (f : Whole A) (g : Whole B)
    (make : A → Option C) (from : C → A) (good : C → Type 0) (make2 : B → Option D)
    (from2 : D → B) (good2 : D → Type 0)
    → ((y : B) → make (on y) ≡ option_map to (make2 y)) → Sees on f g
    → Sees to (through f make from good) (through g make2 from2 good2)
through-sees {A = A} {B = B} {C = C} {D = D} on to f g make from good make2 from2 good2 same sees
    p =
    ap (λ (r : Result A ShapeFault). r >>= (λ x. there_or (Shape p.last) (make x))) (sees p)
    ∙ seen-step (g.read p) on (λ x. there_or (Shape p.last) (make x))
    (λ y. there_or (Shape p.last) (make2 y)) to
    (λ y. ap (there_or (Shape p.last)) (same y) ∙ go (make2 y))
  where
    go : (o : Option D)
        → there_or (Shape p.last) (option_map to o)
        ≡ (there_or (Shape p.last) o >>= (λ z. Ok (to z)))
    go (Some z) = refl
    go None = refl
