-- The laws of values of two kinds that only their readings tell apart.
use Rattle.std.proofs.Common.{◌≡◌, ℕ, suc, ◌+◌, ◌≤◌, Option, Some, None, List, [], ◌∷◌, ◌++◌, length, Result, Ok, Err, refl, sym, ap, subst, ◌∙◌, arith, ◌⊎◌, inl, inr}
use Rattle.std.proofs.lemmas.List.{length-append}
use Rattle.der.specs.declared.shape_fault.ShapeFault.{ShapeFault}
use Rattle.der.specs.declared.shape_fault.ShapeFault.TheVariants.{Shape, Memory}
use Rattle.der.specs.Part.{Place, IsInput, IsPlace}
use Rattle.der.specs.Form.{Whole, Front, Takes, Begins, Dies, IsTold, IsWhole, IsBehind, IsFront}
use Rattle.der.specs.Forms.{OnSomeOf, spelled_some, left_right, EitherOf, later, first_or, choice, some_or_none, possibly, ends, after}
use Rattle.der.specs.laws.PlaceLaws.{behind-place, next, is-next}
use Rattle.der.specs.laws.FormLaws.{same-ok, same-err, not-err, bind-ok, bind-err, told-behind, one-front-value}
use Rattle.std.proofs.lemmas.Bool.{cases_lt, lt-ltb, le-ltb}

-- ---- the later of two faults

-- A byte that stands no later stands in both, whatever follows.
front-of : (fa : List ℕ) (ba : ℕ) (ma fb : List ℕ) (bb : ℕ) (mb other : List ℕ) → fa ++ (ba ∷ ma) ≡ fb ++ (bb ∷ mb) → length fb ≤ length fa → (o : List ℕ) × (fa ++ (ba ∷ other) ≡ fb ++ (bb ∷ o))
front-of [] ba ma [] bb mb other e less = (other, ap (λ (x : ℕ). x ∷ other) (heads e))
  where
    heads : ba ∷ ma ≡ bb ∷ mb → ba ≡ bb
    heads e = cc
front-of (c ∷ fa) ba ma [] bb mb other e less = (fa ++ (ba ∷ other), ap (λ (x : ℕ). x ∷ (fa ++ (ba ∷ other))) (heads e))
  where
    heads : c ∷ (fa ++ (ba ∷ ma)) ≡ bb ∷ mb → c ≡ bb
    heads e = cc
front-of [] ba ma (d ∷ fb) bb mb other e less = absurd (omega arith)
front-of (c ∷ fa) ba ma (d ∷ fb) bb mb other e less =
    let t = front-of fa ba ma fb bb mb other (tails e) (omega arith) in
    (t.0, ap (λ (l : List ℕ). c ∷ l) t.1 ∙ ap (λ (x : ℕ). x ∷ (fb ++ (bb ∷ t.0))) (heads e))
  where
    heads : c ∷ (fa ++ (ba ∷ ma)) ≡ d ∷ (fb ++ (bb ∷ mb)) → c ≡ d
    heads e = cc

    tails : c ∷ (fa ++ (ba ∷ ma)) ≡ d ∷ (fb ++ (bb ∷ mb)) → fa ++ (ba ∷ ma) ≡ fb ++ (bb ∷ mb)
    tails e = cc

dies-later : {K M : List ℕ → Type 0} (L : List ℕ → Type 0) (p : Place) (a b : ℕ) → b ≤ a → Dies K p a → Dies M p b → ((bytes : List ℕ) → IsInput bytes → L bytes → (K bytes ⊎ M bytes)) → Dies L p a
dies-later {K = K} {M = M} L p a b order one two covers = record {
  front = one.front;
  byte = one.byte;
  more = one.more;
  parts = one.parts;
  place = one.place;
  dead = λ other input l. elim (covers _ input l) [
    | inl k ↦ one.dead other input k
    | inr m ↦
        let less : length two.front ≤ length one.front = omega (arith, one.place, two.place) in
        let o = front-of one.front one.byte one.more two.front two.byte two.more other (sym one.parts ∙ two.parts) less in
        two.dead o.0 (subst IsInput o.1 input) (subst M o.1 m)
  ];
}

-- A byte that tells a fault stands no later than the last place.
dies-before : {K : List ℕ → Type 0} (p : Place) (a : ℕ) → IsPlace p → Dies K p a → a ≤ p.last
dies-before p a is dies =
    let count : length p.left ≡ length dies.front + suc (length dies.more) = ap length dies.parts ∙ length-append dies.front (dies.byte ∷ dies.more) in
    omega (arith, is.ends, dies.place)

swap-sum : {A B : Type 0} → A ⊎ B → B ⊎ A
swap-sum (inl x) = inr x
swap-sum (inr y) = inl y

-- Of two places the one not before the other.
told-not-before : {K M : List ℕ → Type 0} (L : List ℕ → Type 0) (p : Place) (a b : ℕ) → IsPlace p → b ≤ a → (a ≡ p.last) ⊎ Dies K p a → (b ≡ p.last) ⊎ Dies M p b → ((bytes : List ℕ) → IsInput bytes → L bytes → (K bytes ⊎ M bytes)) → (a ≡ p.last) ⊎ Dies L p a
told-not-before L p a b is order (inl last) two covers = inl last
told-not-before L p a b is order (inr one) (inl last) covers = inl (omega (arith, dies-before p a is one))
told-not-before L p a b is order (inr one) (inr two) covers = inr (dies-later L p a b order one two covers)

pub told-later : {K M : List ℕ → Type 0} (L : List ℕ → Type 0) (p : Place) (d e : ShapeFault) → IsPlace p → IsTold K p d → IsTold M p e → ((bytes : List ℕ) → IsInput bytes → L bytes → (K bytes ⊎ M bytes)) → IsTold L p (later d e)
told-later {K = K} {M = M} L p (Shape a) (Shape b) is one two covers =
    elim (cases_lt a b) [
      | inl less ↦
          let told : IsTold L p (Shape b) = told-not-before L p b a is (omega arith) two one (λ bytes input l. swap-sum (covers bytes input l)) in
          rw (lt-ltb a b less) told
      | inr more ↦
          let told : IsTold L p (Shape a) = told-not-before L p a b is more one two covers in
          rw (le-ltb a b more) told
    ]
told-later L p (Shape a) Memory is one two covers = absurd two
told-later L p Memory e is one two covers = absurd one

-- ---- one of two kinds

-- No spelling is of both kinds.
pub record AreApart {A B : Type 0} (f : Whole A) (g : Whole B) : Type 0 where
  pub apart : (x : A) (y : B) → f.good x → g.good y → f.spelling x ≡ g.spelling y → ⊥

pub choice-law : {A B : Type 0} (f : Whole A) (g : Whole B) → IsWhole f → IsWhole g → AreApart f g → IsWhole (choice f g)
choice-law {A = A} {B = B} f g law-f law-g apart = record { again = again; taken = taken; fault = fault }
  where
    second-read : (y : B) (p : Place) (r : Result A ShapeFault) → g.good y → IsPlace p → p.left ≡ g.spelling y → f.read p ≡ r → g.read p ≡ Ok y → first_or r (g.read p) ≡ Ok (inr y)
    second-read y p (Ok x) good is e first second =
        let t = law-f.taken x p is first in
        absurd (apart.apart x y t.0 good (sym t.1 ∙ e))
    second-read y p (Err d) good is e first second = rw second refl

    again : (x : A ⊎ B) (p : Place) → EitherOf f.good g.good x → IsPlace p → p.left ≡ left_right f.spelling g.spelling x → (choice f g).read p ≡ Ok x
    again (inl x) p good is e =
        let read : f.read p ≡ Ok x = law-f.again x p good is e in
        rw read refl
    again (inr y) p good is e = second-read y p (f.read p) good is e refl (law-g.again y p good is e)

    read-of : (x : A ⊎ B) (p : Place) (r : Result A ShapeFault) (s : Result B ShapeFault) → IsPlace p → f.read p ≡ r → g.read p ≡ s → first_or r s ≡ Ok x → EitherOf f.good g.good x × (p.left ≡ left_right f.spelling g.spelling x)
    read-of x p (Ok y) s is first second e =
        subst (λ (z : A ⊎ B). EitherOf f.good g.good z × (p.left ≡ left_right f.spelling g.spelling z)) (same-ok {A = A ⊎ B} (inl y) x e) (law-f.taken y p is first)
    read-of x p (Err d) (Ok y) is first second e =
        subst (λ (z : A ⊎ B). EitherOf f.good g.good z × (p.left ≡ left_right f.spelling g.spelling z)) (same-ok {A = A ⊎ B} (inr y) x e) (law-g.taken y p is second)
    read-of x p (Err d) (Err h) is first second e = absurd cc

    taken : (x : A ⊎ B) (p : Place) → IsPlace p → (choice f g).read p ≡ Ok x → EitherOf f.good g.good x × (p.left ≡ left_right f.spelling g.spelling x)
    taken x p is e = read-of x p (f.read p) (g.read p) is refl refl e

    covers : (bytes : List ℕ) (x : A ⊎ B) → EitherOf f.good g.good x → bytes ≡ left_right f.spelling g.spelling x → Takes f bytes ⊎ Takes g bytes
    covers bytes (inl x) good e = inl (record { value = x; good = good; spelled = e })
    covers bytes (inr y) good e = inr (record { value = y; good = good; spelled = e })

    refusal-of : (e : ShapeFault) (p : Place) (r : Result A ShapeFault) (s : Result B ShapeFault) → IsPlace p → f.read p ≡ r → g.read p ≡ s → first_or r s ≡ Err e → IsTold (Takes (choice f g)) p e
    refusal-of e p (Ok y) s is first second h = absurd (not-err {A = A ⊎ B} (inl y) e h)
    refusal-of e p (Err d) (Ok y) is first second h = absurd (not-err {A = A ⊎ B} (inr y) e h)
    refusal-of e p (Err d) (Err b) is first second h =
        subst (IsTold (Takes (choice f g)) p) (same-err {A = A ⊎ B} (later d b) e h) (told-later (Takes (choice f g)) p d b is (law-f.fault d p is first) (law-g.fault b p is second) (λ bytes input w. covers bytes w.value w.good w.spelled))

    fault : (e : ShapeFault) (p : Place) → IsPlace p → (choice f g).read p ≡ Err e → IsTold (Takes (choice f g)) p e
    fault e p is h = refusal-of e p (f.read p) (g.read p) is refl refl h

-- ---- an optional value, told by its reading

-- No spelling of the second begins with one of the first.
pub record IsNoFront {A B : Type 0} (f : Front A) (g : Whole B) : Type 0 where
  pub apart : (x : A) (rest : List ℕ) (y : B) → f.good x → g.good y → f.spelling x ++ rest ≡ g.spelling y → ⊥

pub possibly-law : {A B : Type 0} (f : Front A) (g : Whole B) → IsFront f → IsWhole g → IsNoFront f g → IsWhole (possibly f g)
possibly-law {A = A} {B = B} f g law-f law-g apart = record { again = again; taken = taken; fault = fault }
  where
    none-read : (y : B) (p : Place) (r : Result (A × Place) ShapeFault) → g.good y → IsPlace p → p.left ≡ g.spelling y → f.read p ≡ r → g.read p ≡ Ok y → some_or_none r (g.read p) g ≡ Ok (None, y)
    none-read y p (Ok x) good is e first second =
        let t = law-f.taken x.0 p x.1 is first in
        absurd (apart.apart x.0 x.1.left y t.0 good (sym t.1.left ∙ e))
    none-read y p (Err d) good is e first second = rw second refl

    again : (x : Option A × B) (p : Place) → OnSomeOf f.good x.0 × g.good x.1 → IsPlace p → p.left ≡ spelled_some f.spelling x.0 ++ g.spelling x.1 → (possibly f g).read p ≡ Ok x
    again (None, y) p good is e = none-read y p (f.read p) good.1 is e refl (law-g.again y p good.1 is e)
    again (Some x, y) p good is e =
        let q : Place = next p (f.spelling x) (g.spelling y) in
        let b : IsBehind (f.spelling x) p q = is-next p (f.spelling x) (g.spelling y) e in
        let first : f.read p ≡ Ok (x, q) = law-f.again x p q good.0 is b in
        let second : g.read q ≡ Ok y = law-g.again y q good.1 (behind-place (f.spelling x) p q is b) refl in
        rw (first, second) refl

    read-of : (x : Option A × B) (p : Place) (r : Result (A × Place) ShapeFault) (s : Result B ShapeFault) → IsPlace p → f.read p ≡ r → g.read p ≡ s → some_or_none r s g ≡ Ok x → (OnSomeOf f.good x.0 × g.good x.1) × (p.left ≡ spelled_some f.spelling x.0 ++ g.spelling x.1)
    read-of x p (Ok a) s is first second e =
        let t = law-f.taken a.0 p a.1 is first in
        let b = bind-ok (g.read a.1) (λ y. Ok (Some a.0, y)) x e in
        let u = law-g.taken b.0 a.1 (behind-place (f.spelling a.0) p a.1 is t.1) b.1 in
        subst (λ (z : Option A × B). (OnSomeOf f.good z.0 × g.good z.1) × (p.left ≡ spelled_some f.spelling z.0 ++ g.spelling z.1)) (same-ok {A = Option A × B} (Some a.0, b.0) x b.2) ((t.0, u.0), t.1.left ∙ ap (λ (l : List ℕ). f.spelling a.0 ++ l) u.1)
    read-of x p (Err d) (Ok y) is first second e =
        let u = law-g.taken y p is second in
        subst (λ (z : Option A × B). (OnSomeOf f.good z.0 × g.good z.1) × (p.left ≡ spelled_some f.spelling z.0 ++ g.spelling z.1)) (same-ok {A = Option A × B} (None, y) x e) ((tt, u.0), u.1)
    read-of x p (Err d) (Err h) is first second e = absurd cc

    taken : (x : Option A × B) (p : Place) → IsPlace p → (possibly f g).read p ≡ Ok x → (OnSomeOf f.good x.0 × g.good x.1) × (p.left ≡ spelled_some f.spelling x.0 ++ g.spelling x.1)
    taken x p is e = read-of x p (f.read p) (g.read p) is refl refl e

    covers : (bytes : List ℕ) (x : Option A × B) → OnSomeOf f.good x.0 × g.good x.1 → bytes ≡ spelled_some f.spelling x.0 ++ g.spelling x.1 → Begins f bytes ⊎ Takes g bytes
    covers bytes (None, y) good e = inr (record { value = y; good = good.1; spelled = e })
    covers bytes (Some x, y) good e = inl (record { value = x; rest = g.spelling y; good = good.0; spelled = e })

    behind-it : (a : A) → f.good a → (other : List ℕ) → IsInput (f.spelling a ++ other) → (x : Option A × B) → OnSomeOf f.good x.0 × g.good x.1 → f.spelling a ++ other ≡ spelled_some f.spelling x.0 ++ g.spelling x.1 → Takes g other
    behind-it a ok other input (None, y) good e = absurd (apart.apart a other y ok good.1 e)
    behind-it a ok other input (Some x, y) good e =
        let one = one-front-value f law-f a x other (g.spelling y) ok good.0 input e in
        record { value = y; good = good.1; spelled = one.1 }

    refusal-of : (e : ShapeFault) (p : Place) (r : Result (A × Place) ShapeFault) (s : Result B ShapeFault) → IsPlace p → f.read p ≡ r → g.read p ≡ s → some_or_none r s g ≡ Err e → IsTold (Takes (possibly f g)) p e
    refusal-of e p (Ok a) s is first second h =
        let t = law-f.taken a.0 p a.1 is first in
        elim (bind-err (g.read a.1) (λ y. Ok (Some a.0, y)) e h) [
          | inl refused ↦
              told-behind (Takes (possibly f g)) (f.spelling a.0) p a.1 e t.1
              (λ other input w. behind-it a.0 t.0 other input w.value w.good w.spelled)
              (law-g.fault e a.1 (behind-place (f.spelling a.0) p a.1 is t.1) refused)
          | inr b ↦ absurd (not-err {A = Option A × B} (Some a.0, b.0) e b.2)
        ]
    refusal-of e p (Err d) (Ok y) is first second h = absurd (not-err {A = Option A × B} (None, y) e h)
    refusal-of e p (Err d) (Err b) is first second h =
        subst (IsTold (Takes (possibly f g)) p) (same-err {A = Option A × B} (later d b) e h) (told-later (Takes (possibly f g)) p d b is (law-f.fault d p is first) (law-g.fault b p is second) (λ bytes input w. covers bytes w.value w.good w.spelled))

    fault : (e : ShapeFault) (p : Place) → IsPlace p → (possibly f g).read p ≡ Err e → IsTold (Takes (possibly f g)) p e
    fault e p is h = refusal-of e p (f.read p) (g.read p) is refl refl h

-- ---- which spellings begin with one of a front

pub no_front-ends : {A : Type 0} (f : Front A) → IsFront f → IsNoFront f ends
no_front-ends f law = record {
  apart = λ x rest y good end e. omega (arith, law.some x good, ap length e, length-append (f.spelling x) rest);
}

-- No spelling of two fronts, whatever follows, is the same.
pub record AreFrontsApart {A B : Type 0} (f : Front A) (g : Front B) : Type 0 where
  pub apart : (x : A) (y : B) (r s : List ℕ) → f.good x → g.good y → f.spelling x ++ r ≡ g.spelling y ++ s → ⊥

pub no_front-after : {A B C : Type 0} (f : Front A) (g : Front B) (h : B → Whole C) → AreFrontsApart f g → IsNoFront f (after g h)
no_front-after f g h fronts = record {
  apart = λ x rest y good ok e. fronts.apart x y.0 rest ((h y.0).spelling y.1) good ok.0 e;
}

pub no_front-possibly : {A B C : Type 0} (f : Front A) (g : Front B) (h : Whole C) → AreFrontsApart f g → IsNoFront f h → IsNoFront f (possibly g h)
no_front-possibly {A = A} {B = B} {C = C} f g h fronts rest-apart = record { apart = each }
  where
    each : (x : A) (rest : List ℕ) (y : Option B × C) → f.good x → OnSomeOf g.good y.0 × h.good y.1 → f.spelling x ++ rest ≡ spelled_some g.spelling y.0 ++ h.spelling y.1 → ⊥
    each x rest (None, z) good ok e = rest-apart.apart x rest z good ok.1 e
    each x rest (Some y, z) good ok e = fronts.apart x y rest (h.spelling z) good ok.0 e

-- Sequences whose first values are apart.
pub apart-after : {A B C D : Type 0} (f : Front A) (g : A → Whole B) (h : Front C) (k : C → Whole D) → AreFrontsApart f h → AreApart (after f g) (after h k)
apart-after f g h k fronts = record {
  apart = λ x y good ok e. fronts.apart x.0 y.0 ((g x.0).spelling x.1) ((k y.0).spelling y.1) good.0 ok.0 e;
}
