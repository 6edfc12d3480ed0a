-- The laws of values that may be there, and of values of two kinds.
use Rattle.std.proofs.Common.{◌≡◌, ℕ, ◌≤◌, Bool, true, false, cond, eqb, Option, Some, None, List, [], ◌∷◌, ◌++◌, length, Result, Ok, Err, refl, sym, ap, subst, ◌∙◌, arith, ◌⊎◌, inl, inr}
use Rattle.std.specs.List.{flat_map}
use Rattle.der.specs.declared.shape_fault.ShapeFault.{ShapeFault}
use Rattle.der.specs.Part.{Place, IsInput, IsPlace, ◌>>=◌, begins, is_empty}
use Rattle.der.specs.Form.{Whole, Front, Takes, Begins, IsTold, IsWhole, IsBehind, IsFront}
use Rattle.der.specs.Forms.{ends, within, sole, after, OnSomeOf, spelled_some, maybe, left_right, EitherOf, either, optional, AreAll, many}
use Rattle.der.specs.laws.PlaceLaws.{behind-place, next, is-next}
use Rattle.der.specs.laws.FormLaws.{same-ok, not-err, not-nil, bind-ok, bind-err, told-behind, one-front-value}
use Rattle.std.proofs.lemmas.Bool.{eq-eqb}
use Rattle.der.specs.Spelling.{spelled, length_bytes}
use Rattle.der.specs.laws.FormLaws.{told-first}

-- ---- nothing, or a value

empty-cases : (bytes : List ℕ) → ((bytes ≡ []) × (is_empty bytes ≡ true)) ⊎ ((1 ≤ length bytes) × (is_empty bytes ≡ false))
empty-cases [] = inl (refl, refl)
empty-cases (b ∷ bytes) = inr (omega arith, refl)

pub not-empty : (bytes : List ℕ) → 1 ≤ length bytes → is_empty bytes ≡ false
not-empty [] some = absurd (omega arith)
not-empty (b ∷ bytes) some = refl

pub maybe-law : {A : Type 0} (f : Whole A) → IsWhole f → ((x : A) → f.good x → 1 ≤ length (f.spelling x)) → IsWhole (maybe f)
maybe-law {A = A} f law some = record { again = again; taken = taken; fault = fault }
  where
    held : (bytes : List ℕ) (b : ℕ) (t : List ℕ) → bytes ≡ b ∷ t → (x : Option A) → OnSomeOf f.good x → bytes ≡ spelled_some f.spelling x → Takes f bytes
    held bytes b t same None good e = absurd (not-nil b t (sym same ∙ e))
    held bytes b t same (Some x) good e = record { value = x; good = good; spelled = e }

    again : (x : Option A) (p : Place) → OnSomeOf f.good x → IsPlace p → p.left ≡ spelled_some f.spelling x → (maybe f).read p ≡ Ok x
    again None p good is e = rw e refl
    again (Some x) p good is e =
        let read : f.read p ≡ Ok x = law.again x p good is e in
        let long : 1 ≤ length p.left = omega (arith, ap length e, some x good) in
        rw (not-empty p.left long, read) refl

    rest : Place → Result (Option A) ShapeFault
    rest p = f.read p >>= (λ x. Ok (Some x))

    taken : (x : Option A) (p : Place) → IsPlace p → (maybe f).read p ≡ Ok x → OnSomeOf f.good x × (p.left ≡ spelled_some f.spelling x)
    taken x p is e =
        elim (empty-cases p.left) [
          | inl nothing ↦
              let h : Ok None ≡ Ok x = ap (λ (b : Bool). cond b (Ok None) (f.read p >>= (λ x. Ok (Some x)))) (sym nothing.1) ∙ e in
              subst (λ (y : Option A). OnSomeOf f.good y × (p.left ≡ spelled_some f.spelling y)) (same-ok {A = Option A} None x h) (tt, nothing.0)
          | inr long ↦
              let h : (f.read p >>= (λ x. Ok (Some x))) ≡ Ok x = ap (λ (b : Bool). cond b (Ok None) (f.read p >>= (λ x. Ok (Some x)))) (sym long.1) ∙ e in
              let a = bind-ok (f.read p) (λ x. Ok (Some x)) x h in
              subst (λ (y : Option A). OnSomeOf f.good y × (p.left ≡ spelled_some f.spelling y)) (same-ok {A = Option A} (Some a.0) x a.2) (law.taken a.0 p is a.1)
        ]

    fault : (e : ShapeFault) (p : Place) → IsPlace p → (maybe f).read p ≡ Err e → IsTold (Takes (maybe f)) p e
    fault e p is h =
        elim (empty-cases p.left) [
          | inl nothing ↦
              let h' : Ok None ≡ Err e = ap (λ (b : Bool). cond b (Ok None) (f.read p >>= (λ x. Ok (Some x)))) (sym nothing.1) ∙ h in
              absurd (not-err {A = Option A} None e h')
          | inr long ↦
              let h' : (f.read p >>= (λ x. Ok (Some x))) ≡ Err e = ap (λ (b : Bool). cond b (Ok None) (f.read p >>= (λ x. Ok (Some x)))) (sym long.1) ∙ h in
              elim (bind-err (f.read p) (λ x. Ok (Some x)) e h') [
                | inl refused ↦ told-first (Takes (maybe f)) p e (λ bytes input b s t own same w. held bytes b t same w.value w.good w.spelled) (law.fault e p is refused)
                | inr a ↦ absurd (not-err {A = Option A} (Some a.0) e a.2)
              ]
        ]

-- ---- one of two values, told apart by a tag

-- Each spelling begins with that tag, or none.
pub record IsBegun {A : Type 0} (tag : ℕ) (f : Front A) : Type 0 where
  pub begun : (x : A) (rest : List ℕ) → f.good x → begins tag (f.spelling x ++ rest) ≡ true

pub record IsNotBegun {A : Type 0} (tag : ℕ) (f : Front A) : Type 0 where
  pub not_begun : (x : A) (rest : List ℕ) → f.good x → begins tag (f.spelling x ++ rest) ≡ false

pub record IsNeverBegun {A : Type 0} (tag : ℕ) (g : Whole A) : Type 0 where
  pub never_begun : (y : A) → g.good y → begins tag (g.spelling y) ≡ false

true-false : (b : Bool) → b ≡ true → b ≡ false → ⊥
true-false b one other = absurd (apart (sym one ∙ other))
  where
    apart : true ≡ false → ⊥
    apart e = cc

-- Two bytes sequences with one first byte begin with the same tag.
begins-alike : (tag b : ℕ) (x y s t : List ℕ) → x ≡ b ∷ s → y ≡ b ∷ t → begins tag x ≡ begins tag y
begins-alike tag b x y s t e h = ap (begins tag) e ∙ sym (ap (begins tag) h)

either-read : {A : Type 0} (b : Bool) (x y z : A) → cond b x y ≡ z → ((b ≡ true) × (x ≡ z)) ⊎ ((b ≡ false) × (y ≡ z))
either-read true x y z e = inl (refl, e)
either-read false x y z e = inr (refl, e)

pub either-law : {A B : Type 0} (tag : ℕ) (f : Front A) (g : Front B) → IsFront f → IsFront g → IsBegun tag f → IsNotBegun tag g → IsFront (either tag f g)
either-law {A = A} {B = B} tag f g law-f law-g with without = record { again = again; taken = taken; fault = fault; some = some }
  where
    left : (bytes : List ℕ) → begins tag bytes ≡ true → (x : A ⊎ B) (rest : List ℕ) → EitherOf f.good g.good x → bytes ≡ left_right f.spelling g.spelling x ++ rest → Begins f bytes
    left bytes test (inl x) rest good e = record { value = x; rest = rest; good = good; spelled = e }
    left bytes test (inr y) rest good e = absurd (true-false _ test (ap (begins tag) e ∙ without.not_begun y rest good))

    right : (bytes : List ℕ) → begins tag bytes ≡ false → (x : A ⊎ B) (rest : List ℕ) → EitherOf f.good g.good x → bytes ≡ left_right f.spelling g.spelling x ++ rest → Begins g bytes
    right bytes test (inl x) rest good e = absurd (true-false _ (ap (begins tag) e ∙ with.begun x rest good) test)
    right bytes test (inr y) rest good e = record { value = y; rest = rest; good = good; spelled = e }

    some : (x : A ⊎ B) → EitherOf f.good g.good x → 1 ≤ length (left_right f.spelling g.spelling x)
    some (inl x) good = law-f.some x good
    some (inr y) good = law-g.some y good

    again : (x : A ⊎ B) (p q : Place) → EitherOf f.good g.good x → IsPlace p → IsBehind (left_right f.spelling g.spelling x) p q → (either tag f g).read p ≡ Ok (x, q)
    again (inl x) p q good is b =
        let read : f.read p ≡ Ok (x, q) = law-f.again x p q good is b in
        let test : begins tag p.left ≡ true = ap (begins tag) b.left ∙ with.begun x q.left good in
        rw (test, read) refl
    again (inr y) p q good is b =
        let read : g.read p ≡ Ok (y, q) = law-g.again y p q good is b in
        let test : begins tag p.left ≡ false = ap (begins tag) b.left ∙ without.not_begun y q.left good in
        rw (test, read) refl

    taken : (x : A ⊎ B) (p q : Place) → IsPlace p → (either tag f g).read p ≡ Ok (x, q) → EitherOf f.good g.good x × IsBehind (left_right f.spelling g.spelling x) p q
    taken x p q is e =
        elim (either-read (begins tag p.left) (f.read p >>= (λ x. Ok (inl x.0, x.1))) (g.read p >>= (λ y. Ok (inr y.0, y.1))) (Ok (x, q)) e) [
          | inl first ↦
              let a = bind-ok (f.read p) (λ x. Ok (inl x.0, x.1)) (x, q) first.1 in
              let t = law-f.taken a.0.0 p a.0.1 is a.1 in
              subst (λ (y : (A ⊎ B) × Place). EitherOf f.good g.good y.0 × IsBehind (left_right f.spelling g.spelling y.0) p y.1) (same-ok {A = (A ⊎ B) × Place} (inl a.0.0, a.0.1) (x, q) a.2) t
          | inr second ↦
              let a = bind-ok (g.read p) (λ y. Ok (inr y.0, y.1)) (x, q) second.1 in
              let t = law-g.taken a.0.0 p a.0.1 is a.1 in
              subst (λ (y : (A ⊎ B) × Place). EitherOf f.good g.good y.0 × IsBehind (left_right f.spelling g.spelling y.0) p y.1) (same-ok {A = (A ⊎ B) × Place} (inr a.0.0, a.0.1) (x, q) a.2) t
        ]

    fault : (e : ShapeFault) (p : Place) → IsPlace p → (either tag f g).read p ≡ Err e → IsTold (Begins (either tag f g)) p e
    fault e p is h =
        elim (either-read (begins tag p.left) (f.read p >>= (λ x. Ok (inl x.0, x.1))) (g.read p >>= (λ y. Ok (inr y.0, y.1))) (Err e) h) [
          | inl first ↦ elim (bind-err (f.read p) (λ x. Ok (inl x.0, x.1)) e first.1) [
            | inl refused ↦ told-first (Begins (either tag f g)) p e (λ bytes input b s t own same w. left bytes (sym (begins-alike tag b p.left bytes s t own same) ∙ first.0) w.value w.rest w.good w.spelled) (law-f.fault e p is refused)
            | inr a ↦ absurd (not-err {A = (A ⊎ B) × Place} (inl a.0.0, a.0.1) e a.2)
          ]
          | inr second ↦ elim (bind-err (g.read p) (λ y. Ok (inr y.0, y.1)) e second.1) [
            | inl refused ↦ told-first (Begins (either tag f g)) p e (λ bytes input b s t own same w. right bytes (sym (begins-alike tag b p.left bytes s t own same) ∙ second.0) w.value w.rest w.good w.spelled) (law-g.fault e p is refused)
            | inr a ↦ absurd (not-err {A = (A ⊎ B) × Place} (inr a.0.0, a.0.1) e a.2)
          ]
        ]

-- ---- an optional value, told by its tag

pub optional-law : {A B : Type 0} (tag : ℕ) (f : Front A) (g : Whole B) → IsFront f → IsWhole g → IsBegun tag f → IsNeverBegun tag g → IsWhole (optional tag f g)
optional-law {A = A} {B = B} tag f g law-f law-g with without = record { again = again; taken = taken; fault = fault }
  where
    there_is : (bytes : List ℕ) → begins tag bytes ≡ true → (x : Option A × B) → OnSomeOf f.good x.0 × g.good x.1 → bytes ≡ spelled_some f.spelling x.0 ++ g.spelling x.1 → Begins f bytes
    there_is bytes test (None, y) good e = absurd (true-false _ test (ap (begins tag) e ∙ without.never_begun y good.1))
    there_is bytes test (Some x, y) good e = record { value = x; rest = g.spelling y; good = good.0; spelled = e }

    there_is_none : (bytes : List ℕ) → begins tag bytes ≡ false → (x : Option A × B) → OnSomeOf f.good x.0 × g.good x.1 → bytes ≡ spelled_some f.spelling x.0 ++ g.spelling x.1 → Takes g bytes
    there_is_none bytes test (None, y) good e = record { value = y; good = good.1; spelled = e }
    there_is_none bytes test (Some x, y) good e = absurd (true-false _ (ap (begins tag) e ∙ with.begun x (g.spelling y) good.0) test)

    behind-it : (a : A) → f.good a → (other : List ℕ) → IsInput (f.spelling a ++ other) → (x : Option A × B) → OnSomeOf f.good x.0 × g.good x.1 → f.spelling a ++ other ≡ spelled_some f.spelling x.0 ++ g.spelling x.1 → Takes g other
    behind-it a ok other input (None, y) good e = absurd (true-false _ (with.begun a other ok) (ap (begins tag) e ∙ without.never_begun y good.1))
    behind-it a ok other input (Some x, y) good e =
        let one = one-front-value f law-f a x other (g.spelling y) ok good.0 input e in
        record { value = y; good = good.1; spelled = one.1 }

    again : (x : Option A × B) (p : Place) → OnSomeOf f.good x.0 × g.good x.1 → IsPlace p → p.left ≡ spelled_some f.spelling x.0 ++ g.spelling x.1 → (optional tag f g).read p ≡ Ok x
    again (None, y) p good is e =
        let read : g.read p ≡ Ok y = law-g.again y p good.1 is e in
        let test : begins tag p.left ≡ false = ap (begins tag) e ∙ without.never_begun y good.1 in
        rw (test, read) refl
    again (Some x, y) p good is e =
        let q : Place = next p (f.spelling x) (g.spelling y) in
        let b : IsBehind (f.spelling x) p q = is-next p (f.spelling x) (g.spelling y) e in
        let first : f.read p ≡ Ok (x, q) = law-f.again x p q good.0 is b in
        let second : g.read q ≡ Ok y = law-g.again y q good.1 (behind-place (f.spelling x) p q is b) refl in
        let test : begins tag p.left ≡ true = ap (begins tag) e ∙ with.begun x (g.spelling y) good.0 in
        rw (test, first, second) refl

    taken : (x : Option A × B) (p : Place) → IsPlace p → (optional tag f g).read p ≡ Ok x → (OnSomeOf f.good x.0 × g.good x.1) × (p.left ≡ spelled_some f.spelling x.0 ++ g.spelling x.1)
    taken x p is e =
        elim (either-read (begins tag p.left) (f.read p >>= (λ x. g.read x.1 >>= (λ y. Ok (Some x.0, y)))) (g.read p >>= (λ y. Ok (None, y))) (Ok x) e) [
          | inl first ↦
              let a = bind-ok (f.read p) (λ x. g.read x.1 >>= (λ y. Ok (Some x.0, y))) x first.1 in
              let t = law-f.taken a.0.0 p a.0.1 is a.1 in
              let b = bind-ok (g.read a.0.1) (λ y. Ok (Some a.0.0, y)) x a.2 in
              let u = law-g.taken b.0 a.0.1 (behind-place (f.spelling a.0.0) p a.0.1 is t.1) b.1 in
              subst (λ (z : Option A × B). (OnSomeOf f.good z.0 × g.good z.1) × (p.left ≡ spelled_some f.spelling z.0 ++ g.spelling z.1)) (same-ok {A = Option A × B} (Some a.0.0, b.0) x b.2) ((t.0, u.0), t.1.left ∙ ap (λ (l : List ℕ). f.spelling a.0.0 ++ l) u.1)
          | inr second ↦
              let b = bind-ok (g.read p) (λ y. Ok (None, y)) x second.1 in
              let u = law-g.taken b.0 p is b.1 in
              subst (λ (z : Option A × B). (OnSomeOf f.good z.0 × g.good z.1) × (p.left ≡ spelled_some f.spelling z.0 ++ g.spelling z.1)) (same-ok {A = Option A × B} (None, b.0) x b.2) ((tt, u.0), u.1)
        ]

    fault : (e : ShapeFault) (p : Place) → IsPlace p → (optional tag f g).read p ≡ Err e → IsTold (Takes (optional tag f g)) p e
    fault e p is h =
        elim (either-read (begins tag p.left) (f.read p >>= (λ x. g.read x.1 >>= (λ y. Ok (Some x.0, y)))) (g.read p >>= (λ y. Ok (None, y))) (Err e) h) [
          | inl first ↦ elim (bind-err (f.read p) (λ x. g.read x.1 >>= (λ y. Ok (Some x.0, y))) e first.1) [
            | inl refused ↦ told-first (Takes (optional tag f g)) p e (λ bytes input b s t own same w. there_is bytes (sym (begins-alike tag b p.left bytes s t own same) ∙ first.0) w.value w.good w.spelled) (law-f.fault e p is refused)
            | inr a ↦ elim (bind-err (g.read a.0.1) (λ y. Ok (Some a.0.0, y)) e a.2) [
              | inl refused ↦
                  let t = law-f.taken a.0.0 p a.0.1 is a.1 in
                  told-behind (Takes (optional tag f g)) (f.spelling a.0.0) p a.0.1 e t.1
                  (λ other input w. behind-it a.0.0 t.0 other input w.value w.good w.spelled)
                  (law-g.fault e a.0.1 (behind-place (f.spelling a.0.0) p a.0.1 is t.1) refused)
              | inr b ↦ absurd (not-err {A = Option A × B} (Some a.0.0, b.0) e b.2)
            ]
          ]
          | inr second ↦ elim (bind-err (g.read p) (λ y. Ok (None, y)) e second.1) [
            | inl refused ↦ told-first (Takes (optional tag f g)) p e (λ bytes input b s t own same w. there_is_none bytes (sym (begins-alike tag b p.left bytes s t own same) ∙ second.0) w.value w.good w.spelled) (law-g.fault e p is refused)
            | inr a ↦ absurd (not-err {A = Option A × B} (None, a.0) e a.2)
          ]
        ]

-- ---- which tag a spelling begins with

pub within-begun : {A : Type 0} (tag : ℕ) (f : Whole A) → IsBegun tag (within tag f)
unfolding spelled
within-begun tag f = record { begun = λ x rest good. eq-eqb tag tag refl }

pub within-not-begun : {A : Type 0} (tag own : ℕ) (f : Whole A) → eqb own tag ≡ false → IsNotBegun tag (within own f)
unfolding spelled
within-not-begun tag own f test = record { not_begun = λ x rest good. test }

pub sole-never-begun : {A : Type 0} (tag own : ℕ) (f : Whole A) → eqb own tag ≡ false → IsNeverBegun tag (sole own f)
unfolding spelled
sole-never-begun tag own f test = record { never_begun = λ x good. test }

pub after-never-begun : {A B : Type 0} (tag own : ℕ) (f : Whole A) (g : A → Whole B) → eqb own tag ≡ false → IsNeverBegun tag (after (within own f) g)
unfolding spelled
after-never-begun tag own f g test = record { never_begun = λ x good. test }

pub ends-never-begun : (tag : ℕ) → IsNeverBegun tag ends
ends-never-begun tag = record { never_begun = λ x good. refl }

pub many-never-begun : {A : Type 0} (tag own : ℕ) (f : Whole A) → eqb own tag ≡ false → IsNeverBegun tag (many (within own f))
unfolding spelled
many-never-begun {A = A} tag own f test = record { never_begun = first }
  where
    first : (xs : List A) → AreAll f.good xs → begins tag (flat_map (λ x. own ∷ (length_bytes (length (f.spelling x)) ++ f.spelling x)) xs) ≡ false
    first [] good = refl
    first (x ∷ xs) good = test

pub optional-never-begun : {A B : Type 0} (tag own : ℕ) (f : Whole A) (g : Whole B) → eqb own tag ≡ false → IsNeverBegun tag g → IsNeverBegun tag (optional own (within own f) g)
unfolding spelled
optional-never-begun {A = A} {B = B} tag own f g test without = record { never_begun = first }
  where
    first : (x : Option A × B) → OnSomeOf f.good x.0 × g.good x.1 → begins tag (spelled_some (λ x. own ∷ (length_bytes (length (f.spelling x)) ++ f.spelling x)) x.0 ++ g.spelling x.1) ≡ false
    first (None, y) good = without.never_begun y good.1
    first (Some x, y) good = test
