-- The laws of values that are made of others.
use Rattle.std.proofs.Common.{◌≡◌, Bool, true, false, cond, Option, Some, Ok, Err, refl, sym, ap, subst, ◌∙◌, inl, inr}
use Rattle.der.specs.declared.shape_fault.ShapeFault.{ShapeFault}
use Rattle.der.specs.declared.shape_fault.ShapeFault.TheVariants.{Shape}
use Rattle.der.specs.Part.{Place, ◌>>=◌}
use Rattle.der.specs.Form.{Whole, Front, Takes, Begins, IsTold, IsWhole, IsBehind, IsFront}
use Rattle.der.specs.Forms.{there_or, through, through_front, mapped, mapped_front, tested, tested_front}
use Rattle.der.specs.laws.FormLaws.{same-ok, same-err, not-err, bind-ok, bind-err, there, not-there, told-fewer}

-- The way there and the way back.
pub record IsInverse {A B : Type 0} (from-good : A → Type 0) (to : A → Option B) (from : B → A) (good : B → Type 0) : Type 0 where
  pub back : (y : B) → good y → from-good (from y) × (to (from y) ≡ Some y)
  pub there : (x : A) (y : B) → from-good x → to x ≡ Some y → good y × (from y ≡ x)

pub through-law : {A B : Type 0} (f : Whole A) (to : A → Option B) (from : B → A) (good : B → Type 0) → IsWhole f → IsInverse f.good to from good → IsWhole (through f to from good)
through-law {A = A} {B = B} f to from good law inverse = record {
  again = λ y p ok is e.
      let b = inverse.back y ok in
      let read : f.read p ≡ Ok (from y) = law.again (from y) p b.0 is e in
      rw (read, b.1) refl;
  taken = λ y p is e.
      let a = bind-ok (f.read p) (λ x. there_or (Shape p.last) (to x)) y e in
      let t = law.taken a.0 p is a.1 in
      let i = inverse.there a.0 y t.0 (there (Shape p.last) (to a.0) y a.2) in
      (i.0, t.1 ∙ ap f.spelling (sym i.1));
  fault = λ e p is h.
      elim (bind-err (f.read p) (λ x. there_or (Shape p.last) (to x)) e h) [
        | inl refused ↦ told-fewer p e (λ bytes input t. record { value = from t.value; good = (inverse.back t.value t.good).0; spelled = t.spelled }) (law.fault e p is refused)
        | inr a ↦ subst (IsTold (Takes (through f to from good)) p) (not-there (Shape p.last) (to a.0) e a.2) (inl refl)
      ];
}

pub through_front-law : {A B : Type 0} (f : Front A) (to : A → Option B) (from : B → A) (good : B → Type 0) → IsFront f → IsInverse f.good to from good → IsFront (through_front f to from good)
through_front-law {A = A} {B = B} f to from good law inverse = record {
  again = λ y p q ok is b.
      let back = inverse.back y ok in
      let read : f.read p ≡ Ok (from y, q) = law.again (from y) p q back.0 is b in
      rw (read, back.1) refl;
  taken = λ y p q is e.
      let a = bind-ok (f.read p) (λ x. there_or (Shape p.last) (to x.0) >>= (λ y. Ok (y, x.1))) (y, q) e in
      let b = bind-ok (there_or (Shape p.last) (to a.0.0)) (λ y. Ok (y, a.0.1)) (y, q) a.2 in
      let t = law.taken a.0.0 p a.0.1 is a.1 in
      let i = inverse.there a.0.0 b.0 t.0 (there (Shape p.last) (to a.0.0) b.0 b.1) in
      let same : (b.0, a.0.1) ≡ (y, q) = same-ok {A = B × Place} _ _ b.2 in
      subst (λ (z : B × Place). good z.0 × IsBehind (f.spelling (from z.0)) p z.1) same (i.0, subst (λ (v : A). IsBehind (f.spelling v) p a.0.1) (sym i.1) t.1);
  fault = λ e p is h.
      elim (bind-err (f.read p) (λ x. there_or (Shape p.last) (to x.0) >>= (λ y. Ok (y, x.1))) e h) [
        | inl refused ↦ told-fewer p e (λ bytes input t. record { value = from t.value; rest = t.rest; good = (inverse.back t.value t.good).0; spelled = t.spelled }) (law.fault e p is refused)
        | inr a ↦ elim (bind-err (there_or (Shape p.last) (to a.0.0)) (λ y. Ok (y, a.0.1)) e a.2) [
          | inl refused ↦ subst (IsTold (Begins (through_front f to from good)) p) (not-there (Shape p.last) (to a.0.0) e refused) (inl refl)
          | inr b ↦ absurd (not-err {A = B × Place} _ e b.2)
        ]
      ];
  some = λ y ok. law.some (from y) (inverse.back y ok).0;
}

-- The way there and the way back of a function that has a value everywhere.
pub record IsBijection {A B : Type 0} (from-good : A → Type 0) (to : A → B) (from : B → A) (good : B → Type 0) : Type 0 where
  pub back : (y : B) → good y → from-good (from y) × (to (from y) ≡ y)
  pub there : (x : A) → from-good x → good (to x) × (from (to x) ≡ x)

pub mapped-law : {A B : Type 0} (f : Whole A) (to : A → B) (from : B → A) (good : B → Type 0) → IsWhole f → IsBijection f.good to from good → IsWhole (mapped f to from good)
mapped-law {A = A} {B = B} f to from good law inverse = record {
  again = λ y p ok is e.
      let b = inverse.back y ok in
      let read : f.read p ≡ Ok (from y) = law.again (from y) p b.0 is e in
      rw (read, b.1) refl;
  taken = λ y p is e.
      let a = bind-ok (f.read p) (λ x. Ok (to x)) y e in
      let t = law.taken a.0 p is a.1 in
      let i = inverse.there a.0 t.0 in
      subst (λ (z : B). good z × (p.left ≡ f.spelling (from z))) (same-ok {A = B} _ _ a.2) (i.0, t.1 ∙ ap f.spelling (sym i.1));
  fault = λ e p is h.
      elim (bind-err (f.read p) (λ x. Ok (to x)) e h) [
        | inl refused ↦ told-fewer p e (λ bytes input t. record { value = from t.value; good = (inverse.back t.value t.good).0; spelled = t.spelled }) (law.fault e p is refused)
        | inr a ↦ absurd (not-err {A = B} _ e a.2)
      ];
}

pub mapped_front-law : {A B : Type 0} (f : Front A) (to : A → B) (from : B → A) (good : B → Type 0) → IsFront f → IsBijection f.good to from good → IsFront (mapped_front f to from good)
mapped_front-law {A = A} {B = B} f to from good law inverse = record {
  again = λ y p q ok is b.
      let back = inverse.back y ok in
      let read : f.read p ≡ Ok (from y, q) = law.again (from y) p q back.0 is b in
      rw (read, back.1) refl;
  taken = λ y p q is e.
      let a = bind-ok (f.read p) (λ x. Ok (to x.0, x.1)) (y, q) e in
      let t = law.taken a.0.0 p a.0.1 is a.1 in
      let i = inverse.there a.0.0 t.0 in
      let same : (to a.0.0, a.0.1) ≡ (y, q) = same-ok {A = B × Place} _ _ a.2 in
      subst (λ (z : B × Place). good z.0 × IsBehind (f.spelling (from z.0)) p z.1) same (i.0, subst (λ (v : A). IsBehind (f.spelling v) p a.0.1) (sym i.1) t.1);
  fault = λ e p is h.
      elim (bind-err (f.read p) (λ x. Ok (to x.0, x.1)) e h) [
        | inl refused ↦ told-fewer p e (λ bytes input t. record { value = from t.value; rest = t.rest; good = (inverse.back t.value t.good).0; spelled = t.spelled }) (law.fault e p is refused)
        | inr a ↦ absurd (not-err {A = B × Place} _ e a.2)
      ];
  some = λ y ok. law.some (from y) (inverse.back y ok).0;
}

-- ---- values that pass a test

passed : {A : Type 0} (b : Bool) (x y : A) (d : ShapeFault) → cond b (Ok x) (Err d) ≡ Ok y → (b ≡ true) × (x ≡ y)
passed true x y d e = (refl, same-ok x y e)
passed false x y d e = absurd cc

failed : {A : Type 0} (b : Bool) (x : A) (d e : ShapeFault) → cond b (Ok x) (Err d) ≡ Err e → d ≡ e
failed true x d e h = absurd cc
failed {A = A} false x d e h = same-err {A = A} d e h

pub tested-law : {A : Type 0} (f : Whole A) (test : A → Bool) → IsWhole f → IsWhole (tested f test)
tested-law {A = A} f test law = record {
  again = λ x p ok is e.
      let read : f.read p ≡ Ok x = law.again x p ok.0 is e in
      rw (read, ok.1) refl;
  taken = λ x p is e.
      let a = bind-ok (f.read p) (λ x. cond (test x) (Ok x) (Err (Shape p.last))) x e in
      let t = law.taken a.0 p is a.1 in
      let b = passed (test a.0) a.0 x (Shape p.last) a.2 in
      subst (λ (y : A). (f.good y × (test y ≡ true)) × (p.left ≡ f.spelling y)) b.1 ((t.0, b.0), t.1);
  fault = λ e p is h.
      elim (bind-err (f.read p) (λ x. cond (test x) (Ok x) (Err (Shape p.last))) e h) [
        | inl refused ↦ told-fewer p e (λ bytes input t. record { value = t.value; good = t.good.0; spelled = t.spelled }) (law.fault e p is refused)
        | inr a ↦ subst (IsTold (Takes (tested f test)) p) (failed (test a.0) a.0 (Shape p.last) e a.2) (inl refl)
      ];
}

pub tested_front-law : {A : Type 0} (f : Front A) (test : A → Bool) → IsFront f → IsFront (tested_front f test)
tested_front-law {A = A} f test law = record {
  again = λ x p q ok is b.
      let read : f.read p ≡ Ok (x, q) = law.again x p q ok.0 is b in
      rw (read, ok.1) refl;
  taken = λ x p q is e.
      let a = bind-ok (f.read p) (λ x. cond (test x.0) (Ok x) (Err (Shape p.last))) (x, q) e in
      let t = law.taken a.0.0 p a.0.1 is a.1 in
      let b = passed {A = A × Place} (test a.0.0) a.0 (x, q) (Shape p.last) a.2 in
      subst (λ (y : A × Place). (f.good y.0 × (test y.0 ≡ true)) × IsBehind (f.spelling y.0) p y.1) b.1 ((t.0, b.0), t.1);
  fault = λ e p is h.
      elim (bind-err (f.read p) (λ x. cond (test x.0) (Ok x) (Err (Shape p.last))) e h) [
        | inl refused ↦ told-fewer p e (λ bytes input t. record { value = t.value; rest = t.rest; good = t.good.0; spelled = t.spelled }) (law.fault e p is refused)
        | inr a ↦ subst (IsTold (Begins (tested_front f test)) p) (failed {A = A × Place} (test a.0.0) a.0 (Shape p.last) e a.2) (inl refl)
      ];
  some = λ x ok. law.some x ok.0;
}
