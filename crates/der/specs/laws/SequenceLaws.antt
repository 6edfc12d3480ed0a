-- The laws of sequences.
use Rattle.std.proofs.Common.{◌≡◌, ℕ, List, [], ◌++◌, Ok, refl, sym, ap, subst, ◌∙◌, inl, inr}
use Rattle.std.proofs.lemmas.List.{append-nil}
use Rattle.der.specs.Part.{Place, IsInput, ◌>>=◌, end_at}
use Rattle.der.specs.Form.{Whole, Front, Takes, IsWhole, IsBehind, IsFront}
use Rattle.der.specs.Forms.{ends, after, both, only}
use Rattle.der.specs.laws.PlaceLaws.{behind-place, next, is-next}
use Rattle.der.specs.laws.FormLaws.{same-ok, not-err, bind-ok, bind-err, told-fewer, told-behind, one-front-value, ends-law}

pub after-law : {A B : Type 0} (f : Front A) (g : A → Whole B) → IsFront f → ((x : A) → f.good x → IsWhole (g x)) → IsWhole (after f g)
after-law {A = A} {B = B} f g law laws = record {
  again = λ x p good is e.
      let q : Place = next p (f.spelling x.0) ((g x.0).spelling x.1) in
      let b : IsBehind (f.spelling x.0) p q = is-next p (f.spelling x.0) _ e in
      let first : f.read p ≡ Ok (x.0, q) = law.again x.0 p q good.0 is b in
      let second : (g x.0).read q ≡ Ok x.1 = (laws x.0 good.0).again x.1 q good.1 (behind-place (f.spelling x.0) p q is b) refl in
      rw (first, second) refl;
  taken = λ x p is e.
      let a = bind-ok (f.read p) (λ x. (g x.0).read x.1 >>= (λ y. Ok (x.0, y))) x e in
      let b = bind-ok ((g a.0.0).read a.0.1) (λ y. Ok (a.0.0, y)) x a.2 in
      let t = law.taken a.0.0 p a.0.1 is a.1 in
      let u = (laws a.0.0 t.0).taken b.0 a.0.1 (behind-place (f.spelling a.0.0) p a.0.1 is t.1) b.1 in
      let same : (a.0.0, b.0) ≡ x = same-ok {A = A × B} _ _ b.2 in
      subst (λ (y : A × B). (f.good y.0 × (g y.0).good y.1) × (p.left ≡ f.spelling y.0 ++ (g y.0).spelling y.1)) same ((t.0, u.0), t.1.left ∙ ap (λ (l : List ℕ). f.spelling a.0.0 ++ l) u.1);
  fault = λ e p is h.
      elim (bind-err (f.read p) (λ x. (g x.0).read x.1 >>= (λ y. Ok (x.0, y))) e h) [
        | inl refused ↦ told-fewer p e (λ bytes input t. record { value = t.value.0; rest = (g t.value.0).spelling t.value.1; good = t.good.0; spelled = t.spelled }) (law.fault e p is refused)
        | inr a ↦ elim (bind-err ((g a.0.0).read a.0.1) (λ y. Ok (a.0.0, y)) e a.2) [
          | inl refused ↦
              let t = law.taken a.0.0 p a.0.1 is a.1 in
              told-behind (Takes (after f g)) (f.spelling a.0.0) p a.0.1 e t.1
              (λ other input w. behind-value a.0.0 t.0 other input w)
              ((laws a.0.0 t.0).fault e a.0.1 (behind-place (f.spelling a.0.0) p a.0.1 is t.1) refused)
          | inr b ↦ absurd (not-err {A = A × B} _ e b.2)
        ]
      ];
}
  where
    behind-value : (x : A) → f.good x → (other : List ℕ) → IsInput (f.spelling x ++ other) → Takes (after f g) (f.spelling x ++ other) → Takes (g x) other
    behind-value x good other input w =
        let one = one-front-value f law x w.value.0 other ((g w.value.0).spelling w.value.1) good w.good.0 input w.spelled in
        let held : Takes (g w.value.0) other = record { value = w.value.1; good = w.good.1; spelled = one.1 } in
        subst (λ (y : A). Takes (g y) other) (sym one.0) held

pub both-law : {A B : Type 0} (f : Front A) (g : Whole B) → IsFront f → IsWhole g → IsWhole (both f g)
both-law f g first second = after-law f (λ x. g) first (λ x good. second)

pub only-law : {A : Type 0} (f : Front A) → IsFront f → IsWhole (only f)
only-law {A = A} f law = record {
  again = λ x p good is e.
      let q : Place = next p (f.spelling x) [] in
      let b : IsBehind (f.spelling x) p q = is-next p (f.spelling x) [] (e ∙ sym (append-nil (f.spelling x))) in
      let first : f.read p ≡ Ok (x, q) = law.again x p q good is b in
      let second : end_at q ≡ Ok tt = ends-law.again tt q tt (behind-place (f.spelling x) p q is b) refl in
      rw (first, second) refl;
  taken = λ x p is e.
      let a = bind-ok (f.read p) (λ x. end_at x.1 >>= (λ y. Ok x.0)) x e in
      let b = bind-ok (end_at a.0.1) (λ y. Ok a.0.0) x a.2 in
      let t = law.taken a.0.0 p a.0.1 is a.1 in
      let u = ends-law.taken b.0 a.0.1 (behind-place (f.spelling a.0.0) p a.0.1 is t.1) b.1 in
      subst (λ (y : A). f.good y × (p.left ≡ f.spelling y)) (same-ok {A = A} _ _ b.2) (t.0, t.1.left ∙ ap (λ (l : List ℕ). f.spelling a.0.0 ++ l) u.1 ∙ append-nil (f.spelling a.0.0));
  fault = λ e p is h.
      elim (bind-err (f.read p) (λ x. end_at x.1 >>= (λ y. Ok x.0)) e h) [
        | inl refused ↦ told-fewer p e (λ bytes input t. record { value = t.value; rest = []; good = t.good; spelled = t.spelled ∙ sym (append-nil (f.spelling t.value)) }) (law.fault e p is refused)
        | inr a ↦ elim (bind-err (end_at a.0.1) (λ y. Ok a.0.0) e a.2) [
          | inl refused ↦
              let t = law.taken a.0.0 p a.0.1 is a.1 in
              told-behind (Takes (only f)) (f.spelling a.0.0) p a.0.1 e t.1
              (λ other input w. nothing-behind a.0.0 t.0 other input w)
              (ends-law.fault e a.0.1 (behind-place (f.spelling a.0.0) p a.0.1 is t.1) refused)
          | inr b ↦ absurd (not-err {A = A} _ e b.2)
        ]
      ];
}
  where
    nothing-behind : (x : A) → f.good x → (other : List ℕ) → IsInput (f.spelling x ++ other) → Takes (only f) (f.spelling x ++ other) → Takes ends other
    nothing-behind x good other input w =
        let one = one-front-value f law x w.value other [] good w.good input (w.spelled ∙ sym (append-nil (f.spelling w.value))) in
        record { value = tt; good = tt; spelled = one.1 }
