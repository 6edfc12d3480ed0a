-- The laws of forms that are put together.
use Rattle.std.proofs.Common.{◌≡◌, ◌⊎◌, inl, inr, Bool, true, false, cond, eqb, ltb, ℕ, ◌^◌, ◌<◌, List, [], ◌∷◌, ◌++◌, length, Option, Some, None, refl, sym, ap, subst, ◌∙◌, append_assoc, arith}
use Rattle.std.proofs.lemmas.List.{length-append, append-nil}
use Rattle.record_forms.specs.Form.{AreBytes, Form, IsForm, Spells}
use Rattle.std.proofs.lemmas.Bool.{eq-eqb, eqb-true, lt-ltb, ltb-true}
use Rattle.record_forms.specs.Forms.{◌>>=◌, both, through, behind_byte, marked, good_either, spelled_either, read_either, as_one, as_other, either, at_end, read_whole}
use Rattle.record_forms.specs.laws.ByteLaws.{bytes-rest, bind-some, same-some, some-of, passed}

pub both-law : {A B : Type 0} (f : Form A) (g : Form B) → IsForm f → IsForm g → IsForm (both f g)
both-law {A = A} {B = B} f g first second = record {
  again = λ x rest good short.
      let size = length-append (f.spelling x.0) (g.spelling x.1) in
      let a = first.again x.0 (g.spelling x.1 ++ rest) good.0 (omega (arith, size)) in
      let b = second.again x.1 rest good.1 (omega (arith, size)) in
      rw (append_assoc (f.spelling x.0) (g.spelling x.1) rest, a, b) refl;
  taken = λ x bytes rest are e.
      let a = bind-some (f.read bytes) (λ x. g.read x.1 >>= (λ y. Some ((x.0, y.0), y.1))) (x, rest) e in
      let b = bind-some (g.read a.0.1) (λ y. Some ((a.0.0, y.0), y.1)) (x, rest) a.2 in
      let t = first.taken a.0.0 bytes a.0.1 are a.1 in
      let u = second.taken b.0.0 a.0.1 b.0.1 (bytes-rest (f.spelling a.0.0) a.0.1 (subst AreBytes t.1 are)) b.1 in
      let same : ((a.0.0, b.0.0), b.0.1) ≡ (x, rest) = same-some {A = (A × B) × List ℕ} _ _ b.2 in
      subst (λ (y : (A × B) × List ℕ). (f.good y.0.0 × g.good y.0.1) × (bytes ≡ (f.spelling y.0.0 ++ g.spelling y.0.1) ++ y.1)) {x = ((a.0.0, b.0.0), b.0.1)} {y = (x, rest)} same
      ((t.0, u.0), t.1 ∙ ap (λ (l : List ℕ). f.spelling a.0.0 ++ l) u.1 ∙ sym (append_assoc (f.spelling a.0.0) (g.spelling b.0.0) b.0.1));
}

pub through-law : {A B : Type 0} (f : Form A) (told : A → Option B) (back : B → A)
    → ((x : A) (y : B) → told x ≡ Some y → back y ≡ x) → IsForm f → IsForm (through f told back)
through-law {A = A} {B = B} f told back inverse law = record {
  again = λ y rest good short. rw (law.again (back y) rest good.0 short, good.1) refl;
  taken = λ y bytes rest are e.
      let a = bind-some (f.read bytes) (λ x. told x.0 >>= (λ y. Some (y, x.1))) (y, rest) e in
      let b = bind-some (told a.0.0) (λ z. Some (z, a.0.1)) (y, rest) a.2 in
      let t = law.taken a.0.0 bytes a.0.1 are a.1 in
      let same : (b.0, a.0.1) ≡ (y, rest) = same-some {A = B × List ℕ} _ _ b.2 in
      let was : back b.0 ≡ a.0.0 = inverse a.0.0 b.0 b.1 in
      subst (λ (z : B × List ℕ). (f.good (back z.0) × (told (back z.0) ≡ Some z.0)) × (bytes ≡ f.spelling (back z.0) ++ z.1)) same
      ((subst f.good (sym was) t.0, ap told was ∙ b.1), t.1 ∙ ap (λ (x : A). f.spelling x ++ a.0.1) (sym was));
}

behind-taken : (mark : ℕ) (bytes rest : List ℕ) → behind_byte mark bytes ≡ Some rest → bytes ≡ mark ∷ rest
behind-taken mark [] rest e = absurd cc
behind-taken mark (first ∷ bytes) rest e =
    let p = passed (eqb first mark) bytes rest e in
    λ i. eqb-true first mark p.0 i ∷ p.1 i

pub marked-law : {A : Type 0} (mark : ℕ) (f : Form A) → IsForm f → IsForm (marked mark f)
marked-law mark f law = record {
  again = λ x rest good short. rw (eq-eqb mark mark refl) (law.again x rest good (omega arith));
  taken = λ x bytes rest are e.
      let a = bind-some (behind_byte mark bytes) f.read (x, rest) e in
      let b = behind-taken mark bytes a.0 a.1 in
      let t = law.taken x a.0 rest (bytes-rest (mark ∷ []) a.0 (subst AreBytes b are)) a.2 in
      (t.0, b ∙ ap (λ (l : List ℕ). mark ∷ l) t.1);
}

-- What one of two is, whichever byte is in front.
chosen : {A : Type 0} (one two : Bool) (x y : Option A) (z : A) → cond one x (cond two y None) ≡ some-of z
    → ((one ≡ true) × (x ≡ some-of z)) ⊎ ((two ≡ true) × (y ≡ some-of z))
chosen true two x y z e = inl (refl, e)
chosen false true x y z e = inr (refl, e)
chosen false false x y z e = absurd cc

pub either-law : {A B : Type 0} (mark : ℕ) (f : Form A) (other : ℕ) (g : Form B) → eqb other mark ≡ false
    → IsForm f → IsForm g → IsForm (either mark f other g)
either-law {A = A} {B = B} mark f other g apart first second = record {
  again = again;
  taken = taken;
}
  where
    again : (x : A ⊎ B) (rest : List ℕ) → good_either f g x → length (spelled_either mark f other g x) < 2 ^ 32
        → read_either mark f other g (spelled_either mark f other g x ++ rest) ≡ Some (x, rest)
    again (inl x) rest good short = rw (eq-eqb mark mark refl, first.again x rest good (omega arith)) refl
    again (inr y) rest good short = rw (apart, eq-eqb other other refl, second.again y rest good (omega arith)) refl

    taken : (x : A ⊎ B) (bytes rest : List ℕ) → AreBytes bytes → read_either mark f other g bytes ≡ Some (x, rest)
        → good_either f g x × (bytes ≡ spelled_either mark f other g x ++ rest)
    taken x [] rest are e = absurd cc
    taken x (byte ∷ bytes) rest are e =
        elim (chosen (eqb byte mark) (eqb byte other) (as_one (f.read bytes)) (as_other (g.read bytes)) (x, rest) e) [
          | inl one ↦
              let a = bind-some (f.read bytes) (λ x. Some (inl x.0, x.1)) (x, rest) one.1 in
              let t = first.taken a.0.0 bytes a.0.1 (bytes-rest (byte ∷ []) bytes are) a.1 in
              let same = same-some {A = (A ⊎ B) × List ℕ} (inl a.0.0, a.0.1) (x, rest) a.2 in
              subst (λ (z : (A ⊎ B) × List ℕ). good_either f g z.0 × (byte ∷ bytes ≡ spelled_either mark f other g z.0 ++ z.1)) same
              (t.0, λ i. eqb-true byte mark one.0 i ∷ t.1 i)
          | inr two ↦
              let a = bind-some (g.read bytes) (λ y. Some (inr y.0, y.1)) (x, rest) two.1 in
              let t = second.taken a.0.0 bytes a.0.1 (bytes-rest (byte ∷ []) bytes are) a.1 in
              let same = same-some {A = (A ⊎ B) × List ℕ} (inr a.0.0, a.0.1) (x, rest) a.2 in
              subst (λ (z : (A ⊎ B) × List ℕ). good_either f g z.0 × (byte ∷ bytes ≡ spelled_either mark f other g z.0 ++ z.1)) same
              (t.0, λ i. eqb-true byte other two.0 i ∷ t.1 i)
        ]

-- ---- whole records

pub ended : {A : Type 0} (x : A × List ℕ) (y : A) → at_end x ≡ Some y → x ≡ (y, [])
ended (x, []) y e = let same = same-some x y e in λ i. (same i, [])
ended (x, b ∷ bytes) y e = absurd cc

-- What all of the bytes spell is read, and what is read is spelled so.
pub whole-again : {A : Type 0} (f : Form A) → IsForm f → (x : A) (bytes : List ℕ) → Spells f x bytes → read_whole f bytes ≡ Some x
whole-again f law x bytes is =
    let short : length (f.spelling x) < 2 ^ 32 = subst (λ (l : List ℕ). length l < 2 ^ 32) is.spelled is.short in
    let read : f.read bytes ≡ Some (x, []) = ap f.read (is.spelled ∙ sym (append-nil (f.spelling x))) ∙ law.again x [] is.good short in
    rw (lt-ltb (length bytes) (2 ^ 32) is.short, read) refl

pub whole-taken : {A : Type 0} (f : Form A) → IsForm f → (x : A) (bytes : List ℕ) → AreBytes bytes → read_whole f bytes ≡ Some x → Spells f x bytes
whole-taken {A = A} f law x bytes are e =
    let p = chosen-first (ltb (length bytes) (2 ^ 32)) (f.read bytes >>= at_end) x e in
    let a = bind-some (f.read bytes) at_end x p.1 in
    let read : f.read bytes ≡ Some (x, []) = a.1 ∙ ap (λ (y : A × List ℕ). some-of y) (ended a.0 x a.2) in
    let t = law.taken x bytes [] are read in
    record { good = t.0; short = ltb-true (length bytes) (2 ^ 32) p.0; spelled = t.1 ∙ append-nil (f.spelling x) }
  where
    chosen-first : (b : Bool) (r : Option A) (z : A) → cond b r None ≡ some-of z → (b ≡ true) × (r ≡ some-of z)
    chosen-first true r z e = (refl, e)
    chosen-first false r z e = absurd cc
