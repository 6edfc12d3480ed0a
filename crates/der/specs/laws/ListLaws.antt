-- The law of lists.
use Rattle.std.proofs.Common.{◌<◌, ◌≡◌, ℕ, zero, suc, ◌+◌, ◌≤◌, true, false, List, [], ◌∷◌, ◌++◌, length, Result, Ok, Err, refl, sym, ap, subst, ◌∙◌, arith, ◌⊎◌, inl, inr, map, Bool, cond}
use Rattle.std.specs.List.{flat_map}
use Rattle.std.proofs.lemmas.List.{length-append}
use Rattle.der.specs.declared.shape_fault.ShapeFault.{ShapeFault}
use Rattle.der.specs.declared.shape_fault.ShapeFault.TheVariants.{Shape}
use Rattle.der.specs.Part.{Place, IsInput, IsPlace, ◌>>=◌, is_empty}
use Rattle.der.specs.Form.{Front, Takes, Begins, IsTold, IsWhole, IsBehind, IsFront}
use Rattle.der.specs.Forms.{AreAll, many_at, many, placed}
use Rattle.der.specs.laws.PlaceLaws.{behind-place, next, is-next}
use Rattle.der.specs.laws.FormLaws.{same-ok, not-both, not-err, not-nil, bind-ok, bind-err, told-behind, one-front-value}
use Rattle.der.specs.laws.FormLaws.{told-first}
use Rattle.der.specs.laws.ChoiceLaws.{not-empty}

pub none-left : (bytes : List ℕ) → length bytes ≤ 0 → bytes ≡ []
none-left [] few = refl
none-left (b ∷ bytes) few = absurd (omega arith)

none-or-some : (bytes : List ℕ) → ((bytes ≡ []) × (is_empty bytes ≡ true)) ⊎ ((1 ≤ length bytes) × (is_empty bytes ≡ false))
none-or-some [] = inl (refl, refl)
none-or-some (b ∷ bytes) = inr (omega arith, refl)

-- A spelling of some values has a byte at least.
pub some-bytes : {A : Type 0} (f : Front A) → IsFront f → (x : A) (xs : List A) → f.good x → 1 ≤ length (flat_map f.spelling (x ∷ xs))
some-bytes f law x xs good = omega (arith, law.some x good, length-append (f.spelling x) (flat_map f.spelling xs))

pub many-again : {A : Type 0} (f : Front A) → IsFront f → (n : ℕ) (xs : List A) (p : Place) → AreAll f.good xs → IsPlace p → p.left ≡ flat_map f.spelling xs → length p.left ≤ n → many_at f n p ≡ Ok xs
unfolding many_at
many-again f law zero [] p good is e few = rw e refl
many-again f law (suc n) [] p good is e few = rw e refl
many-again f law zero (x ∷ xs) p good is e few = absurd (omega (arith, some-bytes f law x xs good.0, ap length e))
many-again f law (suc n) (x ∷ xs) p good is e few =
    let q : Place = next p (f.spelling x) (flat_map f.spelling xs) in
    let b : IsBehind (f.spelling x) p q = is-next p (f.spelling x) (flat_map f.spelling xs) e in
    let first : f.read p ≡ Ok (x, q) = law.again x p q good.0 is b in
    let fewer : length q.left ≤ n = omega (arith, law.some x good.0, ap length e, length-append (f.spelling x) (flat_map f.spelling xs)) in
    let rest : many_at f n q ≡ Ok xs = many-again f law n xs q good.1 (behind-place (f.spelling x) p q is b) refl fewer in
    let long : 1 ≤ length p.left = omega (arith, some-bytes f law x xs good.0, ap length e) in
    rw (not-empty p.left long, first, rest) refl

-- One value and the others, or none.
many-step : {A : Type 0} (f : Front A) (n : ℕ) (p : Place) → is_empty p.left ≡ false → many_at f (suc n) p ≡ (f.read p >>= (λ x. many_at f n x.1 >>= (λ xs. Ok (x.0 ∷ xs))))
unfolding many_at
many-step f n p test = rw test refl

pub many-none : {A : Type 0} (f : Front A) (n : ℕ) (p : Place) → is_empty p.left ≡ true → many_at f n p ≡ Ok []
unfolding many_at
many-none f zero p test = rw test refl
many-none f (suc n) p test = rw test refl

many-stuck : {A : Type 0} (f : Front A) (p : Place) → is_empty p.left ≡ false → many_at f zero p ≡ Err (Shape p.last)
unfolding many_at
many-stuck f p test = rw test refl

pub many-taken : {A : Type 0} (f : Front A) → IsFront f → (n : ℕ) (xs : List A) (p : Place) → IsPlace p → many_at f n p ≡ Ok xs → AreAll f.good xs × (p.left ≡ flat_map f.spelling xs)
many-taken {A = A} f law zero xs p is e =
    elim (none-or-some p.left) [
      | inl nothing ↦ subst (λ (l : List A). AreAll f.good l × (p.left ≡ flat_map f.spelling l)) (same-ok {A = List A} [] xs (sym (many-none f zero p nothing.1) ∙ e)) (tt, nothing.0)
      | inr long ↦ absurd (not-both {A = List A} _ xs (Shape p.last) e (many-stuck f p long.1))
    ]
many-taken {A = A} f law (suc n) xs p is e =
    elim (none-or-some p.left) [
      | inl nothing ↦ subst (λ (l : List A). AreAll f.good l × (p.left ≡ flat_map f.spelling l)) (same-ok {A = List A} [] xs (sym (many-none f (suc n) p nothing.1) ∙ e)) (tt, nothing.0)
      | inr long ↦
          let a = bind-ok (f.read p) (λ x. many_at f n x.1 >>= (λ xs. Ok (x.0 ∷ xs))) xs (sym (many-step f n p long.1) ∙ e) in
          let t = law.taken a.0.0 p a.0.1 is a.1 in
          let b = bind-ok (many_at f n a.0.1) (λ xs. Ok (a.0.0 ∷ xs)) xs a.2 in
          let u = many-taken f law n b.0 a.0.1 (behind-place (f.spelling a.0.0) p a.0.1 is t.1) b.1 in
          subst (λ (l : List A). AreAll f.good l × (p.left ≡ flat_map f.spelling l)) (same-ok {A = List A} (a.0.0 ∷ b.0) xs b.2) ((t.0, u.0), t.1.left ∙ ap (λ (l : List ℕ). f.spelling a.0.0 ++ l) u.1)
    ]

first-held : {A : Type 0} (f : Front A) (bytes : List ℕ) (b : ℕ) (t : List ℕ) → bytes ≡ b ∷ t → (xs : List A) → AreAll f.good xs → bytes ≡ flat_map f.spelling xs → Begins f bytes
first-held f bytes b t same [] good e = absurd (not-nil b t (sym same ∙ e))
first-held f bytes b t same (x ∷ xs) good e = record { value = x; rest = flat_map f.spelling xs; good = good.0; spelled = e }

rest-held : {A : Type 0} (f : Front A) → IsFront f → (a : A) → f.good a → (other : List ℕ) → IsInput (f.spelling a ++ other) → (xs : List A) → AreAll f.good xs → f.spelling a ++ other ≡ flat_map f.spelling xs → Takes (many f) other
rest-held f law a ok other input [] good e = absurd (omega (arith, law.some a ok, ap length e, length-append (f.spelling a) other))
rest-held f law a ok other input (x ∷ xs) good e =
    let one = one-front-value f law a x other (flat_map f.spelling xs) ok good.0 input e in
    record { value = xs; good = good.1; spelled = one.1 }

pub many-fault : {A : Type 0} (f : Front A) → IsFront f → (n : ℕ) (e : ShapeFault) (p : Place) → IsPlace p → length p.left ≤ n → many_at f n p ≡ Err e → IsTold (Takes (many f)) p e
many-fault {A = A} f law zero e p is few h =
    elim (none-or-some p.left) [
      | inl nothing ↦ absurd (not-both {A = List A} _ [] e (many-none f zero p nothing.1) h)
      | inr long ↦ absurd (omega arith)
    ]
many-fault {A = A} f law (suc n) e p is few h =
    elim (none-or-some p.left) [
      | inl nothing ↦ absurd (not-both {A = List A} _ [] e (many-none f (suc n) p nothing.1) h)
      | inr long ↦ elim (bind-err (f.read p) (λ x. many_at f n x.1 >>= (λ xs. Ok (x.0 ∷ xs))) e (sym (many-step f n p long.1) ∙ h)) [
        | inl refused ↦ told-first (Takes (many f)) p e (λ bytes input b s t own same w. first-held f bytes b t same w.value w.good w.spelled) (law.fault e p is refused)
        | inr a ↦ elim (bind-err (many_at f n a.0.1) (λ xs. Ok (a.0.0 ∷ xs)) e a.2) [
          | inl refused ↦
              let t = law.taken a.0.0 p a.0.1 is a.1 in
              let fewer : length a.0.1.left ≤ n = omega (arith, law.some a.0.0 t.0, ap length t.1.left, length-append (f.spelling a.0.0) a.0.1.left) in
              told-behind (Takes (many f)) (f.spelling a.0.0) p a.0.1 e t.1
              (λ other input w. rest-held f law a.0.0 t.0 other input w.value w.good w.spelled)
              (many-fault f law n e a.0.1 (behind-place (f.spelling a.0.0) p a.0.1 is t.1) fewer refused)
          | inr b ↦ absurd (not-err {A = List A} (a.0.0 ∷ b.0) e b.2)
        ]
      ]
    ]

pub many-law : {A : Type 0} (f : Front A) → IsFront f → IsWhole (many f)
many-law f law = record {
  again = λ xs p good is e. many-again f law (length p.left) xs p good is e (omega arith);
  taken = λ xs p is e. many-taken f law (length p.left) xs p is e;
  fault = λ e p is h. many-fault f law (length p.left) e p is (omega arith) h;
}

-- A reading in front moves on.
pub record IsMoving {A : Type 0} (f : Front A) : Type 0 where
  pub place : (x : A) (p q : Place) → IsPlace p → f.read p ≡ Ok (x, q) → IsPlace q
  pub fewer : (x : A) (p q : Place) → IsPlace p → f.read p ≡ Ok (x, q) → length q.left < length p.left

pub front-moves : {A : Type 0} (f : Front A) → IsFront f → IsMoving f
front-moves f law = record {
  place = λ x p q is e. let t = law.taken x p q is e in behind-place (f.spelling x) p q is t.1;
  fewer = λ x p q is e.
      let t = law.taken x p q is e in
      omega (arith, law.some x t.0, ap length t.1.left, length-append (f.spelling x) q.left);
}

-- So many values at most are as many as there are, once there are enough.
pub many-enough : {A : Type 0} (f : Front A) → IsMoving f → (m n : ℕ) (p : Place) → IsPlace p → length p.left ≤ m → length p.left ≤ n → many_at f m p ≡ many_at f n p
many-enough f law zero n p is enough also =
    let test : is_empty p.left ≡ true = ap is_empty (none-left p.left enough) in
    many-none f zero p test ∙ sym (many-none f n p test)
many-enough f law (suc m) zero p is enough also =
    let test : is_empty p.left ≡ true = ap is_empty (none-left p.left also) in
    many-none f (suc m) p test ∙ sym (many-none f zero p test)
many-enough {A = A} f law (suc m) (suc n) p is enough also =
    elim (none-or-some p.left) [
      | inl nothing ↦ many-none f (suc m) p nothing.1 ∙ sym (many-none f (suc n) p nothing.1)
      | inr long ↦ many-step f m p long.1 ∙ alike (λ q place few less. many-enough f law m n q place few less) (f.read p) refl ∙ sym (many-step f n p long.1)
    ]
  where
    alike : ((q : Place) → IsPlace q → length q.left ≤ m → length q.left ≤ n → many_at f m q ≡ many_at f n q) → (r : Result (A × Place) ShapeFault) → f.read p ≡ r → (r >>= (λ x. many_at f m x.1 >>= (λ xs. Ok (x.0 ∷ xs)))) ≡ (r >>= (λ x. many_at f n x.1 >>= (λ xs. Ok (x.0 ∷ xs))))
    alike shorter (Ok x) e =
        let less = law.fewer x.0 p x.1 is e in
        let same = shorter x.1 (law.place x.0 p x.1 is e) (omega arith) (omega arith) in
        ap (λ (r : Result (List A) ShapeFault). r >>= (λ xs. Ok (x.0 ∷ xs))) same
    alike shorter (Err d) e = refl

-- One value and the others.
pub many-read : {A : Type 0} (f : Front A) → IsMoving f → (p : Place) → IsPlace p → is_empty p.left ≡ false → (many f).read p ≡ (f.read p >>= (λ x. (many f).read x.1 >>= (λ xs. Ok (x.0 ∷ xs))))
many-read {A = A} f law p is test = go (length p.left) refl
  where
    not-none : (bytes : List ℕ) → bytes ≡ [] → is_empty bytes ≡ false → ⊥
    not-none [] e h = absurd cc
    not-none (b ∷ bytes) e h = not-nil b bytes e

    alike : (n : ℕ) → length p.left ≡ suc n → (r : Result (A × Place) ShapeFault) → f.read p ≡ r → (r >>= (λ x. many_at f n x.1 >>= (λ xs. Ok (x.0 ∷ xs)))) ≡ (r >>= (λ x. (many f).read x.1 >>= (λ xs. Ok (x.0 ∷ xs))))
    alike n count (Ok x) e =
        let less = law.fewer x.0 p x.1 is e in
        let same = many-enough f law n (length x.1.left) x.1 (law.place x.0 p x.1 is e) (omega arith) (omega arith) in
        ap (λ (r : Result (List A) ShapeFault). r >>= (λ xs. Ok (x.0 ∷ xs))) same
    alike n count (Err d) e = refl

    go : (n : ℕ) → length p.left ≡ n → many_at f (length p.left) p ≡ (f.read p >>= (λ x. (many f).read x.1 >>= (λ xs. Ok (x.0 ∷ xs))))
    go zero count = absurd (not-none p.left (none-left p.left (omega arith)) test)
    go (suc n) count = ap (λ (k : ℕ). many_at f k p) count ∙ many-step f n p test ∙ alike n count (f.read p) refl

-- ---- values with their places

pub placed-moves : {A : Type 0} (f : Front A) → IsMoving f → IsMoving (placed f)
placed-moves {A = A} f law = record {
  place = λ x p q is e. let t = split x p q e in law.place x.1 p q is t;
  fewer = λ x p q is e. let t = split x p q e in law.fewer x.1 p q is t;
}
  where
    split : (x : ℕ × A) (p q : Place) → (placed f).read p ≡ Ok (x, q) → f.read p ≡ Ok (x.1, q)
    split x p q e =
        let a = bind-ok (f.read p) (λ x. Ok ((p.at, x.0), x.1)) (x, q) e in
        let same : ((p.at, a.0.0), a.0.1) ≡ (x, q) = same-ok {A = (ℕ × A) × Place} _ _ a.2 in
        a.1 ∙ ap (λ (y : (ℕ × A) × Place). Ok (y.0.1, y.1)) same

abbrev done : {A : Type 0} → A → Result A ShapeFault
done x = Ok x

-- The values without their places.
abbrev pub plain : {A : Type 0} → Result (List (ℕ × A)) ShapeFault → Result (List A) ShapeFault
plain (Ok ys) = Ok (map (λ y. y.1) ys)
plain (Err e) = Err e

-- They are those of the format.
pub placed-many : {A : Type 0} (f : Front A) (n : ℕ) (p : Place) → many_at f n p ≡ plain (many_at (placed f) n p)
unfolding many_at
placed-many {A = A} f zero p = nothing (is_empty p.left) (Shape p.last)
  where
    nothing : (b : Bool) (e : ShapeFault) → cond b (done {A = List A} []) (Err e) ≡ plain (cond b (done {A = List (ℕ × A)} []) (Err e))
    nothing true e = refl
    nothing false e = refl
placed-many {A = A} f (suc n) p = choose (is_empty p.left) (f.read p) (λ q. placed-many f n q)
  where
    each : (x : A) (r : Result (List (ℕ × A)) ShapeFault) → (plain r >>= (λ (xs : List A). done (x ∷ xs))) ≡ plain (r >>= (λ (xs : List (ℕ × A)). done ((p.at, x) ∷ xs)))
    each x (Ok ys) = refl
    each x (Err e) = refl

    choose : (b : Bool) (r : Result (A × Place) ShapeFault) → ((q : Place) → many_at f n q ≡ plain (many_at (placed f) n q)) → cond b (done {A = List A} []) (r >>= (λ (x : A × Place). many_at f n x.1 >>= (λ (xs : List A). done (x.0 ∷ xs)))) ≡ plain (cond b (done {A = List (ℕ × A)} []) ((r >>= (λ (x : A × Place). done {A = (ℕ × A) × Place} ((p.at, x.0), x.1))) >>= (λ (x : (ℕ × A) × Place). many_at (placed f) n x.1 >>= (λ (xs : List (ℕ × A)). done (x.0 ∷ xs)))))
    choose true r rest = refl
    choose false (Err e) rest = refl
    choose false (Ok x) rest = ap (λ (r : Result (List A) ShapeFault). r >>= (λ (xs : List A). done (x.0 ∷ xs))) (rest x.1) ∙ each x.0 (many_at (placed f) n x.1)
