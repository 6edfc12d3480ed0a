-- The laws of bytes and of single fields.
use Rattle.std.proofs.Common.{◌≡◌, ℕ, ◌+◌, ◌^◌, ◌<◌, ◌≤◌, Bool, true, false, cond, leb, append_assoc, List, [], ◌∷◌, ◌++◌, length, take, drop, Option, Some, None, refl, sym, ap, subst, ◌∙◌, arith, inl, inr}
use Rattle.std.specs.Int.{w32, w64, from_be_bytes}
use Rattle.std.proofs.lemmas.List.{length-append, length-take, take-append-drop, get_or_append_left, get_or-append-add, get_or_past}
use Rattle.std.proofs.lemmas.Bool.{cases_lt, le-leb, leb-true}
use Rattle.std.proofs.lemmas.Nat.{be_bytes_4, be_bytes_8, from_be_bytes-to_be_bytes_4, from_be_bytes-to_be_bytes_8}
use Rattle.std.proofs.Math.Seq.{take-append_seam, drop-append_seam}
use Rattle.record_forms.specs.Form.{AreBytes, IsForm}
use Rattle.record_forms.specs.Forms.{◌>>=◌, front, bytes_32, bytes_64, of_bytes_32, of_bytes_64, plain, number_32, number_64, number_8, first_byte, sized}

-- ---- bytes

pub bytes-front : (a b : List ℕ) → AreBytes (a ++ b) → AreBytes a
bytes-front a b are i =
    elim (cases_lt i (length a)) [
      | inl lt ↦ subst (λ (n : ℕ). n < 256) (get_or_append_left a b 0 i lt) (are i)
      | inr le ↦ rw (get_or_past a i 0 le) (omega arith)
    ]

pub bytes-rest : (a b : List ℕ) → AreBytes (a ++ b) → AreBytes b
bytes-rest a b are i = subst (λ (n : ℕ). n < 256) (get_or-append-add a b i 0) (are (length a + i))

-- ---- what a reading gives

abbrev pub some-of : {A : Type 0} → A → Option A
some-of x = Some x

pub same-some : {A : Type 0} (x y : A) → some-of x ≡ some-of y → x ≡ y
same-some x y e = cc

pub bind-some : {A B : Type 0} (r : Option A) (f : A → Option B) (y : B) → (r >>= f) ≡ some-of y
    → (x : A) × (r ≡ some-of x) × (f x ≡ some-of y)
bind-some (Some x) f y e = (x, refl, e)
bind-some None f y e = absurd cc

pub passed : {A : Type 0} (b : Bool) (y z : A) → cond b (some-of y) None ≡ some-of z → (b ≡ true) × (y ≡ z)
passed true y z e = (refl, same-some y z e)
passed false y z e = absurd cc

-- ---- so many bytes

pub front-again : (size : ℕ) (x rest : List ℕ) → length x ≡ size → front size (x ++ rest) ≡ Some (x, rest)
unfolding front
front-again size x rest is =
    subst (λ (n : ℕ). cond (leb n (length (x ++ rest))) (some-of {A = List ℕ × List ℕ} (take n (x ++ rest), drop n (x ++ rest))) None ≡ Some (x, rest)) is
    (rw (le-leb (length x) (length (x ++ rest)) (omega (arith, length-append x rest)), take-append_seam x rest, drop-append_seam x rest) refl)

pub front-taken : (size : ℕ) (bytes x rest : List ℕ) → front size bytes ≡ Some (x, rest) → (length x ≡ size) × (bytes ≡ x ++ rest)
unfolding front
front-taken size bytes x rest e =
    let p = passed (leb size (length bytes)) (take size bytes, drop size bytes) (x, rest) e in
    let long : size ≤ length bytes = leb-true size (length bytes) p.0 in
    let first : take size bytes ≡ x = ap (λ (y : List ℕ × List ℕ). y.0) p.1 in
    let last : drop size bytes ≡ rest = ap (λ (y : List ℕ × List ℕ). y.1) p.1 in
    (ap length (sym first) ∙ omega (arith, length-take size bytes), sym (take-append-drop size bytes) ∙ (λ i. first i ++ last i))

pub plain-law : (size : ℕ) → IsForm (plain size)
plain-law size = record {
  again = λ x rest good short. front-again size x rest good;
  taken = λ x bytes rest are e. front-taken size bytes x rest e;
}

-- ---- numbers

pub length-bytes_32 : (n : ℕ) → length (bytes_32 n) ≡ 4
unfolding bytes_32
length-bytes_32 n = refl

pub length-bytes_64 : (n : ℕ) → length (bytes_64 n) ≡ 8
unfolding bytes_64
length-bytes_64 n = refl

written_32 : (n : ℕ) → n < 2 ^ 32 → of_bytes_32 (bytes_32 n) ≡ n
unfolding bytes_32 of_bytes_32
written_32 n fits = from_be_bytes-to_be_bytes_4 n fits

written_64 : (n : ℕ) → n < 2 ^ 64 → of_bytes_64 (bytes_64 n) ≡ n
unfolding bytes_64 of_bytes_64
written_64 n fits = from_be_bytes-to_be_bytes_8 n fits

read_32 : (bytes : List ℕ) → length bytes ≡ 4 → AreBytes bytes → (of_bytes_32 bytes < 2 ^ 32) × (bytes_32 (of_bytes_32 bytes) ≡ bytes)
unfolding bytes_32 of_bytes_32
read_32 bytes size are = (omega (arith, are 0, are 1, are 2, are 3), be_bytes_4 bytes (from_be_bytes w32 bytes) size are refl)

read_64 : (bytes : List ℕ) → length bytes ≡ 8 → AreBytes bytes → (of_bytes_64 bytes < 2 ^ 64) × (bytes_64 (of_bytes_64 bytes) ≡ bytes)
unfolding bytes_64 of_bytes_64
read_64 bytes size are = (omega (arith, are 0, are 1, are 2, are 3, are 4, are 5, are 6, are 7), be_bytes_8 bytes (from_be_bytes w64 bytes) size are refl)

pub number_32-law : IsForm number_32
number_32-law = record {
  again = λ n rest good short. rw (front-again 4 (bytes_32 n) rest (length-bytes_32 n), written_32 n good) refl;
  taken = λ n bytes rest are e.
      let a = bind-some (front 4 bytes) (λ x. Some (of_bytes_32 x.0, x.1)) (n, rest) e in
      let t = front-taken 4 bytes a.0.0 a.0.1 a.1 in
      let r = read_32 a.0.0 t.0 (bytes-front a.0.0 a.0.1 (subst AreBytes t.1 are)) in
      let same = same-some (of_bytes_32 a.0.0, a.0.1) (n, rest) a.2 in
      subst (λ (y : ℕ × List ℕ). (y.0 < 2 ^ 32) × (bytes ≡ bytes_32 y.0 ++ y.1)) same
      (r.0, t.1 ∙ ap (λ (l : List ℕ). l ++ a.0.1) (sym r.1));
}

pub number_64-law : IsForm number_64
number_64-law = record {
  again = λ n rest good short. rw (front-again 8 (bytes_64 n) rest (length-bytes_64 n), written_64 n good) refl;
  taken = λ n bytes rest are e.
      let a = bind-some (front 8 bytes) (λ x. Some (of_bytes_64 x.0, x.1)) (n, rest) e in
      let t = front-taken 8 bytes a.0.0 a.0.1 a.1 in
      let r = read_64 a.0.0 t.0 (bytes-front a.0.0 a.0.1 (subst AreBytes t.1 are)) in
      let same = same-some (of_bytes_64 a.0.0, a.0.1) (n, rest) a.2 in
      subst (λ (y : ℕ × List ℕ). (y.0 < 2 ^ 64) × (bytes ≡ bytes_64 y.0 ++ y.1)) same
      (r.0, t.1 ∙ ap (λ (l : List ℕ). l ++ a.0.1) (sym r.1));
}

first_taken : (n : ℕ) (bytes rest : List ℕ) → first_byte bytes ≡ Some (n, rest) → bytes ≡ n ∷ rest
first_taken n [] rest e = absurd cc
first_taken n (m ∷ bytes) rest e =
    let same = same-some (m, bytes) (n, rest) e in
    λ i. (same i).0 ∷ (same i).1

pub number_8-law : IsForm number_8
number_8-law = record {
  again = λ n rest good short. refl;
  taken = λ n bytes rest are e. (tt, first_taken n bytes rest e);
}

-- ---- a length and so many bytes

pub sized-law : IsForm sized
sized-law = record {
  again = λ x rest good short.
      let few : length x < 2 ^ 32 = omega (arith, length-append (bytes_32 (length x)) x, length-bytes_32 (length x)) in
      let first : number_32.read (bytes_32 (length x) ++ (x ++ rest)) ≡ Some (length x, x ++ rest) = number_32-law.again (length x) (x ++ rest) few (omega (arith, length-bytes_32 (length x))) in
      rw (append_assoc (bytes_32 (length x)) x rest, first, front-again (length x) x rest refl) refl;
  taken = λ x bytes rest are e.
      let a = bind-some (number_32.read bytes) (λ n. front n.0 n.1) (x, rest) e in
      let t = number_32-law.taken a.0.0 bytes a.0.1 are a.1 in
      let u = front-taken a.0.0 a.0.1 x rest a.2 in
      (tt, t.1 ∙ (λ i. bytes_32 (sym u.0 i) ++ u.1 i) ∙ sym (append_assoc (bytes_32 (length x)) x rest));
}
