-- The law of lists.
use Rattle.std.proofs.Common.{◌≡◌, ℕ, zero, suc, ◌^◌, ◌<◌, ◌≤◌, List, [], ◌∷◌, ◌++◌, length, Some, refl, sym, ap, subst, ◌∙◌, append_assoc, arith}
use Rattle.std.specs.List.{flat_map, AllByRecursion}
use Rattle.std.proofs.lemmas.List.{length-append}
use Rattle.record_forms.specs.Form.{AreBytes, Form, IsForm}
use Rattle.record_forms.specs.Forms.{◌>>=◌, so_many, counted, bytes_32, number_32}
use Rattle.record_forms.specs.laws.ByteLaws.{bytes-rest, bind-some, same-some, length-bytes_32, number_32-law}

-- Each spelling has a byte at least.
abbrev pub HasBytes : {A : Type 0} → Form A → Type 0
HasBytes {A} f = (x : A) → 1 ≤ length (f.spelling x)

-- So there are no more values than bytes.
pub no-more : {A : Type 0} (f : Form A) → HasBytes f → (xs : List A) → length xs ≤ length (flat_map f.spelling xs)
no-more f has [] = omega arith
no-more f has (x ∷ xs) = omega (arith, has x, no-more f has xs, length-append (f.spelling x) (flat_map f.spelling xs))

so_many-again : {A : Type 0} (f : Form A) → IsForm f → (xs : List A) (rest : List ℕ) → AllByRecursion f.good xs
    → length (flat_map f.spelling xs) < 2 ^ 32 → so_many f.read (length xs) (flat_map f.spelling xs ++ rest) ≡ Some (xs, rest)
unfolding so_many
so_many-again f law [] rest good short = refl
so_many-again f law (x ∷ xs) rest good short =
    let size = length-append (f.spelling x) (flat_map f.spelling xs) in
    let first = law.again x (flat_map f.spelling xs ++ rest) good.0 (omega (arith, size)) in
    let others = so_many-again f law xs rest good.1 (omega (arith, size)) in
    rw (append_assoc (f.spelling x) (flat_map f.spelling xs) rest, first, others) refl

so_many-taken : {A : Type 0} (f : Form A) → IsForm f → (n : ℕ) (xs : List A) (bytes rest : List ℕ) → AreBytes bytes
    → so_many f.read n bytes ≡ Some (xs, rest)
    → AllByRecursion f.good xs × (bytes ≡ flat_map f.spelling xs ++ rest) × (length xs ≡ n)
unfolding so_many
so_many-taken {A = A} f law zero xs bytes rest are e =
    let same : ([], bytes) ≡ (xs, rest) = same-some {A = List A × List ℕ} _ _ e in
    subst (λ (y : List A × List ℕ). AllByRecursion f.good y.0 × (bytes ≡ flat_map f.spelling y.0 ++ y.1) × (length y.0 ≡ 0)) same (tt, refl, refl)
so_many-taken {A = A} f law (suc n) xs bytes rest are e =
    let a = bind-some (f.read bytes) (λ x. so_many f.read n x.1 >>= (λ xs. Some (x.0 ∷ xs.0, xs.1))) (xs, rest) e in
    let b = bind-some (so_many f.read n a.0.1) (λ xs. Some (a.0.0 ∷ xs.0, xs.1)) (xs, rest) a.2 in
    let t = law.taken a.0.0 bytes a.0.1 are a.1 in
    let u = so_many-taken f law n b.0.0 a.0.1 b.0.1 (bytes-rest (f.spelling a.0.0) a.0.1 (subst AreBytes t.1 are)) b.1 in
    let same : (a.0.0 ∷ b.0.0, b.0.1) ≡ (xs, rest) = same-some {A = List A × List ℕ} _ _ b.2 in
    subst (λ (y : List A × List ℕ). AllByRecursion f.good y.0 × (bytes ≡ flat_map f.spelling y.0 ++ y.1) × (length y.0 ≡ suc n)) same
    ((t.0, u.0), t.1 ∙ ap (λ (l : List ℕ). f.spelling a.0.0 ++ l) u.1 ∙ sym (append_assoc (f.spelling a.0.0) (flat_map f.spelling b.0.0) b.0.1), ap suc u.2)

pub counted-law : {A : Type 0} (f : Form A) → IsForm f → HasBytes f → IsForm (counted f)
counted-law {A = A} f law has = record {
  again = λ xs rest good short.
      let head = bytes_32 (length xs) in
      let size = length-append head (flat_map f.spelling xs) in
      let few : length xs < 2 ^ 32 = omega (arith, size, no-more f has xs) in
      let first = number_32-law.again (length xs) (flat_map f.spelling xs ++ rest) few (omega (arith, length-bytes_32 (length xs))) in
      let others = so_many-again f law xs rest good (omega (arith, size)) in
      rw (append_assoc head (flat_map f.spelling xs) rest, first, others) refl;
  taken = λ xs bytes rest are e.
      let a = bind-some (number_32.read bytes) (λ n. so_many f.read n.0 n.1) (xs, rest) e in
      let t = number_32-law.taken a.0.0 bytes a.0.1 are a.1 in
      let u = so_many-taken f law a.0.0 xs a.0.1 rest (bytes-rest (bytes_32 a.0.0) a.0.1 (subst AreBytes t.1 are)) a.2 in
      (u.0, t.1 ∙ (λ i. bytes_32 (sym u.2 i) ++ u.1 i) ∙ sym (append_assoc (bytes_32 (length xs)) (flat_map f.spelling xs) rest));
}
