-- A length that is read is the length that was spelled, and what was spelled is read again.
use Rattle.std.proofs.Common.{◌≡◌, ℕ, suc, ◌+◌, ◌-◌, ◌^◌, ◌<◌, ◌≤◌, Bool, true, false, cond, ◌||◌, eqb, ltb, List, [], ◌∷◌, ◌++◌, length, get_or, take, drop, Result, Ok, Err, refl, sym, ap, subst, ◌∙◌, arith, inl, inr, ◌⊎◌}
use Rattle.std.specs.Int.Digits.{digits_of}
use Rattle.std.proofs.Math.Nat.{pow-le-pow_right}
use Rattle.std.proofs.lemmas.Bool.{cases_lt, ltb-true, ltb-false, lt-ltb, le-ltb, eqb-false, ne_eqb, or_parts, or_from}
use Rattle.std.proofs.lemmas.List.{take_at, drop_at, take-append-drop, length-append, length-take}
use Rattle.std.proofs.lemmas.Int.Digits.{number_lt, number_digits_of, first_digits_of, length-digits_of-le, same_from_digits_of}
use Rattle.der.specs.declared.fault.DerFault.{DerFault}
use Rattle.der.specs.declared.fault.DerFault.TheVariants.{Truncated, BadLength, NotCanonical}
use Rattle.der.specs.Spelling.{length_bytes}
use Rattle.der.specs.Reading.{◌>>=◌, number, is_longer_than_needed, length_at}
use Rattle.der.specs.Grammar.{AreBytes}
use Rattle.der.specs.laws.NumberLaws.{AreBytes-take, below, digits-number, without_zeros-same}

-- which way a choice went
pub chosen : {A : Type 0} (b : Bool) (x y z : A) → cond b x y ≡ z → ((b ≡ true) × (x ≡ z)) ⊎ ((b ≡ false) × (y ≡ z))
chosen true x y z e = inl (refl, e)
chosen false x y z e = inr (refl, e)

-- a test for a fault that was not met
pub not_refused : {A : Type 0} (b : Bool) (d : DerFault) (r : Result A DerFault) (y : A) → cond b (Err d) r ≡ Ok y → (b ≡ false) × (r ≡ Ok y)
not_refused true d r y e = absurd cc
not_refused false d r y e = (refl, e)

-- the value of a step that did not fail
pub bind_ok : {A B : Type 0} (r : Result A DerFault) (f : A → Result B DerFault) (y : B) → (r >>= f) ≡ Ok y → (x : A) × (r ≡ Ok x) × (f x ≡ Ok y)
bind_ok (Ok x) f y e = (x, refl, e)
bind_ok (Err d) f y e = absurd cc

abbrev done : {A : Type 0} → A → Result A DerFault
done x = Ok x

pub same_ok : {A : Type 0} (x y : A) → done x ≡ done y → x ≡ y
same_ok x y e = cc

-- the long form: first is the first byte, and the digits stand behind it
long_taken : (at first : ℕ) (bytes : List ℕ) (x : ℕ × List ℕ) → AreBytes bytes → 128 ≤ first → first - 128 ≤ length bytes
    → (eqb first 128 || ltb 132 first) ≡ false → is_longer_than_needed (take (first - 128) bytes) ≡ false
    → x ≡ (number (take (first - 128) bytes), drop (first - 128) bytes)
    → (first ∷ bytes ≡ length_bytes x.0 ++ x.1) × (x.0 < 2 ^ 32)
unfolding length_bytes
long_taken at first bytes x fits long whole in_range needed x-is =
    let digits : List ℕ = take (first - 128) bytes in
    let rest : List ℕ = drop (first - 128) bytes in
    let few = or_parts (eqb first 128) (ltb 132 first) in_range in
    let at_most : first ≤ 132 = ltb-false _ _ few.1 in
    let parts = or_parts (eqb (get_or digits 0 0) 0) (ltb (number digits) 128) needed in
    let not_zero : get_or digits 0 0 ≡ 0 → ⊥ = eqb-false _ _ parts.0 in
    let big : 128 ≤ number digits = ltb-false _ _ parts.1 in
    let all_below = below digits (AreBytes-take (first - 128) bytes fits) in
    let count : length digits ≡ first - 128 = omega (arith, length-take (first - 128) bytes) in
    let same : digits_of 256 (number digits) ≡ digits = digits-number digits all_below ∙ without_zeros-same digits (omega arith) in
    let limit : 256 ^ length digits ≤ 256 ^ 4 = pow-le-pow_right {n = 256} (omega arith) {i = length digits} {j = 4} (omega arith) in
    let small : number digits < 2 ^ 32 = omega (arith, number_lt 256 digits all_below, limit) in
    let header : 128 + length digits ≡ first = omega arith in
    let spelled : length_bytes (number digits) ≡ first ∷ digits =
    rw (le-ltb (number digits) 128 big, same, header) refl in
    let both : first ∷ bytes ≡ length_bytes (number digits) ++ rest =
    ap (λ (t : List ℕ). first ∷ t) (sym (take-append-drop (first - 128) bytes)) ∙ sym (ap (λ (t : List ℕ). t ++ rest) spelled) in
    subst (λ (y : ℕ × List ℕ). (first ∷ bytes ≡ length_bytes y.0 ++ y.1) × (y.0 < 2 ^ 32)) (sym x-is) (both, small)

pub length-taken : (at : ℕ) (bytes : List ℕ) (x : ℕ × List ℕ) → AreBytes bytes → length_at at bytes ≡ Ok x → (bytes ≡ length_bytes x.0 ++ x.1) × (x.0 < 2 ^ 32)
unfolding length_at length_bytes
length-taken at [] x fits e = absurd cc
length-taken at (first ∷ bytes) x fits e =
    let few : Bool = eqb first 128 || ltb 132 first in
    let digits : List ℕ = take (first - 128) bytes in
    let read : Result (ℕ × List ℕ) DerFault = Ok (number digits, drop (first - 128) bytes) in
    let third : Result (ℕ × List ℕ) DerFault = cond (is_longer_than_needed digits) (Err (NotCanonical at)) read in
    let second : Result (ℕ × List ℕ) DerFault = cond few (Err (BadLength at)) third in
    let long : Result (ℕ × List ℕ) DerFault = cond (ltb (length bytes) (first - 128)) (Err (Truncated at)) second in
    elim (chosen (ltb first 128) (Ok (first, bytes)) long (Ok x) e) [
      | inl short ↦
          subst (λ (y : ℕ × List ℕ). (first ∷ bytes ≡ length_bytes y.0 ++ y.1) × (y.0 < 2 ^ 32)) (same_ok (first, bytes) x short.1) (rw (short.0) refl, omega (arith, ltb-true _ _ short.0))
      | inr l ↦
          let whole = not_refused (ltb (length bytes) (first - 128)) (Truncated at) second x l.1 in
          let in_range = not_refused few (BadLength at) third x whole.1 in
          let needed = not_refused (is_longer_than_needed digits) (NotCanonical at) read x in_range.1 in
          long_taken at first bytes x (λ i. fits (suc i)) (ltb-false _ _ l.0) (ltb-false _ _ whole.0) in_range.0 needed.0 (sym (same_ok (number digits, drop (first - 128) bytes) x needed.1))
    ]

pub length-again : (at n : ℕ) (rest : List ℕ) → n < 2 ^ 32 → length_at at (length_bytes n ++ rest) ≡ Ok (n, rest)
unfolding length_at length_bytes
length-again at n rest small =
    elim (cases_lt n 128) [
      | inl short ↦ let test = lt-ltb n 128 short in rw (test, test) refl
      | inr long ↦
          let ds : List ℕ = digits_of 256 n in
          let test : ltb n 128 ≡ false = le-ltb n 128 long in
          let at_most : length ds ≤ 4 = length-digits_of-le 256 4 n (omega arith) (omega arith) in
          let positive : 0 < get_or ds 0 0 = first_digits_of 256 n (omega arith) (omega arith) in
          let at_least : 0 < length ds = some_first ds positive in
          let count : (128 + length ds) - 128 ≡ length ds = omega arith in
          let t1 : ltb (128 + length ds) 128 ≡ false = le-ltb _ _ (omega arith) in
          let t2 : ltb (length (ds ++ rest)) (length ds) ≡ false = le-ltb _ _ (omega (arith, length-append ds rest)) in
          let t3 : (eqb (128 + length ds) 128 || ltb 132 (128 + length ds)) ≡ false = or_from _ _ (ne_eqb (128 + length ds) 128 (λ e. omega arith)) (le-ltb _ _ (omega arith)) in
          let t4 : (eqb (get_or ds 0 0) 0 || ltb (number ds) 128) ≡ false = or_from _ _ (ne_eqb (get_or ds 0 0) 0 (λ e. omega arith)) (le-ltb _ _ (omega (arith, number_digits_of 256 n (omega arith)))) in
          rw (test, t1, count, t2, t3, take_at ds rest (length ds) refl, t4, drop_at ds rest (length ds) refl, number_digits_of 256 n (omega arith)) refl
    ]
  where
    some_first : (ds : List ℕ) → 0 < get_or ds 0 0 → 0 < length ds
    some_first [] p = p
    some_first (d ∷ ds) p = omega arith

-- fronts of one length
pub one_front : (a b x y : List ℕ) → length a ≡ length b → a ++ x ≡ b ++ y → (a ≡ b) × (x ≡ y)
one_front a b x y count e = (
  sym (take_at a x (length a) refl) ∙ ap (take (length a)) e ∙ take_at b y (length a) (sym count),
  sym (drop_at a x (length a) refl) ∙ ap (drop (length a)) e ∙ drop_at b y (length a) (sym count),
)

-- no length begins another
pub one_length : (m n : ℕ) (x y : List ℕ) → length_bytes m ++ x ≡ length_bytes n ++ y → (m ≡ n) × (x ≡ y)
unfolding length_bytes
one_length m n x y e =
    elim (cases_lt m 128) [
      | inl m-short ↦ elim (cases_lt n 128) [
        | inl n-short ↦
            let e' : m ∷ x ≡ n ∷ y = rw (lt-ltb m 128 m-short, lt-ltb n 128 n-short) at e in (cc, cc)
        | inr n-long ↦
            let e' : m ∷ x ≡ (128 + length (digits_of 256 n)) ∷ (digits_of 256 n ++ y) = rw (lt-ltb m 128 m-short, le-ltb n 128 n-long) at e in
            let heads : m ≡ 128 + length (digits_of 256 n) = cc in absurd (omega arith)
      ]
      | inr m-long ↦ elim (cases_lt n 128) [
        | inl n-short ↦
            let e' : (128 + length (digits_of 256 m)) ∷ (digits_of 256 m ++ x) ≡ n ∷ y = rw (le-ltb m 128 m-long, lt-ltb n 128 n-short) at e in
            let heads : 128 + length (digits_of 256 m) ≡ n = cc in absurd (omega arith)
        | inr n-long ↦
            let e' : (128 + length (digits_of 256 m)) ∷ (digits_of 256 m ++ x) ≡ (128 + length (digits_of 256 n)) ∷ (digits_of 256 n ++ y) = rw (le-ltb m 128 m-long, le-ltb n 128 n-long) at e in
            let heads : 128 + length (digits_of 256 m) ≡ 128 + length (digits_of 256 n) = cc in
            let tails : digits_of 256 m ++ x ≡ digits_of 256 n ++ y = cc in
            let count : length (digits_of 256 m) ≡ length (digits_of 256 n) = omega arith in
            let p = one_front (digits_of 256 m) (digits_of 256 n) x y count tails in
            (same_from_digits_of 256 m n (omega arith) p.0, p.1)
      ]
    ]
