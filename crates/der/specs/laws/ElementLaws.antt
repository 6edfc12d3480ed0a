-- An element that is read is the element that was spelled, and what was spelled is read again.
use Rattle.std.proofs.Common.{◌≡◌, ℕ, suc, ◌+◌, ◌-◌, ◌^◌, ◌<◌, ◌≤◌, Bool, true, false, cond, eqb, ltb, List, [], ◌∷◌, ◌++◌, length, take, drop, Result, Ok, Err, refl, sym, ap, subst, ◌∙◌, append_assoc, arith, inl, inr}
use Rattle.std.specs.Int.Digits.{digits_of}
use Rattle.std.proofs.lemmas.Bool.{cases_lt, ltb-false, lt-ltb, le-ltb, eqb-true, eq-eqb}
use Rattle.std.proofs.lemmas.List.{take_at, drop_at, take-append-drop, length-append, length-take}
use Rattle.der.specs.declared.fault.DerFault.{DerFault}
use Rattle.der.specs.declared.fault.DerFault.TheVariants.{Truncated, BadTag}
use Rattle.der.specs.Spelling.{length_bytes, spelled}
use Rattle.der.specs.Reading.{◌>>=◌, length_at, content_at, element_at}
use Rattle.der.specs.Grammar.{AreBytes}
use Rattle.der.specs.laws.LengthLaws.{not_refused, bind_ok, same_ok, length-taken, length-again, one_length, one_front}

-- what a call that failed would have answered
pub refused : {A : Type 0} (b : Bool) (r : Result A DerFault) (d : DerFault) (y : A) → cond b r (Err d) ≡ Ok y → (b ≡ true) × (r ≡ Ok y)
refused true r d y e = (refl, e)
refused false r d y e = absurd cc

pub element-taken : (at tag : ℕ) (bytes : List ℕ) (x : List ℕ × List ℕ) → AreBytes bytes → element_at at tag bytes ≡ Ok x → (bytes ≡ spelled tag x.0 ++ x.1) × (length x.0 < 2 ^ 32)
unfolding element_at spelled
element-taken at tag [] x fits e = absurd cc
element-taken at tag (first ∷ bytes) x fits e =
    let a = refused (eqb first tag) (length_at at bytes >>= (λ n. content_at at n.0 n.1)) (BadTag at) x e in
    let b = bind_ok (length_at at bytes) (λ n. content_at at n.0 n.1) x a.1 in
    let n : ℕ = b.0.0 in
    let rest : List ℕ = b.0.1 in
    let c = not_refused (ltb (length rest) n) (Truncated at) (Ok (take n rest, drop n rest)) x b.2 in
    let l = length-taken at bytes b.0 (λ i. fits (suc i)) b.1 in
    let long : n ≤ length rest = ltb-false _ _ c.0 in
    let count : length (take n rest) ≡ n = omega (arith, length-take n rest) in
    let whole = joined first tag n bytes rest (eqb-true first tag a.0) l.0 count in
    subst (λ (y : List ℕ × List ℕ). (first ∷ bytes ≡ spelled tag y.0 ++ y.1) × (length y.0 < 2 ^ 32)) (same_ok (take n rest, drop n rest) x c.1) (whole, omega (arith, l.1))
  where
    joined : (first tag n : ℕ) (bytes rest : List ℕ) → first ≡ tag → bytes ≡ length_bytes n ++ rest → length (take n rest) ≡ n → first ∷ bytes ≡ spelled tag (take n rest) ++ drop n rest
    joined first tag n bytes rest same parts count =
        rw (count, append_assoc (length_bytes n) (take n rest) (drop n rest), take-append-drop n rest, ← same) (ap (λ (t : List ℕ). first ∷ t) parts)

pub element-again : (at tag : ℕ) (content rest : List ℕ) → length content < 2 ^ 32 → element_at at tag (spelled tag content ++ rest) ≡ Ok (content, rest)
unfolding element_at spelled
element-again at tag content rest small =
    let same : eqb tag tag ≡ true = eq-eqb tag tag refl in
    let long : ltb (length (content ++ rest)) (length content) ≡ false = le-ltb _ _ (omega (arith, length-append content rest)) in
    rw (same, append_assoc (length_bytes (length content)) content rest, length-again at (length content) (content ++ rest) small, long, take_at content rest (length content) refl, drop_at content rest (length content) refl) refl

-- The bytes in front of a rest.
pub front-taken : (bytes front rest : List ℕ) → bytes ≡ front ++ rest → (take (length bytes - length rest) bytes ≡ front) × (length rest ≤ length bytes)
front-taken bytes front rest e =
    let count : length bytes ≡ length front + length rest = ap length e ∙ length-append front rest in
    (ap (take (length bytes - length rest)) e ∙ take_at front rest (length bytes - length rest) (omega arith), omega arith)

-- What is spelled so isn't refused, and read as it is spelled.
pub element-not_refused : (at tag : ℕ) (bytes content rest : List ℕ) (fault : DerFault) → element_at at tag bytes ≡ Err fault → length content < 2 ^ 32 → bytes ≡ spelled tag content ++ rest → ⊥
element-not_refused at tag bytes content rest fault refusal small e =
    let read : element_at at tag bytes ≡ Ok (content, rest) = rw e (element-again at tag content rest small) in
    cc

pub element-same : (at tag : ℕ) (bytes content rest c r : List ℕ) → element_at at tag bytes ≡ Ok (c, r) → length content < 2 ^ 32 → bytes ≡ spelled tag content ++ rest → (c ≡ content) × (r ≡ rest)
element-same at tag bytes content rest c r found small e =
    let read : element_at at tag bytes ≡ Ok (content, rest) = rw e (element-again at tag content rest small) in
    let same = same_ok (c, r) (content, rest) (sym found ∙ read) in
    (ap (λ (p : List ℕ × List ℕ). p.0) same, ap (λ (p : List ℕ × List ℕ). p.1) same)

pub one_element : (t u : ℕ) (c d x y : List ℕ) → spelled t c ++ x ≡ spelled u d ++ y → (t ≡ u) × (c ≡ d) × (x ≡ y)
unfolding spelled
one_element t u c d x y e =
    let e' : t ∷ ((length_bytes (length c) ++ c) ++ x) ≡ u ∷ ((length_bytes (length d) ++ d) ++ y) = e in
    let tails : (length_bytes (length c) ++ c) ++ x ≡ (length_bytes (length d) ++ d) ++ y = cc in
    let regrouped : length_bytes (length c) ++ (c ++ x) ≡ length_bytes (length d) ++ (d ++ y) = sym (append_assoc (length_bytes (length c)) c x) ∙ tails ∙ append_assoc (length_bytes (length d)) d y in
    let l = one_length (length c) (length d) (c ++ x) (d ++ y) regrouped in
    let p = one_front c d x y l.0 l.1 in
    (cc, p.0, p.1)

-- An element is longer than its content.
pub longer : (tag : ℕ) (content : List ℕ) → length content + 2 ≤ length (spelled tag content)
unfolding spelled length_bytes
longer tag content =
    elim (cases_lt (length content) 128) [
      | inl short ↦ rw (lt-ltb _ _ short) (omega arith)
      | inr long ↦ rw (le-ltb _ _ long) (omega (arith, length-append (digits_of 256 (length content)) content))
    ]
