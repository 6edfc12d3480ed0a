-- The contents of an INTEGER and of a BIT STRING: read as spelled, and spelled as read.
use Rattle.std.proofs.Common.{◌≡◌, ℕ, zero, suc, ◌+◌, ◌^◌, ◌<◌, ◌≤◌, true, false, not, cond, ◌&&◌, eqb, ltb, List, [], ◌∷◌, ◌++◌, length, get_or, Result, Ok, Err, refl, sym, ap, subst, ◌∙◌, append_assoc, arith, inl, inr, ◌⊎◌}
use Rattle.std.specs.Int.Digits.{digits_of, AllBelowBase}
use Rattle.std.proofs.lemmas.Bool.{cases_lt, ltb-true, ltb-false, lt-ltb, le-ltb, lt-leb, le-leb, eqb-true, eq-eqb, ne_eqb, and_parts, and_from, and_cases, not-false, not-true, cases_Bool}
use Rattle.std.proofs.lemmas.List.{get_or-append-add, get_or_append_left, get_or_past}
use Rattle.std.proofs.lemmas.Int.Digits.{number_digits_of, first_digits_of, length-digits_of-le}
use Rattle.der.specs.declared.fault.DerFault.{DerFault}
use Rattle.der.specs.declared.fault.DerFault.TheVariants.{BadLength, NotCanonical}
use Rattle.der.specs.inner.Digits.{without_zeros}
use Rattle.der.specs.Spelling.{length_bytes, spelled, needs_zero, nonnegative, unsigned_content, unsigned_spelling, bits_spelling, AreBits}
use Rattle.der.specs.Reading.{◌>>=◌, number, element_at, is_shortest_unsigned, number_of, unsigned_at, are_bits, bits_of, bits_at}
use Rattle.der.specs.Grammar.{AreBytes}
use Rattle.der.specs.laws.NumberLaws.{below, digits-number}
use Rattle.der.specs.laws.LengthLaws.{bind_ok, not_refused, same_ok}
use Rattle.der.specs.laws.ElementLaws.{refused, element-taken, element-again, one_element}

number-nonnegative : (ds : List ℕ) → number (nonnegative ds) ≡ number ds
number-nonnegative ds = elim (cases_Bool (needs_zero ds)) [ inl has ↦ rw has refl | inr lacks ↦ rw lacks refl ]

number-content : (n : ℕ) → number (unsigned_content n) ≡ n
unfolding unsigned_content
number-content n = number-nonnegative (digits_of 256 n) ∙ number_digits_of 256 n (omega arith)

pub one_unsigned : (m n : ℕ) (x y : List ℕ) → unsigned_spelling m ++ x ≡ unsigned_spelling n ++ y → (m ≡ n) × (x ≡ y)
unfolding unsigned_spelling
one_unsigned m n x y e =
    let p = one_element 2 2 (unsigned_content m) (unsigned_content n) x y e in
    (sym (number-content m) ∙ ap number p.1 ∙ number-content n, p.2)

pub one_bits : (u v : ℕ) (a b x y : List ℕ) → bits_spelling u a ++ x ≡ bits_spelling v b ++ y → (u ≡ v) × (a ≡ b) × (x ≡ y)
unfolding bits_spelling
one_bits u v a b x y e =
    let p = one_element 3 3 (u ∷ a) (v ∷ b) x y e in
    let same : u ∷ a ≡ v ∷ b = p.1 in
    (cc, cc, p.2)

-- The shortest content of a number is the one that spells it.
content-number : (content : List ℕ) → AllBelowBase 256 content → is_shortest_unsigned content ≡ true → unsigned_content (number content) ≡ content
unfolding unsigned_content
content-number [] fits e = absurd cc
content-number (b ∷ []) fits e =
    ap nonnegative (digits-number (b ∷ []) fits) ∙ one b (ltb-true _ _ e)
  where
    one : (b : ℕ) → b < 128 → nonnegative (without_zeros (b ∷ [])) ≡ b ∷ []
    one zero low = refl
    one (suc b) low = rw (lt-leb 128 (suc b) low) refl
content-number (b ∷ c ∷ bytes) fits e =
    let p = and_parts (ltb b 128) (not (eqb b 0 && ltb c 128)) e in
    ap nonnegative (digits-number (b ∷ c ∷ bytes) fits) ∙ more b c bytes (ltb-true _ _ p.0) (and_cases (eqb b 0) (ltb c 128) (not-true _ p.1))
  where
    more : (b c : ℕ) (bytes : List ℕ) → b < 128 → (eqb b 0 ≡ false) ⊎ (ltb c 128 ≡ false) → nonnegative (without_zeros (b ∷ c ∷ bytes)) ≡ b ∷ c ∷ bytes
    more zero zero bytes low h = elim h [ inl e ↦ absurd cc | inr e ↦ absurd cc ]
    more zero (suc c) bytes low h = elim h [ inl e ↦ absurd cc | inr e ↦ rw (le-leb 128 (suc c) (ltb-false (suc c) 128 e)) refl ]
    more (suc b) c bytes low h = rw (lt-leb 128 (suc b) low) refl

-- What spells a number is its shortest content.
shortest-nonnegative : (ds : List ℕ) → (ds ≡ [] → ⊥) → 0 < get_or ds 0 0 → is_shortest_unsigned (nonnegative ds) ≡ true
shortest-nonnegative [] some pos = absurd (some refl)
shortest-nonnegative (d ∷ []) some pos =
    elim (cases_lt d 128) [
      | inl low ↦ let test = lt-leb 128 d low in let fits = lt-ltb d 128 low in rw (test, fits) refl
      | inr high ↦ let test = le-leb 128 d high in let fits = le-ltb d 128 high in rw (test, fits) refl
    ]
shortest-nonnegative (d ∷ c ∷ ds) some pos =
    elim (cases_lt d 128) [
      | inl low ↦
          let test = lt-leb 128 d low in
          let fits = lt-ltb d 128 low in
          let nonzero : eqb d 0 ≡ false = ne_eqb d 0 (λ e. omega arith) in
          rw (test, fits, nonzero) refl
      | inr high ↦ let test = le-leb 128 d high in let fits = le-ltb d 128 high in rw (test, fits) refl
    ]

shortest-content : (n : ℕ) → is_shortest_unsigned (unsigned_content n) ≡ true
unfolding unsigned_content
shortest-content zero = refl
shortest-content (suc n) =
    let first = first_digits_of 256 (suc n) (omega arith) (omega arith) in
    shortest-nonnegative (digits_of 256 (suc n)) (λ e. let none : get_or (digits_of 256 (suc n)) 0 0 ≡ 0 = rw e refl in omega arith) first

pub part-fits : (tag : ℕ) (bytes content rest : List ℕ) → AreBytes bytes → bytes ≡ spelled tag content ++ rest → AreBytes content
unfolding spelled
part-fits tag bytes content rest fits e i =
    elim (cases_lt i (length content)) [
      | inl lt ↦
          let header : List ℕ = tag ∷ length_bytes (length content) in
          let place : get_or bytes (length header + i) 0 ≡ get_or content i 0 =
          rw (e, append_assoc header content rest, get_or-append-add header (content ++ rest) i 0) (get_or_append_left content rest 0 i lt) in
          subst (λ (b : ℕ). b < 256) place (fits (length header + i))
      | inr le ↦ rw (get_or_past content i 0 le) (omega arith)
    ]

short-content : (n : ℕ) → n < 2 ^ 64 → length (unsigned_content n) < 2 ^ 32
unfolding unsigned_content
short-content n small = omega (arith, length-digits_of-le 256 8 n (omega arith) (omega arith), length-nonnegative (digits_of 256 n))
  where
    length-nonnegative : (ds : List ℕ) → length (nonnegative ds) ≤ length ds + 1
    length-nonnegative ds = elim (cases_Bool (needs_zero ds)) [ inl has ↦ rw has (omega arith) | inr lacks ↦ rw lacks (omega arith) ]

pub some-content : (n : ℕ) → 1 ≤ length (unsigned_content n)
unfolding unsigned_content
some-content n = some (digits_of 256 n)
  where
    some : (ds : List ℕ) → 1 ≤ length (nonnegative ds)
    some [] = omega arith
    some (d ∷ ds) = elim (cases_Bool (needs_zero (d ∷ ds))) [ inl has ↦ rw has (omega arith) | inr lacks ↦ rw lacks (omega arith) ]

bits-test : (unused : ℕ) (bytes : List ℕ) → AreBits unused bytes → are_bits unused bytes ≡ true
bits-test unused [] bits = eq-eqb unused 0 (bits.none refl)
bits-test unused (b ∷ bytes) bits = and_from _ _ (lt-ltb unused 8 bits.few) (eq-eqb _ 0 bits.clear)

are-bits : (unused : ℕ) (bytes : List ℕ) → are_bits unused bytes ≡ true → AreBits unused bytes
are-bits unused [] e =
    let none : unused ≡ 0 = eqb-true unused 0 e in
    record { few = omega arith; none = λ _. none; clear = rw none refl }
are-bits unused (b ∷ bytes) e =
    let p = and_parts (ltb unused 8) _ e in
    record { few = ltb-true _ _ p.0; none = λ e. absurd cc; clear = eqb-true _ 0 p.1 }

pub content-bits : (at : ℕ) (content : List ℕ) (x : ℕ × List ℕ) → bits_of at content ≡ Ok x → (content ≡ x.0 ∷ x.1) × AreBits x.0 x.1
content-bits at [] x e = absurd cc
content-bits at (unused ∷ bytes) x e =
    let p = refused (are_bits unused bytes) (Ok (unused, bytes)) (NotCanonical at) x e in
    subst (λ (y : ℕ × List ℕ). (unused ∷ bytes ≡ y.0 ∷ y.1) × AreBits y.0 y.1) (same_ok (unused, bytes) x p.1) (refl, are-bits unused bytes p.0)

-- The content that a number was read from spells it.
pub content-read : (at : ℕ) (content : List ℕ) (n : ℕ) → AreBytes content → number_of at content ≡ Ok n → unsigned_content n ≡ content
content-read at content n fits e =
    let fit : Result ℕ DerFault = cond (ltb (number content) (2 ^ 64)) (Ok (number content)) (Err (BadLength at)) in
    let a = not_refused (not (is_shortest_unsigned content)) (NotCanonical at) fit n e in
    let b = refused (ltb (number content) (2 ^ 64)) (Ok (number content)) (BadLength at) n a.1 in
    let same : number content ≡ n = same_ok (number content) n b.1 in
    rw (← same) (content-number content (below content fits) (not-false _ a.0))

pub unsigned-again : (at n : ℕ) (rest : List ℕ) → n < 2 ^ 64 → unsigned_at at (unsigned_spelling n ++ rest) ≡ Ok (n, rest)
unfolding unsigned_at unsigned_spelling
unsigned-again at n rest small =
    let few : length (unsigned_content n) < 2 ^ 32 = short-content n small in
    let read : number_of at (unsigned_content n) ≡ Ok n = rw (shortest-content n, number-content n, lt-ltb n (2 ^ 64) small) refl in
    rw (element-again at 2 (unsigned_content n) rest few, read) refl

pub bits-again : (at unused : ℕ) (bytes rest : List ℕ) → AreBits unused bytes → length bytes + 1 < 2 ^ 32 → bits_at at (bits_spelling unused bytes ++ rest) ≡ Ok ((unused, bytes), rest)
unfolding bits_at bits_spelling
bits-again at unused bytes rest bits small =
    rw (element-again at 3 (unused ∷ bytes) rest (omega arith), bits-test unused bytes bits) refl

pub unsigned-not_refused : (at : ℕ) (bytes : List ℕ) (n : ℕ) (rest : List ℕ) (fault : DerFault) → unsigned_at at bytes ≡ Err fault → n < 2 ^ 64 → bytes ≡ unsigned_spelling n ++ rest → ⊥
unsigned-not_refused at bytes n rest fault refusal small e =
    let read : unsigned_at at bytes ≡ Ok (n, rest) = rw e (unsigned-again at n rest small) in
    cc

pub unsigned-same : (at : ℕ) (bytes : List ℕ) (n : ℕ) (rest : List ℕ) (m : ℕ) (r : List ℕ) → unsigned_at at bytes ≡ Ok (m, r) → n < 2 ^ 64 → bytes ≡ unsigned_spelling n ++ rest → (m ≡ n) × (r ≡ rest)
unsigned-same at bytes n rest m r found small e =
    let read : unsigned_at at bytes ≡ Ok (n, rest) = rw e (unsigned-again at n rest small) in
    let same = same_ok (m, r) (n, rest) (sym found ∙ read) in
    (ap (λ (p : ℕ × List ℕ). p.0) same, ap (λ (p : ℕ × List ℕ). p.1) same)

pub bits-not_refused : (at : ℕ) (bytes : List ℕ) (unused : ℕ) (content rest : List ℕ) (fault : DerFault) → bits_at at bytes ≡ Err fault → AreBits unused content → length content + 1 < 2 ^ 32 → bytes ≡ bits_spelling unused content ++ rest → ⊥
bits-not_refused at bytes unused content rest fault refusal bits small e =
    let read : bits_at at bytes ≡ Ok ((unused, content), rest) = rw e (bits-again at unused content rest bits small) in
    cc

pub bits-same : (at : ℕ) (bytes : List ℕ) (unused : ℕ) (content rest : List ℕ) (u : ℕ) (c r : List ℕ) → bits_at at bytes ≡ Ok ((u, c), r) → AreBits unused content → length content + 1 < 2 ^ 32 → bytes ≡ bits_spelling unused content ++ rest → (u ≡ unused) × (c ≡ content) × (r ≡ rest)
bits-same at bytes unused content rest u c r found bits small e =
    let read : bits_at at bytes ≡ Ok ((unused, content), rest) = rw e (bits-again at unused content rest bits small) in
    let same = same_ok ((u, c), r) ((unused, content), rest) (sym found ∙ read) in
    (ap (λ (p : (ℕ × List ℕ) × List ℕ). p.0.0) same, ap (λ (p : (ℕ × List ℕ) × List ℕ). p.0.1) same, ap (λ (p : (ℕ × List ℕ) × List ℕ). p.1) same)

number-fits : (at : ℕ) (content : List ℕ) (n : ℕ) → number_of at content ≡ Ok n → n < 2 ^ 64
number-fits at content n e =
    let fit : Result ℕ DerFault = cond (ltb (number content) (2 ^ 64)) (Ok (number content)) (Err (BadLength at)) in
    let a = not_refused (not (is_shortest_unsigned content)) (NotCanonical at) fit n e in
    let b = refused (ltb (number content) (2 ^ 64)) (Ok (number content)) (BadLength at) n a.1 in
    subst (λ (m : ℕ). m < 2 ^ 64) (same_ok (number content) n b.1) (ltb-true _ _ b.0)

-- A number that is read, and bits that are, stand there as spelled.
pub unsigned-taken : (at : ℕ) (bytes : List ℕ) (x : ℕ × List ℕ) → AreBytes bytes → unsigned_at at bytes ≡ Ok x → (bytes ≡ unsigned_spelling x.0 ++ x.1) × (x.0 < 2 ^ 64)
unfolding unsigned_at unsigned_spelling
unsigned-taken at bytes x fits e =
    let a = bind_ok (element_at at 2 bytes) (λ e. number_of at e.0 >>= (λ n. Ok (n, e.1))) x e in
    let b = bind_ok (number_of at a.0.0) (λ n. Ok (n, a.0.1)) x a.2 in
    let taken = element-taken at 2 bytes a.0 fits a.1 in
    let content = content-read at a.0.0 b.0 (part-fits 2 bytes a.0.0 a.0.1 fits taken.0) b.1 in
    let whole : bytes ≡ unsigned_spelling b.0 ++ a.0.1 = taken.0 ∙ ap (λ (t : List ℕ). spelled 2 t ++ a.0.1) (sym content) in
    subst (λ (y : ℕ × List ℕ). (bytes ≡ unsigned_spelling y.0 ++ y.1) × (y.0 < 2 ^ 64)) (same_ok (b.0, a.0.1) x b.2) (whole, number-fits at a.0.0 b.0 b.1)

pub bits-taken : (at : ℕ) (bytes : List ℕ) (x : (ℕ × List ℕ) × List ℕ) → AreBytes bytes → bits_at at bytes ≡ Ok x → (bytes ≡ bits_spelling x.0.0 x.0.1 ++ x.1) × AreBits x.0.0 x.0.1
unfolding bits_at bits_spelling
bits-taken at bytes x fits e =
    let a = bind_ok (element_at at 3 bytes) (λ e. bits_of at e.0 >>= (λ b. Ok (b, e.1))) x e in
    let b = bind_ok (bits_of at a.0.0) (λ b. Ok (b, a.0.1)) x a.2 in
    let taken = element-taken at 3 bytes a.0 fits a.1 in
    let c = content-bits at a.0.0 b.0 b.1 in
    let whole : bytes ≡ bits_spelling b.0.0 b.0.1 ++ a.0.1 = taken.0 ∙ ap (λ (t : List ℕ). spelled 3 t ++ a.0.1) c.0 in
    subst (λ (y : (ℕ × List ℕ) × List ℕ). (bytes ≡ bits_spelling y.0.0 y.0.1 ++ y.1) × AreBits y.0.0 y.0.1) (same_ok (b.0, a.0.1) x b.2) (whole, c.1)

pub number-again : (at n : ℕ) → n < 2 ^ 64 → number_of at (unsigned_content n) ≡ Ok n
number-again at n small = rw (shortest-content n, number-content n, lt-ltb n (2 ^ 64) small) refl

pub number-taken : (at : ℕ) (content : List ℕ) (n : ℕ) → AreBytes content → number_of at content ≡ Ok n → (n < 2 ^ 64) × (content ≡ unsigned_content n)
number-taken at content n fits e = (number-fits at content n e, sym (content-read at content n fits e))

pub bits_of-again : (at unused : ℕ) (bytes : List ℕ) → AreBits unused bytes → bits_of at (unused ∷ bytes) ≡ Ok (unused, bytes)
bits_of-again at unused bytes bits = rw (bits-test unused bytes bits) refl
