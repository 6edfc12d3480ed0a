-- Where an element starts says nothing of what it is.
use Rattle.std.proofs.Common.{◌≡◌, ℕ, ◌+◌, ◌-◌, ◌<◌, ◌^◌, Bool, true, false, not, cond, ◌||◌, eqb, ltb, List, [], ◌∷◌, ◌++◌, length, take, drop, Some, None, Result, Ok, Err, refl, sym, ap, ◌∙◌}
use Rattle.std.specs.Option.{option_map}
use Rattle.std.specs.Result.{result_ok}
use Rattle.std.proofs.lemmas.List.{append-nil}
use Rattle.der.specs.declared.fault.DerFault.{DerFault}
use Rattle.der.specs.declared.fault.DerFault.TheVariants.{Truncated, BadTag, BadLength, NotCanonical}
use Rattle.der.specs.Spelling.{spelled, unsigned_spelling, bits_spelling, AreBits}
use Rattle.der.specs.Reading.{◌>>=◌, number, is_longer_than_needed, length_at, content_at, element_at, is_shortest_unsigned, number_of, unsigned_at, are_bits, bits_of, bits_at}
use Rattle.der.specs.Grammar.{AreBytes, element_in, whole_in, unsigned_in, bits_in}
use Rattle.der.specs.laws.ElementLaws.{element-taken, element-again}
use Rattle.der.specs.laws.ContentLaws.{unsigned-taken, unsigned-again, bits-taken, bits-again}

-- A choice and a step of two readings that answer alike, but for the fault.
both : {A : Type 0} (b : Bool) (x y r s : Result A DerFault) → result_ok x ≡ result_ok y → result_ok r ≡ result_ok s → result_ok (cond b x r) ≡ result_ok (cond b y s)
both true x y r s first second = first
both false x y r s first second = second

same_some : {A : Type 0} (x y : A) → Some x ≡ Some y → x ≡ y
same_some x y e = cc

bind : {A B : Type 0} (r s : Result A DerFault) (f g : A → Result B DerFault) → result_ok r ≡ result_ok s → ((x : A) → result_ok (f x) ≡ result_ok (g x)) → result_ok (r >>= f) ≡ result_ok (s >>= g)
bind {A = A} {B = B} (Ok x) (Ok y) f g h each = each x ∙ ap (λ (v : A). result_ok (g v)) (same_some x y h)
bind (Ok x) (Err e) f g h each = absurd cc
bind (Err d) (Ok y) f g h each = absurd cc
bind (Err d) (Err e) f g h each = refl

length-alike : (at bt : ℕ) (bytes : List ℕ) → result_ok (length_at at bytes) ≡ result_ok (length_at bt bytes)
unfolding length_at
length-alike at bt [] = refl
length-alike at bt (first ∷ bytes) =
    let digits : List ℕ = take (first - 128) bytes in
    let fourth : ℕ → Result (ℕ × List ℕ) DerFault = λ a. cond (is_longer_than_needed digits) (Err (NotCanonical a)) (Ok (number digits, drop (first - 128) bytes)) in
    let third : ℕ → Result (ℕ × List ℕ) DerFault = λ a. cond (eqb first 128 || ltb 132 first) (Err (BadLength a)) (fourth a) in
    let second : ℕ → Result (ℕ × List ℕ) DerFault = λ a. cond (ltb (length bytes) (first - 128)) (Err (Truncated a)) (third a) in
    both (ltb first 128) (Ok (first, bytes)) (Ok (first, bytes)) (second at) (second bt) refl
    (both (ltb (length bytes) (first - 128)) (Err (Truncated at)) (Err (Truncated bt)) (third at) (third bt) refl
    (both (eqb first 128 || ltb 132 first) (Err (BadLength at)) (Err (BadLength bt)) (fourth at) (fourth bt) refl
    (both (is_longer_than_needed digits) (Err (NotCanonical at)) (Err (NotCanonical bt)) (Ok (number digits, drop (first - 128) bytes)) (Ok (number digits, drop (first - 128) bytes)) refl refl)))

content-alike : (at bt n : ℕ) (bytes : List ℕ) → result_ok (content_at at n bytes) ≡ result_ok (content_at bt n bytes)
content-alike at bt n bytes = both (ltb (length bytes) n) (Err (Truncated at)) (Err (Truncated bt)) (Ok (take n bytes, drop n bytes)) (Ok (take n bytes, drop n bytes)) refl refl

element-alike : (at bt tag : ℕ) (bytes : List ℕ) → result_ok (element_at at tag bytes) ≡ result_ok (element_at bt tag bytes)
unfolding element_at
element-alike at bt tag [] = refl
element-alike at bt tag (first ∷ bytes) =
    let rest : ℕ → Result (List ℕ × List ℕ) DerFault = λ a. length_at a bytes >>= (λ n. content_at a n.0 n.1) in
    both (eqb first tag) (rest at) (rest bt) (Err (BadTag at)) (Err (BadTag bt))
    (bind (length_at at bytes) (length_at bt bytes) (λ n. content_at at n.0 n.1) (λ n. content_at bt n.0 n.1) (length-alike at bt bytes) (λ n. content-alike at bt n.0 n.1)) refl

number-alike : (at bt : ℕ) (content : List ℕ) → result_ok (number_of at content) ≡ result_ok (number_of bt content)
number-alike at bt content =
    let fit : ℕ → Result ℕ DerFault = λ a. cond (ltb (number content) (2 ^ 64)) (Ok (number content)) (Err (BadLength a)) in
    both (not (is_shortest_unsigned content)) (Err (NotCanonical at)) (Err (NotCanonical bt)) (fit at) (fit bt) refl
    (both (ltb (number content) (2 ^ 64)) (Ok (number content)) (Ok (number content)) (Err (BadLength at)) (Err (BadLength bt)) refl refl)

unsigned-alike : (at bt : ℕ) (bytes : List ℕ) → result_ok (unsigned_at at bytes) ≡ result_ok (unsigned_at bt bytes)
unfolding unsigned_at
unsigned-alike at bt bytes =
    bind (element_at at 2 bytes) (element_at bt 2 bytes) (λ e. number_of at e.0 >>= (λ n. Ok (n, e.1))) (λ e. number_of bt e.0 >>= (λ n. Ok (n, e.1))) (element-alike at bt 2 bytes)
    (λ e. bind (number_of at e.0) (number_of bt e.0) (λ n. Ok (n, e.1)) (λ n. Ok (n, e.1)) (number-alike at bt e.0) (λ n. refl))

bits_of-alike : (at bt : ℕ) (content : List ℕ) → result_ok (bits_of at content) ≡ result_ok (bits_of bt content)
bits_of-alike at bt [] = refl
bits_of-alike at bt (unused ∷ bytes) = both (are_bits unused bytes) (Ok (unused, bytes)) (Ok (unused, bytes)) (Err (NotCanonical at)) (Err (NotCanonical bt)) refl refl

bits-alike : (at bt : ℕ) (bytes : List ℕ) → result_ok (bits_at at bytes) ≡ result_ok (bits_at bt bytes)
unfolding bits_at
bits-alike at bt bytes =
    bind (element_at at 3 bytes) (element_at bt 3 bytes) (λ e. bits_of at e.0 >>= (λ b. Ok (b, e.1))) (λ e. bits_of bt e.0 >>= (λ b. Ok (b, e.1))) (element-alike at bt 3 bytes)
    (λ e. bind (bits_of at e.0) (bits_of bt e.0) (λ b. Ok (b, e.1)) (λ b. Ok (b, e.1)) (bits_of-alike at bt e.0) (λ b. refl))

pub element_found : (at tag : ℕ) (bytes : List ℕ) → result_ok (element_at at tag bytes) ≡ element_in tag bytes
unfolding element_in
element_found at tag bytes = element-alike at 0 tag bytes

pub unsigned_found : (at : ℕ) (bytes : List ℕ) → result_ok (unsigned_at at bytes) ≡ unsigned_in bytes
unfolding unsigned_in
unsigned_found at bytes = unsigned-alike at 0 bytes

pub bits_found : (at : ℕ) (bytes : List ℕ) → result_ok (bits_at at bytes) ≡ bits_in bytes
unfolding bits_in
bits_found at bytes = bits-alike at 0 bytes

-- What a call that has read, or refused, makes of it.
pub element_read : (at tag : ℕ) (bytes left content rest after : List ℕ) → element_at at tag bytes ≡ Ok (content, rest) → after ≡ rest → bytes ≡ left → Some (content, after) ≡ element_in tag left
element_read at tag bytes left content rest after e same view =
    ap (λ (t : List ℕ). Some (content, t)) same ∙ sym (ap result_ok e) ∙ element_found at tag bytes ∙ ap (element_in tag) view

pub whole_read : (at tag : ℕ) (bytes left content rest whole after : List ℕ) → element_at at tag bytes ≡ Ok (content, rest) → whole ≡ spelled tag content → after ≡ rest → bytes ≡ left → Some (whole, after) ≡ whole_in tag left
whole_read at tag bytes left content rest whole after e header same view =
    ap (λ (t : List ℕ). Some (t, after)) header ∙ ap (option_map (λ (x : List ℕ × List ℕ). (spelled tag x.0, x.1))) (element_read at tag bytes left content rest after e same view)

pub element_refused : (at tag : ℕ) (bytes left : List ℕ) (fault : DerFault) → element_at at tag bytes ≡ Err fault → bytes ≡ left → None ≡ element_in tag left
element_refused at tag bytes left fault e view = sym (ap result_ok e) ∙ element_found at tag bytes ∙ ap (element_in tag) view

pub whole_refused : (at tag : ℕ) (bytes left : List ℕ) (fault : DerFault) → element_at at tag bytes ≡ Err fault → bytes ≡ left → None ≡ whole_in tag left
whole_refused at tag bytes left fault e view = ap (option_map (λ (x : List ℕ × List ℕ). (spelled tag x.0, x.1))) (element_refused at tag bytes left fault e view)

pub unsigned_read : (at : ℕ) (bytes left : List ℕ) (n : ℕ) (rest after : List ℕ) → unsigned_at at bytes ≡ Ok (n, rest) → after ≡ rest → bytes ≡ left → Some (n, after) ≡ unsigned_in left
unsigned_read at bytes left n rest after e same view =
    ap (λ (t : List ℕ). Some (n, t)) same ∙ sym (ap result_ok e) ∙ unsigned_found at bytes ∙ ap unsigned_in view

pub unsigned_refused : (at : ℕ) (bytes left : List ℕ) (fault : DerFault) → unsigned_at at bytes ≡ Err fault → bytes ≡ left → None ≡ unsigned_in left
unsigned_refused at bytes left fault e view = sym (ap result_ok e) ∙ unsigned_found at bytes ∙ ap unsigned_in view

pub bits_read : (at : ℕ) (bytes left : List ℕ) (unused : ℕ) (content rest after : List ℕ) → bits_at at bytes ≡ Ok ((unused, content), rest) → after ≡ rest → bytes ≡ left → Some ((unused, content), after) ≡ bits_in left
bits_read at bytes left unused content rest after e same view =
    ap (λ (t : List ℕ). Some ((unused, content), t)) same ∙ sym (ap result_ok e) ∙ bits_found at bytes ∙ ap bits_in view

pub bits_refused : (at : ℕ) (bytes left : List ℕ) (fault : DerFault) → bits_at at bytes ≡ Err fault → bytes ≡ left → None ≡ bits_in left
bits_refused at bytes left fault e view = sym (ap result_ok e) ∙ bits_found at bytes ∙ ap bits_in view

-- ---- the laws

at_ok : {A : Type 0} (r : Result A DerFault) (x : A) → result_ok r ≡ Some x → r ≡ Ok x
at_ok {A = A} (Ok y) x e = ap (λ (v : A). Ok v) (same_some y x e)
at_ok (Err d) x e = absurd cc

pub element_in-again : (tag : ℕ) (content rest : List ℕ) → length content < 2 ^ 32 → element_in tag (spelled tag content ++ rest) ≡ Some (content, rest)
unfolding element_in
element_in-again tag content rest small = ap result_ok (element-again 0 tag content rest small)

pub unsigned_in-again : (n : ℕ) (rest : List ℕ) → n < 2 ^ 64 → unsigned_in (unsigned_spelling n ++ rest) ≡ Some (n, rest)
unfolding unsigned_in
unsigned_in-again n rest small = ap result_ok (unsigned-again 0 n rest small)

pub bits_in-again : (unused : ℕ) (bytes rest : List ℕ) → AreBits unused bytes → length bytes + 1 < 2 ^ 32 → bits_in (bits_spelling unused bytes ++ rest) ≡ Some ((unused, bytes), rest)
unfolding bits_in
bits_in-again unused bytes rest bits small = ap result_ok (bits-again 0 unused bytes rest bits small)

-- The same with nothing behind it.
pub element_in-alone : (tag : ℕ) (content : List ℕ) → length content < 2 ^ 32 → element_in tag (spelled tag content) ≡ Some (content, [])
element_in-alone tag content small = ap (element_in tag) (sym (append-nil (spelled tag content))) ∙ element_in-again tag content [] small

pub unsigned_in-alone : (n : ℕ) → n < 2 ^ 64 → unsigned_in (unsigned_spelling n) ≡ Some (n, [])
unsigned_in-alone n small = ap unsigned_in (sym (append-nil (unsigned_spelling n))) ∙ unsigned_in-again n [] small

pub bits_in-alone : (unused : ℕ) (bytes : List ℕ) → AreBits unused bytes → length bytes + 1 < 2 ^ 32 → bits_in (bits_spelling unused bytes) ≡ Some ((unused, bytes), [])
bits_in-alone unused bytes bits small = ap bits_in (sym (append-nil (bits_spelling unused bytes))) ∙ bits_in-again unused bytes [] bits small

pub element_in-taken : (tag : ℕ) (bytes content rest : List ℕ) → AreBytes bytes → element_in tag bytes ≡ Some (content, rest) → (bytes ≡ spelled tag content ++ rest) × (length content < 2 ^ 32)
unfolding element_in
element_in-taken tag bytes content rest fits e = element-taken 0 tag bytes (content, rest) fits (at_ok (element_at 0 tag bytes) (content, rest) e)

pub unsigned_in-taken : (bytes : List ℕ) (n : ℕ) (rest : List ℕ) → AreBytes bytes → unsigned_in bytes ≡ Some (n, rest) → (bytes ≡ unsigned_spelling n ++ rest) × (n < 2 ^ 64)
unfolding unsigned_in
unsigned_in-taken bytes n rest fits e = unsigned-taken 0 bytes (n, rest) fits (at_ok (unsigned_at 0 bytes) (n, rest) e)

pub bits_in-taken : (bytes : List ℕ) (unused : ℕ) (content rest : List ℕ) → AreBytes bytes → bits_in bytes ≡ Some ((unused, content), rest) → (bytes ≡ bits_spelling unused content ++ rest) × AreBits unused content
unfolding bits_in
bits_in-taken bytes unused content rest fits e = bits-taken 0 bytes ((unused, content), rest) fits (at_ok (bits_at 0 bytes) ((unused, content), rest) e)
