-- Steps along the front of a text.
use Rattle.std.proofs.Common.{◌≡◌, ℕ, suc, ◌+◌, ◌-◌, ◌<◌, ◌≤◌, Bool, true, false, ◌==◌, List, [], ◌∷◌, length, take, drop, get_or, Result, Ok, Err, Option, Some, None, inl, inr, refl, sym, ap, ◌∙◌, arith, length-drop}
use Rattle.std.specs.List.{prefix_len, list_all}
use Rattle.std.specs.Str.{IsAscii, IsUtf8}
use Rattle.std.proofs.lemmas.Str.{IsUtf8-from_ascii}
use Rattle.std.proofs.lemmas.Str.Ascii.{IsAscii-nil, IsAscii-cons, IsAscii-from_reads}
use Rattle.std.specs.Prelude.{nat_lt}
use Rattle.hex.specs.Hex.{lower_digits, encode_lower}
use Rattle.hex.proofs.HexLemmas.{IsAscii-encode_with}
use Rattle.base64.proofs.Tables.{all_below_at}
use Rattle.std.proofs.lemmas.Bool.Decides.{nat_tests}
use Rattle.rrdp_text.proofs.FieldLaws.{closed_ok, front_all}
use Rattle.std.proofs.lemmas.Bool.{cases_Bool, eq-eqb, ne_eqb, and_parts, ltb-true}
use Rattle.std.proofs.lemmas.List.{drop_more, drop_all, take_all, nil_from_length}
use Rattle.std.proofs.lemmas.List.Sums.{prefix_len-drop_yes, prefix_len-drop_no, prefix_len-drop_all, prefix_len-le-length}
use Rattle.rrdp_text.specs.Fields.{is_below, uri_above, hash, serial, session, content, is_uri_byte, is_hex, is_digit, is_session_byte, is_base64_byte}
use Rattle.rrdp_text.specs.declared.parts.Alphabet.TheVariants.{Uri, Hex, Digit, Session, Base64}
use Rattle.rrdp_text.specs.Reading.{literal, field, closed, told, ◌>>=◌}
use Rattle.rrdp_text.specs.inner.Parts.{has, plain}
use Rattle.rrdp_text.specs.declared.parts.Alphabet.{Alphabet}

pub literal_end : (cs s : List ℕ) (i : ℕ) → i < length cs → length s ≤ i → literal (drop i cs) (drop i s) ≡ Err 0
unfolding literal
literal_end cs s i more end = rw (drop_more cs i 0 more, drop_all i s end) refl

pub literal_more : (cs s : List ℕ) (i : ℕ) → i < length cs → i < length s → get_or s i 0 ≡ get_or cs i 0
    → literal (drop (i + 1) cs) (drop (i + 1) s) ≡ literal (drop i cs) (drop i s)
unfolding literal
literal_more cs s i more within alike = rw (drop_more cs i 0 more, drop_more s i 0 within, eq-eqb (get_or s i 0) (get_or cs i 0) alike) refl

pub literal_differs : (cs s : List ℕ) (i : ℕ) → i < length cs → i < length s → (get_or s i 0 ≡ get_or cs i 0 → ⊥)
    → literal (drop i cs) (drop i s) ≡ Err (length s - i)
unfolding literal
literal_differs cs s i more within differs =
    let long = length-drop (i + 1) s in
    let left : suc (length (drop (i + 1) s)) ≡ length s - i = omega (arith, long) in
    rw (drop_more cs i 0 more, drop_more s i 0 within, ne_eqb (get_or s i 0) (get_or cs i 0) differs, left) refl

pub literal_all : (cs s : List ℕ) (i : ℕ) → length cs ≤ i → literal (drop i cs) (drop i s) ≡ Ok (drop i s)
unfolding literal
literal_all cs s i all = rw (drop_all i cs all) refl

pub literal_done : (cs s : List ℕ) (i : ℕ) → length cs ≤ i → i ≤ length cs → literal (drop i cs) (drop i s) ≡ literal cs s
    → literal cs s ≡ Ok (take (length s - length cs) (drop (length cs) s))
literal_done cs s i low high same =
    let here : i ≡ length cs = omega arith in
    let long = length-drop (length cs) s in
    let whole : take (length s - length cs) (drop (length cs) s) ≡ drop (length cs) s = take_all (length s - length cs) (drop (length cs) s) (omega (arith, long)) in
    sym same ∙ literal_all cs s i low ∙ ap (λ (n : ℕ). Ok (drop n s)) here ∙ ap Ok (sym whole)

pub ruleset literal_steps = (literal_end, literal_more, literal_differs, literal_all)

pub front_within : (p : ℕ → Bool) (s : List ℕ) → prefix_len p s ≤ length s
front_within p s = prefix_len-le-length p s

pub front_yes : (p : ℕ → Bool) (s : List ℕ) (i : ℕ) → i < length s → p (get_or s i 0) ≡ true
    → prefix_len p (drop i s) ≡ 1 + prefix_len p (drop (i + 1) s)
front_yes p s i within is = prefix_len-drop_yes p s i 0 within is

pub front_no : (p : ℕ → Bool) (s : List ℕ) (i : ℕ) → i < length s → p (get_or s i 0) ≡ false → prefix_len p (drop i s) ≡ 0
front_no p s i within isnt = prefix_len-drop_no p s i 0 within isnt

pub front_none : (p : ℕ → Bool) (s : List ℕ) → prefix_len p (drop (length s) s) ≡ 0
front_none p s = prefix_len-drop_all p s (length s) (omega arith)

pub ruleset front_steps = (front_yes, front_no, front_none, front_within)

pub field_end : (a : Alphabet) (ends : ℕ) (s : List ℕ) → length (drop (prefix_len (has a) s) s) ≡ 0 → field (plain a) ends s ≡ Err 0
unfolding field
field_end a ends s e = rw (nil_from_length (drop (prefix_len (has a) s) s) e) refl

pub field_ends : (a : Alphabet) (ends : ℕ) (s rest : List ℕ) → drop (prefix_len (has a) s) s ≡ ends ∷ rest
    → field (plain a) ends s ≡ Ok (take (prefix_len (has a) s) s, rest)
unfolding field
field_ends a ends s rest e = rw (e, eq-eqb ends ends refl) refl

pub field_other : (a : Alphabet) (ends b : ℕ) (s rest : List ℕ) → drop (prefix_len (has a) s) s ≡ b ∷ rest → (b ≡ ends → ⊥)
    → field (plain a) ends s ≡ Err (suc (length rest))
unfolding field
field_other a ends b s rest e differs = rw (e, ne_eqb b ends differs) refl

pub ruleset field_cases = (field_end, field_ends, field_other, front_within)

-- ---- the fields by their bytes

closed_by : {A : Type 0} (value : List ℕ → Option A) (ends : ℕ) (front s : List ℕ)
    → closed ends (value front) s ≡ (closed ends (Some front) s >>= λ p. told (value p.0) p.1)
closed_by value ends front [] = refl
closed_by value ends front (b ∷ s) = elim (cases_Bool (b == ends)) [
  | inl is ↦ rw is refl
  | inr isnt ↦ rw isnt refl
]

pub uri_by : (previous : List ℕ) (ends : ℕ) (s : List ℕ) → field (uri_above previous) ends s ≡ (field (plain Uri) ends s >>= λ p. told ((uri_above previous).value p.0) p.1)
unfolding field
uri_by previous ends s = closed_by (uri_above previous).value ends (take (prefix_len is_uri_byte s) s) (drop (prefix_len is_uri_byte s) s)

pub hash_by : (ends : ℕ) (s : List ℕ) → field hash ends s ≡ (field (plain Hex) ends s >>= λ p. told (hash.value p.0) p.1)
unfolding field
hash_by ends s = closed_by hash.value ends (take (prefix_len is_hex s) s) (drop (prefix_len is_hex s) s)

pub serial_by : (ends : ℕ) (s : List ℕ) → field serial ends s ≡ (field (plain Digit) ends s >>= λ p. told (serial.value p.0) p.1)
unfolding field
serial_by ends s = closed_by serial.value ends (take (prefix_len is_digit s) s) (drop (prefix_len is_digit s) s)

pub session_by : (ends : ℕ) (s : List ℕ) → field session ends s ≡ (field (plain Session) ends s >>= λ p. told (session.value p.0) p.1)
unfolding field
session_by ends s = closed_by session.value ends (take (prefix_len is_session_byte s) s) (drop (prefix_len is_session_byte s) s)

pub content_by : (ends : ℕ) (s : List ℕ) → field content ends s ≡ (field (plain Base64) ends s >>= λ p. told (content.value p.0) p.1)
unfolding field
content_by ends s = closed_by content.value ends (take (prefix_len is_base64_byte s) s) (drop (prefix_len is_base64_byte s) s)

pub told_some : {A : Type 0} (value : List ℕ → Option A) (r : Result (List ℕ × List ℕ) ℕ) (front rest : List ℕ) (a : A) → r ≡ Ok (front, rest)
    → value front ≡ Some a → (r >>= λ p. told (value p.0) p.1) ≡ Ok (a, rest)
told_some value r front rest a is some = rw is (rw some refl)

pub told_none : {A : Type 0} (value : List ℕ → Option A) (r : Result (List ℕ × List ℕ) ℕ) (front rest : List ℕ) → r ≡ Ok (front, rest)
    → value front ≡ None → (r >>= λ p. told (value p.0) p.1) ≡ Err (length rest + 1)
told_none value r front rest is none = rw is (rw none (ap Err (omega arith)))

pub uri_taken : (previous s front rest : List ℕ) (ends : ℕ) → field (plain Uri) ends s ≡ Ok (front, rest) → is_below previous front ≡ true
    → field (uri_above previous) ends s ≡ Ok (front, rest)
uri_taken previous s front rest ends is below = uri_by previous ends s ∙ told_some (uri_above previous).value (field (plain Uri) ends s) front rest front is (rw below refl)

pub uri_refused : (previous s front rest : List ℕ) (ends : ℕ) → field (plain Uri) ends s ≡ Ok (front, rest) → is_below previous front ≡ false
    → field (uri_above previous) ends s ≡ Err (length rest + 1)
uri_refused previous s front rest ends is below = uri_by previous ends s ∙ told_none (uri_above previous).value (field (plain Uri) ends s) front rest is (rw below refl)

pub ruleset opening_steps = (session_by, serial_by)

-- ---- the bytes of a field are of its alphabet

pub plain_all : (a : Alphabet) (ends : ℕ) (s front rest : List ℕ) → field (plain a) ends s ≡ Ok (front, rest) → list_all (has a) front ≡ true
unfolding field
plain_all a ends s front rest h =
    let parts = closed_ok ends (Some (take (prefix_len (has a) s) s)) (drop (prefix_len (has a) s) s) front rest h in
    let same : take (prefix_len (has a) s) s ≡ front = (let e = parts.0 in cc e) in
    rw (← same) (front_all (has a) s)

small : (a : Alphabet) (b : ℕ) → has a b ≡ true → b < 128
small Uri b h = grind (arith, nat_tests)
small Hex b h = grind (arith, nat_tests)
small Digit b h = grind (arith, nat_tests)
small Session b h = grind (arith, nat_tests)
small Base64 b h = grind (arith, nat_tests)

pub alphabet_ascii : (a : Alphabet) (s : List ℕ) → list_all (has a) s ≡ true → IsAscii s
alphabet_ascii a [] h = IsAscii-nil
alphabet_ascii a (b ∷ s) h = let parts = and_parts (has a b) (list_all (has a) s) h in IsAscii-cons b s (small a b parts.0) (alphabet_ascii a s parts.1)

pub alphabet_utf8 : (a : Alphabet) (s : List ℕ) → list_all (has a) s ≡ true → IsUtf8 s
alphabet_utf8 a s h = IsUtf8-from_ascii s (alphabet_ascii a s h)

digits_ascii : IsAscii lower_digits
digits_ascii = IsAscii-from_reads lower_digits 16 (omega arith) (λ k lt. ltb-true (get_or lower_digits k 0) 128 (all_below_at (λ j. nat_lt (get_or lower_digits j 0) 128) 16 k refl lt))

-- the digits of a hash are text
pub digits_utf8 : (bytes : List ℕ) → IsUtf8 (encode_lower bytes)
digits_utf8 bytes = IsUtf8-from_ascii (encode_lower bytes) (IsAscii-encode_with lower_digits bytes digits_ascii)
