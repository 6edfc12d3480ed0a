-- Bytes that stand for themselves in a quoted text.
use Rattle.std.proofs.Common.{ℕ, suc, ◌≡◌, ◌≢◌, ◌≤◌, ◌<◌, ◌^◌, ◌/◌, ◌%◌, slice_index, Some, List, [], ◌∷◌, ◌++◌, Bool, true, false, true≢false, ◌&&◌, refl, sym, ◌∙◌, arith, ap, codes, decimal, append_assoc}
use Rattle.std.proofs.lemmas.Bool.Decides.{nat_tests}
use Rattle.std.specs.List.{AllPass, list_all}
use Rattle.std.specs.Char.{is_ascii_alphabetic}
use Rattle.std.specs.Str.Parse.{AllDigits}
use Rattle.std.proofs.lemmas.Fmt.{decimal_is_IsNumeral}
use Rattle.std.proofs.lemmas.Str.Parse.{digit_at}
use Rattle.hex.specs.Hex.{IsBytes, encode_lower, encode_with, hex_digit_value, lower_digits}
use Rattle.hex.proofs.HexLemmas.{IsDigits-lower_digits}
use Rattle.json.specs.Print.{escape_byte, escape}
use Rattle.json.proofs.Printed.Strings.{escape_byte_plain}
use Rattle.names.specs.Name.{is_name_byte}
use Rattle.std.specs.Fmt.{digits}
use Rattle.json_api.specs.Reply.{accepted_spelling, refusal_spelling}

name-quote : (c : ℕ) → is_name_byte c ≡ true → c ≢ 34
name-quote c h = grind (arith, nat_tests)

name-backslash : (c : ℕ) → is_name_byte c ≡ true → c ≢ 92
name-backslash c h = grind (arith, nat_tests)

name-graphic : (c : ℕ) → is_name_byte c ≡ true → 32 ≤ c
name-graphic c h = grind (arith, nat_tests)

-- a name's byte needs no escape
pub escape_byte-name : (c : ℕ) → is_name_byte c ≡ true → escape_byte c ≡ c ∷ []
escape_byte-name c h = escape_byte_plain c (name-quote c h) (name-backslash c h) (name-graphic c h)

pub escape-name : (s : List ℕ) → AllPass is_name_byte s → escape s ≡ s
escape-name [] h = refl
escape-name (c ∷ s) h =
    let first : is_name_byte c ≡ true = h 0 0 (omega arith) in
    let rest : AllPass is_name_byte s = λ k d lt. h (suc k) d (omega arith) in
    let e = escape-name s rest in
    rw (escape_byte-name c first) (ap (λ t. c ∷ t) e)

-- the pieces of an accepted reply, one after another
pub pieces-accepted : (old name digits : List ℕ)
    → old ++ codes "{\"authority\":\"" ++ name ++ codes "\",\"count\":" ++ digits ++ codes ",\"reply\":\"accepted\"}"
    ≡ old ++ (codes "{\"authority\":" ++ 34 ∷ (name ++ 34 ∷ []) ++ codes ",\"count\":" ++ digits ++ codes ",\"reply\":\"accepted\"}")
pieces-accepted old name digits = simp append_assoc

pub accepted_spelling-name : (old name : List ℕ) (count : ℕ) → AllPass is_name_byte name
    → old ++ codes "{\"authority\":\"" ++ name ++ codes "\",\"count\":" ++ decimal count ++ codes ",\"reply\":\"accepted\"}"
    ≡ old ++ accepted_spelling name count
accepted_spelling-name old name count plain = rw (escape-name name plain) (pieces-accepted old name (decimal count))

-- digits need no escape
pub escape-digits : (ds : List ℕ) → AllDigits 10 ds → escape ds ≡ ds
escape-digits [] h = refl
escape-digits (d ∷ ds) h =
    let first = digit_at (d ∷ ds) 0 h (omega arith) in
    let plain : escape_byte d ≡ d ∷ [] = escape_byte_plain d (λ e. omega (arith, first)) (λ e. omega (arith, first)) (omega (arith, first)) in
    rw plain (ap (λ t. d ∷ t) (escape-digits ds h.1))

pub escape-decimal : (n : ℕ) → n < 2 ^ 64 → escape (decimal n) ≡ decimal n
escape-decimal n fits = escape-digits (decimal n) (decimal_is_IsNumeral n fits).0.1

-- nor do those of hex texts
hex-digit : (c d : ℕ) → hex_digit_value c ≡ Some d → escape_byte c ≡ c ∷ []
hex-digit c d h = escape_byte_plain c (λ e. grind (arith, nat_tests)) (λ e. grind (arith, nat_tests)) (grind (arith, nat_tests))

pub escape-hex : (bytes : List ℕ) → IsBytes bytes → escape (encode_lower bytes) ≡ encode_lower bytes
unfolding encode_with
escape-hex [] fits = refl
escape-hex (b ∷ bytes) fits =
    let small : b < 256 = fits 0 in
    let high = IsDigits-lower_digits (b / 16) (omega (arith, small)) in
    let low = IsDigits-lower_digits (b % 16) (omega (arith, small)) in
    let first = hex-digit (slice_index lower_digits (b / 16)) (b / 16) high in
    let second = hex-digit (slice_index lower_digits (b % 16)) (b % 16) low in
    rw (first, second) (ap (λ t. slice_index lower_digits (b / 16) ∷ slice_index lower_digits (b % 16) ∷ t) (escape-hex bytes (λ k. fits (suc k))))

-- letters need no escape
letter : (c : ℕ) → is_ascii_alphabetic c ≡ true → escape_byte c ≡ c ∷ []
letter c h = escape_byte_plain c (λ e. grind (arith, nat_tests)) (λ e. grind (arith, nat_tests)) (grind (arith, nat_tests))

both : (a b : Bool) → (a && b) ≡ true → (a ≡ true) × (b ≡ true)
both true b h = (refl, h)
both false b h = absurd (true≢false (sym h))

pub escape-letters : (s : List ℕ) → list_all is_ascii_alphabetic s ≡ true → escape s ≡ s
escape-letters [] h = refl
escape-letters (c ∷ s) h =
    let parts = both (is_ascii_alphabetic c) (list_all is_ascii_alphabetic s) h in
    rw (letter c parts.0) (ap (λ t. c ∷ t) (escape-letters s parts.1))

escape-join : (a b : List ℕ) → escape (a ++ b) ≡ escape a ++ escape b
escape-join [] b = refl
escape-join (c ∷ a) b = ap (λ (t : List ℕ). escape_byte c ++ t) (escape-join a b) ∙ sym (append_assoc (escape_byte c) (escape a) (escape b))

escape-blank : escape (codes " ") ≡ codes " "
unfolding escape_byte
escape-blank = refl

pub escape-two : (held needed : ℕ) → held < 2 ^ 64 → needed < 2 ^ 64 → escape (decimal held ++ codes " " ++ decimal needed) ≡ decimal held ++ codes " " ++ decimal needed
escape-two held needed held_fits needed_fits =
    escape-join (decimal held ++ codes " ") (decimal needed)
    ∙ ap (λ (t : List ℕ). t ++ escape (decimal needed))
    (escape-join (decimal held) (codes " ")
    ∙ ap (λ (t : List ℕ). t ++ escape (codes " ")) (escape-decimal held held_fits)
    ∙ ap (λ (t : List ℕ). decimal held ++ t) escape-blank)
    ∙ ap (λ (t : List ℕ). decimal held ++ codes " " ++ t) (escape-decimal needed needed_fits)

regroup : (old a code b detail m refused e q : List ℕ)
    → old ++ a ++ code ++ (b ++ q) ++ detail ++ (q ++ (m ++ q)) ++ refused ++ (q ++ e)
    ≡ old ++ (a ++ code ++ b ++ (q ++ (detail ++ q)) ++ m ++ (q ++ (refused ++ q)) ++ e)
regroup old a code b detail m refused e q = simp append_assoc

pieces : (old code detail refused : List ℕ)
    → old ++ codes "{\"code\":" ++ code ++ codes ",\"detail\":\"" ++ detail ++ codes "\",\"refused\":\"" ++ refused ++ codes "\"}"
    ≡ old ++ (codes "{\"code\":" ++ code ++ codes ",\"detail\":" ++ 34 ∷ (detail ++ 34 ∷ []) ++ codes ",\"refused\":" ++ 34 ∷ (refused ++ 34 ∷ []) ++ codes "}")
pieces old code detail refused = regroup old (codes "{\"code\":") code (codes ",\"detail\":") detail (codes ",\"refused\":") refused (codes "}") (34 ∷ [])

-- a refusal whose detail and name need no escape, piece by piece
pub refusal_spelling-plain : (old : List ℕ) (code : ℕ) (detail refused : List ℕ) → escape detail ≡ detail → escape refused ≡ refused
    → old ++ codes "{\"code\":" ++ decimal code ++ codes ",\"detail\":\"" ++ detail ++ codes "\",\"refused\":\"" ++ refused ++ codes "\"}"
    ≡ old ++ refusal_spelling code detail refused
refusal_spelling-plain old code detail refused d r = rw (d, r) (pieces old (decimal code) detail refused)
