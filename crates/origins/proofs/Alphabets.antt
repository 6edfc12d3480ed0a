-- The bytes that the pieces of an origin's text are made of.
use Rattle.std.proofs.Common.{◌≡◌, ◌≢◌, ℕ, zero, suc, lit<, lit≤, ◌^◌, ◌<◌, ◌≤◌, Bool, true, false, List, [], ◌∷◌, ◌++◌, get_or, ap, arith, inl, inr}
use Rattle.std.proofs.lemmas.Bool.Decides.{nat_tests}
use Rattle.std.proofs.lemmas.List.Elements.{recursion_from_All}
use Rattle.std.proofs.lemmas.Str.Parse.{digit_from_value}
use Rattle.std.proofs.NetLemmas.Alphabet.{IsDigitOrDot, All-ipv4_text}
use Rattle.std.specs.Char.{to_ascii_lowercase, digit_value}
use Rattle.std.specs.Int.{w32, to_be_bytes}
use Rattle.std.specs.List.{AllByRecursion}
use Rattle.std.specs.Str.Parse.{AllDigits}
use Rattle.ip_text.specs.Number.{IsDecimalText, IsAsMark, IsAsNumberText}
use Rattle.ip_text.specs.Ipv4.{dotted}
use Rattle.ip_text.specs.laws.Ipv6Laws.{each_group_byte}
use Rattle.origins.specs.inner.Fronts.{is_blank, is_none_of, Passes, Stops}
use Rattle.origins.specs.Text.{IsAddressText}

-- what passes digits passes decimal numbers
pub passes_digits : (p : ℕ → Bool) → ((c : ℕ) → 48 ≤ c → c ≤ 57 → p c ≡ true) → (ds : List ℕ) → AllDigits 10 ds → Passes p ds
passes_digits p h [] all = tt
passes_digits p h (c ∷ cs) all =
    let digit = digit_from_value c all.0 in
    (h c digit.0 digit.1, passes_digits p h cs all.1)

pub passes_decimal : (p : ℕ → Bool) → ((c : ℕ) → 48 ≤ c → c ≤ 57 → p c ≡ true) → (text : List ℕ) (n : ℕ) → IsDecimalText text n → Passes p text
passes_decimal p h text n is = passes_digits p h text is.digits.1

-- a byte of an address
abbrev pub IsAddressByte : ℕ → Type 0
IsAddressByte c = (46 ≤ c) × (c ≢ 47) × (c ≢ 61)

passes_each : (p : ℕ → Bool) → ((c : ℕ) → IsAddressByte c → p c ≡ true) → (bs : List ℕ) → AllByRecursion IsDigitOrDot bs → Passes p bs
passes_each p h [] all = tt
passes_each p h (c ∷ bs) all = (
  elim all.0 [
    | inl digit ↦ h c (omega arith, (λ (e : c ≡ 47). omega arith), (λ (e : c ≡ 61). omega arith))
    | inr dot ↦ h c (omega arith, (λ (e : c ≡ 47). omega arith), (λ (e : c ≡ 61). omega arith))
  ],
  passes_each p h bs all.1,
)

bytes_fit : (n k : ℕ) → get_or (to_be_bytes w32 n) k 0 < 2 ^ 8
bytes_fit n zero = omega arith
bytes_fit n (suc zero) = omega arith
bytes_fit n (suc (suc zero)) = omega arith
bytes_fit n (suc (suc (suc zero))) = omega arith
bytes_fit n (suc (suc (suc (suc k)))) = lit< tt

hex_low : (c : ℕ) → digit_value c < 16 → 46 ≤ c
hex_low c hex = grind (arith, nat_tests)

hex_other : (d c : ℕ) → digit_value c < 16 → 16 ≤ digit_value d → c ≢ d
hex_other d c hex other e = let same : digit_value c ≡ digit_value d = ap digit_value e in omega arith

hex_is_address : (c : ℕ) → digit_value c < 16 → IsAddressByte c
hex_is_address c hex = (hex_low c hex, hex_other 47 c hex (lit≤ tt), hex_other 61 c hex (lit≤ tt))

colon_is_address : IsAddressByte 58
colon_is_address = (lit≤ tt, (λ (e : 58 ≡ 47). omega arith), (λ (e : 58 ≡ 61). omega arith))

pub passes_address : (p : ℕ → Bool) → ((c : ℕ) → IsAddressByte c → p c ≡ true) → (text : List ℕ) (v6 : Bool) (address : ℕ) → IsAddressText text v6 address → Passes p text
passes_address p h text false address is =
    rw is.1 (passes_each p h (dotted address) (recursion_from_All IsDigitOrDot _ (All-ipv4_text (to_be_bytes w32 address) (bytes_fit address))))
passes_address p h text true address is =
    each_group_byte (λ c. p c ≡ true) (λ c hex. h c (hex_is_address c hex)) (h 58 colon_is_address) text is.groups is.spelled

-- digits, and bytes of an address, are no hyphen, slash, blank or equals sign
pub digit_no_hyphen : (c : ℕ) → 48 ≤ c → c ≤ 57 → is_none_of (45 ∷ []) c ≡ true
digit_no_hyphen c low high = grind (arith, nat_tests)

pub digit_in_word : (c : ℕ) → 48 ≤ c → c ≤ 57 → is_none_of (32 ∷ 9 ∷ 61 ∷ []) c ≡ true
digit_in_word c low high = grind (arith, nat_tests)

pub address_no_slash : (c : ℕ) → IsAddressByte c → is_none_of (47 ∷ []) c ≡ true
address_no_slash c h = let other = h.1 in grind (arith, nat_tests)

pub address_in_word : (c : ℕ) → IsAddressByte c → is_none_of (32 ∷ 9 ∷ 61 ∷ []) c ≡ true
address_in_word c h = let low = h.0 in let other = h.2 in grind (arith, nat_tests)

word_no_blank : (c : ℕ) → is_none_of (32 ∷ 9 ∷ 61 ∷ []) c ≡ true → is_blank c ≡ false
word_no_blank c h = grind (arith, nat_tests)

decimal_stops : (text : List ℕ) → Passes (λ c. is_none_of (32 ∷ 9 ∷ 61 ∷ []) c) text → Stops is_blank text
decimal_stops [] h = tt
decimal_stops (c ∷ cs) h = word_no_blank c h.0

letter_no_blank : (c : ℕ) → to_ascii_lowercase c ≡ 97 → is_blank c ≡ false
letter_no_blank c h = grind (arith, nat_tests)

mark_stops : (mark digits : List ℕ) → IsAsMark mark → Stops is_blank (mark ++ digits)
mark_stops [] digits is = absurd cc
mark_stops (a ∷ rest) digits is = let first : to_ascii_lowercase a ≡ 97 = cc in letter_no_blank a first

-- an AS number begins with no blank
pub as_number_stops : (text : List ℕ) (n : ℕ) → IsAsNumberText text n → Stops is_blank text
as_number_stops text n number = elim number.spelled [
  | inl bare ↦ decimal_stops text (passes_decimal _ digit_in_word text n bare)
  | inr (mark, digits, is, e, _) ↦ rw e (mark_stops mark digits is)
]
