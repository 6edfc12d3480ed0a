-- The fields of RRDP's texts are fields.
use Rattle.std.proofs.Common.{◌≡◌, ℕ, zero, suc, ◌+◌, ◌*◌, ◌/◌, ◌%◌, ◌^◌, ◌<◌, Bool, true, false, not, ◌==◌, ◌&&◌, ◌||◌, List, [], ◌∷◌, ◌++◌, length, slice_index, inl, inr, Result, Ok, Err, Option, Some, None, refl, sym, ap, ◌∙◌, arith, if◌then◌else◌, replicate, rules, ◌-◌}
use Rattle.std.specs.Prelude.{decimal, nat_lt, option_and_then}
use Rattle.std.specs.List.{list_all}
use Rattle.std.specs.Result.{result_ok}
use Rattle.std.specs.Str.{bytes_eq}
use Rattle.std.specs.Str.Parse.{digits_value}
use Rattle.std.proofs.lemmas.Bool.{cases_Bool, eqb-true, eq-eqb, and_parts, and_from, lt-ltb, ltb-true}
use Rattle.std.proofs.lemmas.Bool.Decides.{nat_tests}
use Rattle.std.proofs.lemmas.Slice.Eq.{bytes_eq-Decides}
use Rattle.std.proofs.lemmas.Str.Parse.{IsNumeralModel, numerals_by_fold}
use Rattle.std.proofs.lemmas.Fmt.{digits_decimal, digits_value-decimal, decimal-digits_value, decimal_nonempty, first_decimal, decimal_digit}
use Rattle.base64.specs.GeneralPurpose.{decode_of, IsBytes, engine_symbols}
use Rattle.base64.specs.Engines.{standard}
use Rattle.base64.specs.Rfc4648.{encode_symbols, padding_len}
use Rattle.base64.proofs.EngineFacts.{decode_of-encode_of, decode_of_strict}
use Rattle.base64.proofs.Tables.{all_below_at}
use Rattle.hex.specs.Hex.{encode_with, encode_lower, lower_digits, decode_of as hex_decode_of, IsBytes as IsHexBytes}
use Rattle.hex.proofs.HexLemmas.{decode_of-encode_lower, decode_of-ok, length-encode_with}
use Rattle.uuid.specs.Text.{parsed_simple, digits_of, has_hyphens, is_hex_digit, value_of, byte_of_digits, by_index, hyphenated_text, lower, parsed, hex_digit, nibble, digit_place, is_hyphen_place}
use Rattle.uuid.proofs.TextLemmas.{nibble_small, by_index_length, by_index_at}
use Rattle.uuid.proofs.RoundTrips.{parses_hyphenated}
use Rattle.rrdp_text.specs.Fields.{is_digit, is_hex, is_uri_byte, is_base64_byte, is_below, spelled_so, uri_above, hash, serial, session, content}
use Rattle.rrdp_text.specs.Values.{IsHash, IsUuid}
use Rattle.rrdp_text.proofs.FieldLaws.{IsField}
use Rattle.rrdp_text.proofs.Decoded.{decoded_bytes_small}

-- ---- bytes that may stand there

all_append : (p : ℕ → Bool) (xs ys : List ℕ) → list_all p xs ≡ true → list_all p ys ≡ true → list_all p (xs ++ ys) ≡ true
all_append p [] ys a b = b
all_append p (x ∷ xs) ys a b =
    let parts = and_parts (p x) (list_all p xs) a in
    and_from (p x) (list_all p (xs ++ ys)) parts.0 (all_append p xs ys parts.1 b)

all_cons : (p : ℕ → Bool) (x : ℕ) (xs : List ℕ) → p x ≡ true → list_all p xs ≡ true → list_all p (x ∷ xs) ≡ true
all_cons p x xs a b = and_from (p x) (list_all p xs) a b

-- a digit of a table of sixteen
hex_symbol : (d : ℕ) → d < 16 → is_hex (slice_index lower_digits d) ≡ true
hex_symbol d small = all_below_at (λ k. is_hex (slice_index lower_digits k)) 16 d refl small

all_two : (p : ℕ → Bool) (w x : ℕ) (rest : List ℕ) → p w ≡ true → p x ≡ true → list_all p rest ≡ true → list_all p (w ∷ x ∷ rest) ≡ true
all_two p w x rest a b c = all_cons p w (x ∷ rest) a (all_cons p x rest b c)

all_hex : (xs : List ℕ) → IsHexBytes xs → list_all is_hex (encode_with lower_digits xs) ≡ true
unfolding encode_with
all_hex [] bytes = refl
all_hex (b ∷ rest) bytes =
    let small : b < 256 = bytes 0 in
    all_two is_hex (slice_index lower_digits (b / 16)) (slice_index lower_digits (b % 16)) (encode_with lower_digits rest)
    (hex_symbol (b / 16) (omega arith)) (hex_symbol (b % 16) (omega arith)) (all_hex rest (λ k. bytes (suc k)))

base64_symbol : (k : ℕ) → k < 64 → is_base64_byte (slice_index (engine_symbols standard) k) ≡ true
base64_symbol k small = all_below_at (λ j. is_base64_byte (slice_index (engine_symbols standard) j)) 64 k refl small

abbrev symbol : ℕ → ℕ
symbol k = slice_index (engine_symbols standard) k

all_symbols : (xs : List ℕ) → IsBytes xs → list_all is_base64_byte (encode_symbols (engine_symbols standard) xs) ≡ true
unfolding encode_symbols
all_symbols [] bytes = refl
all_symbols (a ∷ []) bytes =
    let sa : a < 256 = bytes 0 in
    all_two is_base64_byte (symbol (a / 4)) (symbol (a % 4 * 16)) [] (base64_symbol (a / 4) (omega arith)) (base64_symbol (a % 4 * 16) (omega arith)) refl
all_symbols (a ∷ b ∷ []) bytes =
    let sa : a < 256 = bytes 0 in
    let sb : b < 256 = bytes 1 in
    all_two is_base64_byte (symbol (a / 4)) (symbol (a % 4 * 16 + b / 16)) (symbol (b % 16 * 4) ∷ [])
    (base64_symbol (a / 4) (omega arith)) (base64_symbol (a % 4 * 16 + b / 16) (omega arith))
    (all_cons is_base64_byte (symbol (b % 16 * 4)) [] (base64_symbol (b % 16 * 4) (omega arith)) refl)
all_symbols (a ∷ b ∷ c ∷ rest) bytes =
    let sa : a < 256 = bytes 0 in
    let sb : b < 256 = bytes 1 in
    let sc : c < 256 = bytes 2 in
    all_two is_base64_byte (symbol (a / 4)) (symbol (a % 4 * 16 + b / 16)) (symbol (b % 16 * 4 + c / 64) ∷ symbol (c % 64) ∷ encode_symbols (engine_symbols standard) rest)
    (base64_symbol (a / 4) (omega arith)) (base64_symbol (a % 4 * 16 + b / 16) (omega arith))
    (all_two is_base64_byte (symbol (b % 16 * 4 + c / 64)) (symbol (c % 64)) (encode_symbols (engine_symbols standard) rest)
    (base64_symbol (b % 16 * 4 + c / 64) (omega arith)) (base64_symbol (c % 64) (omega arith)) (all_symbols rest (λ k. bytes (suc (suc (suc k))))))

all_padding : (n : ℕ) → list_all is_base64_byte (replicate n 61) ≡ true
all_padding zero = refl
all_padding (suc n) = all_padding n

all_by_index : (p : ℕ → Bool) (n : ℕ) (f : ℕ → ℕ) → ((k : ℕ) → p (f k) ≡ true) → list_all p (by_index n f) ≡ true
unfolding by_index
all_by_index p zero f each = refl
all_by_index p (suc n) f each = all_append p (by_index n f) (f n ∷ []) (all_by_index p n f each) (all_cons p (f n) [] (each n) refl)

session_symbol : (d : ℕ) → d < 16 → (is_hex (hex_digit lower d) || (hex_digit lower d == 45)) ≡ true
session_symbol d small = all_below_at (λ k. is_hex (hex_digit lower k) || (hex_digit lower k == 45)) 16 d refl small

-- ---- spelled so and no other way

spelled_so-again : {A : Type 0} (spelled : A → List ℕ) (a : A) → spelled_so spelled (spelled a) a ≡ Some a
spelled_so-again spelled a = rw ((bytes_eq-Decides (spelled a) (spelled a)).1 refl) refl

spelled_so-taken : {A : Type 0} (spelled : A → List ℕ) (bytes : List ℕ) (a b : A) → spelled_so spelled bytes a ≡ Some b → (a ≡ b) × (bytes ≡ spelled b)
spelled_so-taken spelled bytes a b h = elim (cases_Bool (bytes_eq (spelled a) bytes)) [
  | inl is ↦
      let same : a ≡ b = (let e = rw is at h in cc e) in
      (same, sym ((bytes_eq-Decides (spelled a) bytes).0 is) ∙ ap spelled same)
  | inr isnt ↦ let e = rw isnt at h in cc e
]

-- ---- the fields

-- a URI that may stand behind another one
pub record IsUriAbove (previous uri : List ℕ) : Type 0 where
  pub above : is_below previous uri ≡ true
  pub bytes : list_all is_uri_byte uri ≡ true

pub uri_field : (previous : List ℕ) → IsField (IsUriAbove previous) (uri_above previous)
uri_field previous = record {
  within = λ uri good. good.bytes;
  again = λ uri good. rw good.above refl;
  taken = λ bytes uri all h. elim (cases_Bool (is_below previous bytes)) [
    | inl is ↦
        let same : bytes ≡ uri = (let e = rw is at h in cc e) in
        (record { above = rw (← same) is; bytes = rw (← same) all }, same)
    | inr isnt ↦ let e = rw isnt at h in cc e
  ];
}

guarded : {A : Type 0} (test : Bool) (o : Option A) (a : A) → (if test then o else None) ≡ Some a → (test ≡ true) × (o ≡ Some a)
guarded true o a h = (refl, h)
guarded false o a h = cc h

from_ok : {A E : Type 0} (r : Result A E) (a : A) → result_ok r ≡ Some a → r ≡ Ok a
from_ok (Ok x) a h = let e : x ≡ a = cc h in ap Ok e
from_ok (Err e) a h = cc h

then_some : {A : Type 0} (o : Option A) (f : A → Option A) (b : A) → option_and_then f o ≡ Some b → (a : A) × (o ≡ Some a) × (f a ≡ Some b)
then_some (Some a) f b h = (a, refl, h)
then_some None f b h = cc h

kept_guard : {A : Type 0} (n size : ℕ) (o : Option A) (f : A → Option A) (a b : A) → n ≡ size → o ≡ Some a → f a ≡ Some b
    → (if n == size then option_and_then f o else None) ≡ Some b
kept_guard n size o f a b long is told = rw (eq-eqb n size long, is) told

pub hash_field : IsField IsHash hash
hash_field = record {
  within = λ h good. all_hex h good.bytes;
  again = λ h good.
      let size : length (encode_lower h) ≡ 64 = omega (arith, length-encode_with lower_digits h, good.size) in
      kept_guard (length (encode_lower h)) 64 (result_ok (hex_decode_of (encode_lower h))) (spelled_so encode_lower (encode_lower h)) h h size
      (ap result_ok (decode_of-encode_lower h good.bytes)) (spelled_so-again encode_lower h);
  taken = λ bytes h all e.
      let guard = guarded (length bytes == 64) _ h e in
      let inner = then_some (result_ok (hex_decode_of bytes)) (spelled_so encode_lower bytes) h guard.1 in
      let told = spelled_so-taken encode_lower bytes inner.0 h inner.2 in
      let ok = decode_of-ok bytes h (from_ok (hex_decode_of bytes) h (inner.1 ∙ ap Some told.0)) in
      let long = eqb-true (length bytes) 64 guard.0 in
      (record { size = omega (arith, ok.2, long); bytes = ok.3 }, told.1);
}

read_on : ℕ → List ℕ → ℕ
read_on n [] = n
read_on n (c ∷ cs) = read_on (n * 10 + (c - 48)) cs

decimals : IsNumeralModel (λ ds. list_all is_digit ds ≡ true) (read_on 0)
unfolding read_on
decimals = numerals_by_fold (λ ds. list_all is_digit ds ≡ true) (search rules) read_on (search rules)

-- the digits of numerals
pub numerals : IsNumeralModel (λ ds. list_all is_digit ds ≡ true) (digits_value 10)
numerals = record { to = decimals.to; from = decimals.from; same = λ ds all. refl }

pub stands : (n : ℕ) → 0 < n → not (n == 0) ≡ true
stands n h = grind (arith, nat_tests)

pub stands_from : (n : ℕ) → not (n == 0) ≡ true → 0 < n
stands_from n h = grind (arith, nat_tests)

pub alone_from : (b n : ℕ) → (b ≡ 48 → n ≡ 1) → (not (b == 48) || (n == 1)) ≡ true
alone_from b n h = elim (cases_Bool (b == 48)) [
  | inl is ↦ let one = h (eqb-true b 48 is) in rw (is, one) refl
  | inr isnt ↦ rw isnt refl
]

alone : (b n : ℕ) → (not (b == 48) || (n == 1)) ≡ true → b ≡ 48 → n ≡ 1
alone b n h e = eqb-true n 1 (rw (eq-eqb b 48 e) at h)

zero_alone : (n : ℕ) → n < 2 ^ 64 → slice_index (decimal n) 0 ≡ 48 → length (decimal n) ≡ 1
zero_alone zero small h = ap length (decimal_digit 0 (omega arith))
zero_alone (suc n) small h = let first = first_decimal (suc n) (omega arith) small in absurd (omega (arith, first, h))

pub kept_number : (a b c : Bool) (v n : ℕ) → a ≡ true → b ≡ true → c ≡ true → v ≡ n → (if a && b && c then Some v else None) ≡ Some n
kept_number a b c v n ha hb hc same = rw (ha, hb, hc, same) refl

pub serial_field : IsField (λ n. n < 2 ^ 64) serial
serial_field = record {
  within = λ n good. digits_decimal numerals n good;
  again = λ n good.
      let text = decimal n in
      let some = decimal_nonempty n good in
      let value : digits_value 10 text ≡ n = digits_value-decimal numerals n good in
      let not_empty : not (length text == 0) ≡ true = stands (length text) some in
      let no_zero = alone_from (slice_index text 0) (length text) (zero_alone n good) in
      let fits : nat_lt (digits_value 10 text) (2 ^ 64) ≡ true = rw value (lt-ltb n (2 ^ 64) good) in
      kept_number (not (length text == 0)) (not (slice_index text 0 == 48) || (length text == 1)) (nat_lt (digits_value 10 text) (2 ^ 64)) (digits_value 10 text) n not_empty no_zero fits value;
  taken = λ bytes n all e.
      let guard = guarded (not (length bytes == 0) && (not (slice_index bytes 0 == 48) || (length bytes == 1)) && nat_lt (digits_value 10 bytes) (2 ^ 64)) (Some (digits_value 10 bytes)) n e in
      let tests = and_parts (not (length bytes == 0) && (not (slice_index bytes 0 == 48) || (length bytes == 1))) _ guard.0 in
      let fits : digits_value 10 bytes < 2 ^ 64 = ltb-true (digits_value 10 bytes) (2 ^ 64) tests.1 in
      let shape = and_parts (not (length bytes == 0)) (not (slice_index bytes 0 == 48) || (length bytes == 1)) tests.0 in
      let value : digits_value 10 bytes ≡ n = (let g = guard.1 in cc g) in
      let text = decimal-digits_value numerals bytes all (stands_from (length bytes) shape.0) (alone (slice_index bytes 0) (length bytes) shape.1) fits in
      (rw (← value) fits, sym text ∙ ap decimal value);
}

session_byte : (u : List ℕ) (k : ℕ) (at_hyphen : Bool)
    → (let b = if at_hyphen then 45 else hex_digit lower (nibble u (digit_place k)) in is_hex b || (b == 45)) ≡ true
session_byte u k true = refl
session_byte u k false = session_symbol (nibble u (digit_place k)) (nibble_small u (digit_place k))

digit_small : (c : ℕ) → is_hex_digit c ≡ true → value_of c < 16
digit_small c h = grind (arith, nat_tests)

all_at : (p : ℕ → Bool) (s : List ℕ) (k : ℕ) → list_all p s ≡ true → k < length s → p (slice_index s k) ≡ true
all_at p [] k h lt = absurd (omega arith)
all_at p (b ∷ s) zero h lt = (and_parts (p b) (list_all p s) h).0
all_at p (b ∷ s) (suc k) h lt = all_at p s k (and_parts (p b) (list_all p s) h).1 (omega arith)

uuid_read : (s u : List ℕ) → parsed s ≡ Some u → length s ≡ 36 → IsUuid u
uuid_read s u h long =
    let simple = guarded (has_hyphens s) (parsed_simple (digits_of s)) u (rw long at h) in
    let bytes = guarded ((length (digits_of s) == 32) && list_all is_hex_digit (digits_of s)) (Some (by_index 16 (byte_of_digits (digits_of s)))) u simple.1 in
    let parts = and_parts (length (digits_of s) == 32) (list_all is_hex_digit (digits_of s)) bytes.0 in
    let size : length (digits_of s) ≡ 32 = eqb-true (length (digits_of s)) 32 parts.0 in
    let is : by_index 16 (byte_of_digits (digits_of s)) ≡ u = (let e = bytes.1 in cc e) in
    let digit : (k : ℕ) → k < 32 → value_of (slice_index (digits_of s) k) < 16 =
    λ k lt. digit_small (slice_index (digits_of s) k) (all_at is_hex_digit (digits_of s) k parts.1 (rw size lt)) in
    let sixteen : length u ≡ 16 = ap length (sym is) ∙ by_index_length 16 (byte_of_digits (digits_of s)) in
    record {
      size = sixteen;
      bytes = λ k d lt.
          let within : k < 16 = omega (arith, sixteen, lt) in
          let at = by_index_at 16 (byte_of_digits (digits_of s)) k d within in
          let high = digit (2 * k) (omega arith) in
          let low = digit (2 * k + 1) (omega arith) in
          rw (← is, at) (omega (arith, high, low));
    }

pub session_field : IsField IsUuid session
session_field = record {
  within = λ u good. all_by_index session.allowed 36 _ (λ k. session_byte u k (is_hyphen_place k));
  again = λ u good. rw (sym (parses_hyphenated lower u (inl refl) good.size good.bytes)) (spelled_so-again (hyphenated_text lower) u);
  taken = λ bytes u all e.
      let inner = then_some (parsed bytes) (spelled_so (hyphenated_text lower) bytes) u e in
      let told = spelled_so-taken (hyphenated_text lower) bytes inner.0 u inner.2 in
      (uuid_read bytes u (inner.1 ∙ ap Some told.0) (ap length told.1 ∙ by_index_length 36 _), told.1);
}

allowed_byte : (b : ℕ) → is_base64_byte b ≡ true → b < 256
allowed_byte b h = grind (arith, nat_tests)

allowed_bytes : (s : List ℕ) → list_all is_base64_byte s ≡ true → IsBytes s
allowed_bytes [] h i = omega arith
allowed_bytes (b ∷ s) h zero = allowed_byte b (and_parts (is_base64_byte b) (list_all is_base64_byte s) h).0
allowed_bytes (b ∷ s) h (suc i) = allowed_bytes s (and_parts (is_base64_byte b) (list_all is_base64_byte s) h).1 i

pub content_field : IsField IsBytes content
content_field = record {
  within = λ b good. all_append is_base64_byte (encode_symbols (engine_symbols standard) b) (replicate (padding_len (length b)) 61) (all_symbols b good) (all_padding (padding_len (length b)));
  again = λ b good. rw (decode_of-encode_of standard b refl good) refl;
  taken = λ bytes b all e.
      let small = allowed_bytes bytes all in
      let ok = from_ok (decode_of standard bytes) b e in
      (decoded_bytes_small standard bytes b small ok, decode_of_strict standard bytes b (refl, refl) small ok);
}
