-- Numbers and addresses at the front of a text.
use Rattle.std.proofs.Common.{◌≡◌, ℕ, zero, suc, lit<, ◌+◌, ◌-◌, ◌*◌, ◌<◌, ◌≤◌, ◌^◌, List, [], ◌∷◌, ◌++◌, take, length, get_or, refl, sym, ap, ◌∙◌, arith, decimal, append_assoc, append-nil, false, Option, Some, inl}
use Rattle.std.proofs.lemmas.Fmt.{decimal-digits_value}
use Rattle.std.proofs.lemmas.Int.Digits.{digits_more, digits_value_more}
use Rattle.std.proofs.lemmas.List.{nil_from_length}
use Rattle.std.proofs.lemmas.Nat.{be_bytes_4}
use Rattle.std.proofs.lemmas.Str.{digit_value_digit}
use Rattle.std.proofs.lemmas.Str.Parse.{IsNumeralModel}
use Rattle.std.specs.Int.{w32, to_be_bytes, from_be_bytes}
use Rattle.std.specs.Net.Text.{dotted_text, ipv4_text}
use Rattle.std.specs.Str.Parse.{AllDigits, digits_value}
use Rattle.ip_text.specs.Number.{IsDecimalText}
use Rattle.origins.specs.inner.Quick.{BeginsWith, BeginsWithAddress, BeginsWithLengths}
use Rattle.origins.specs.Text.{IsOriginText}

-- the first digits are read to their number
pub record HasRead (text : List ℕ) (index read value : ℕ) : Type 0 where
  pub same : index ≡ read
  pub digits : AllDigits 10 (take read text)
  pub value_is : value ≡ digits_value 10 (take read text)
  pub fits : value < 2 ^ 32

-- one digit more
pub read_more : (text : List ℕ) (index read value byte digit more : ℕ) → index < length text → byte ≡ get_or text index 0
    → (48 ≤ byte) × (byte ≤ 57) → digit ≡ byte - 48 → more ≡ value * 10 + digit → more < 2 ^ 32 → HasRead text index read value
    → HasRead text (index + 1) (read + 1) more
read_more text index read value byte digit more within at is digit_is more_is small so_far =
    let inside : read < length text = omega (arith, so_far.same) in
    let here : byte ≡ get_or text read 0 = rw (← so_far.same) at in
    let digit_at : (48 ≤ get_or text read 0) × (get_or text read 0 ≤ 57) = rw (← here) is in
    let worth = digit_value_digit (get_or text read 0) digit_at in
    record {
      same = omega (arith, so_far.same);
      digits = digits_more 10 text read inside so_far.digits (omega (arith, worth, digit_at));
      value_is = omega (arith, digits_value_more 10 text read inside, so_far.value_is, worth, here, digit_is, more_is);
      fits = small;
    }

digits_own : IsNumeralModel (AllDigits 10) (digits_value 10)
digits_own = record { to = λ ds h. h; from = λ ds h. h; same = λ ds h. refl }

-- digits with no zero in front are what is printed of their number
printed : (digits : List ℕ) (n : ℕ) → IsDecimalText digits n → n < 2 ^ 64 → digits ≡ decimal n
printed digits n is small =
    sym (decimal-digits_value digits_own digits is.digits.1 is.digits.0 is.no_zero_first (omega (arith, is.value))) ∙ ap decimal (sym is.value)

-- a number, and a mark behind it
pub octet_begins : (text rest behind : List ℕ) (n octet mark : ℕ) → octet ≡ n → BeginsWith text n rest → rest ≡ mark ∷ behind
    → text ≡ decimal octet ++ (mark ∷ behind)
octet_begins text rest behind n octet mark same begins follows =
    rw (same, ← printed begins.digits n begins.written (omega (arith, begins.fits)), ← follows) begins.spelled

within_four : (a b c d i : ℕ) → a < 256 → b < 256 → c < 256 → d < 256 → get_or (a ∷ b ∷ c ∷ d ∷ []) i 0 < 256
within_four a b c d zero p q r s = p
within_four a b c d (suc zero) p q r s = q
within_four a b c d (suc (suc zero)) p q r s = r
within_four a b c d (suc (suc (suc zero))) p q r s = s
within_four a b c d (suc (suc (suc (suc i)))) p q r s = lit< tt

regrouped : (a b c d rest : List ℕ) → a ++ (46 ∷ (b ++ (46 ∷ (c ++ (46 ∷ (d ++ (47 ∷ rest)))))))
    ≡ (a ++ (46 ∷ []) ++ b ++ (46 ∷ []) ++ c ++ (46 ∷ []) ++ d) ++ (47 ∷ []) ++ rest
regrouped a b c d rest = simp append_assoc

-- four numbers of a byte each, with dots between them and a slash behind
pub address_begins : (text r1 r2 r3 rest : List ℕ) (a b c d address : ℕ) → (a < 256) × (b < 256) × (c < 256) × (d < 256)
    → text ≡ decimal a ++ (46 ∷ r1) → r1 ≡ decimal b ++ (46 ∷ r2) → r2 ≡ decimal c ++ (46 ∷ r3) → r3 ≡ decimal d ++ (47 ∷ rest)
    → address ≡ from_be_bytes w32 (a ∷ b ∷ c ∷ d ∷ []) → BeginsWithAddress text address rest
address_begins text r1 r2 r3 rest a b c d address (p, q, r, s) e1 e2 e3 e4 is =
    let bytes : to_be_bytes w32 address ≡ a ∷ b ∷ c ∷ d ∷ [] = be_bytes_4 (a ∷ b ∷ c ∷ d ∷ []) address refl (λ i. within_four a b c d i p q r s) is in
    record {
      address_text = dotted_text a b c d;
      spelled = e1 ∙ rw (e2, e3, e4) (regrouped (decimal a) (decimal b) (decimal c) (decimal d) rest);
      address_is = (omega (arith, is), ap ipv4_text (sym bytes));
    }

hyphened : (len maximum behind : List ℕ) → len ++ (45 ∷ (maximum ++ behind)) ≡ (len ++ (45 ∷ []) ++ maximum) ++ behind
hyphened len maximum behind = simp append_assoc

-- a length, a hyphen and a maximum
pub lengths_begin : (text rest digits behind : List ℕ) (len maximum told : ℕ) → BeginsWith text len rest → rest ≡ 45 ∷ digits → BeginsWith digits maximum behind
    → told ≡ maximum → BeginsWithLengths text len (Some told) behind
lengths_begin text rest digits behind len maximum told len_is hyphen maximum_is same = record {
  lengths_text = len_is.digits ++ (45 ∷ []) ++ maximum_is.digits;
  maximum = Some maximum;
  spelled = len_is.spelled ∙ (ap (λ t. len_is.digits ++ t) (hyphen ∙ ap (λ t. 45 ∷ t) maximum_is.spelled) ∙ hyphened len_is.digits maximum_is.digits behind);
  written = (len_is.digits, maximum_is.digits, refl, len_is.written, maximum_is.written);
  maximum_told = ap Some (omega (arith, same, maximum_is.fits));
}

joined : (a l d : List ℕ) → a ++ (47 ∷ []) ++ (l ++ (32 ∷ 61 ∷ 62 ∷ 32 ∷ d)) ≡ (a ++ (47 ∷ []) ++ l) ++ (32 ∷ []) ++ (61 ∷ 62 ∷ []) ++ (32 ∷ []) ++ d
joined a l d = simp append_assoc

all_of : (text digits : List ℕ) → text ≡ digits ++ [] → text ≡ digits
all_of text digits e = e ∙ append-nil digits

-- an address and its lengths, an arrow between blanks, and an AS number to the end
pub origin_begins : (text r1 r2 r3 rest : List ℕ) (address len asn : ℕ) (told : Option ℕ) (a : BeginsWithAddress text address r1) (l : BeginsWithLengths r1 len told r2)
    → r2 ≡ 32 ∷ 61 ∷ 62 ∷ 32 ∷ r3 → BeginsWith r3 asn rest → length rest ≡ 0 → len ≤ 32
    → IsOriginText text (record { v6 = false; address = address; len = len; maximum = l.maximum; asn = asn })
origin_begins text r1 r2 r3 rest address len asn told a l arrow n none short =
    let over : rest ≡ [] = nil_from_length rest none in
    let digits : r3 ≡ n.digits = all_of r3 n.digits (n.spelled ∙ ap (λ t. n.digits ++ t) over) in
    record {
      prefix_text = a.address_text ++ (47 ∷ []) ++ l.lengths_text;
      blanks_before = 32 ∷ [];
      blanks_after = 32 ∷ [];
      asn_text = n.digits;
      spelled = a.spelled ∙ (ap (λ t. a.address_text ++ (47 ∷ []) ++ t) (l.spelled ∙ ap (λ t. l.lengths_text ++ t) (arrow ∙ ap (λ t. 32 ∷ 61 ∷ 62 ∷ 32 ∷ t) digits)) ∙ joined a.address_text l.lengths_text n.digits);
      prefix_is = record {
        address_text = a.address_text;
        lengths_text = l.lengths_text;
        spelled = refl;
        address_is = a.address_is;
        lengths_are = l.written;
        short = short;
      };
      before = (inl refl, tt);
      after = (inl refl, tt);
      asn_is = record { fits = n.fits; spelled = inl n.written };
    }
