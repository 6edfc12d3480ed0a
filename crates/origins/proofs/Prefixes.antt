-- An address, and the lengths after a slash.
use Rattle.std.proofs.Common.{◌≡◌, ℕ, ◌≤◌, ◌<◌, ◌^◌, Some, None, Bool, true, false, List, [], ◌∷◌, ◌++◌, take, drop, Option, refl, sym, ap, ◌∙◌, append_assoc}
use Rattle.std.specs.List.{prefix_len}
use Rattle.ip_text.specs.laws.Ipv4Laws.{one_ipv4}
use Rattle.ip_text.specs.laws.Ipv6Laws.{one_ipv6, one_family}
use Rattle.origins.specs.Prefix.{address_bits}
use Rattle.origins.specs.inner.Fronts.{is_none_of, Passes}
use Rattle.origins.specs.Text.{IsAddressText, IsLengthsText, IsPrefixText}
use Rattle.origins.proofs.FrontLemmas.{front_is, back_is, front_and_back, passes_append}
use Rattle.origins.proofs.Lengths.{same_lengths}
use Rattle.origins.proofs.Alphabets.{passes_address, passes_decimal, address_no_slash, address_in_word, digit_in_word}

abbrev no_slash : ℕ → Bool
no_slash = is_none_of (47 ∷ [])

abbrev pub before_slash : List ℕ → List ℕ
before_slash text = take (prefix_len (is_none_of (47 ∷ [])) text) text

abbrev pub from_slash : List ℕ → List ℕ
from_slash text = drop (prefix_len (is_none_of (47 ∷ [])) text) text

-- the two pieces, read from the left
pub record SplitPrefix (front back : List ℕ) (v6 : Bool) (address len : ℕ) (maximum : Option ℕ) : Type 0 where
  pub lengths : List ℕ
  pub back_is : back ≡ 47 ∷ lengths
  pub address_is : IsAddressText front v6 address
  pub lengths_are : IsLengthsText lengths len maximum
  pub short : len ≤ address_bits v6

pub prefix_split : (text : List ℕ) (v6 : Bool) (address len : ℕ) (maximum : Option ℕ) → IsPrefixText text v6 address len maximum
    → SplitPrefix (before_slash text) (from_slash text) v6 address len maximum
prefix_split text v6 address len maximum is =
    let whole : text ≡ is.address_text ++ (47 ∷ is.lengths_text) = is.spelled ∙ append_assoc is.address_text (47 ∷ []) is.lengths_text in
    let passes = passes_address no_slash address_no_slash is.address_text v6 address is.address_is in
    record {
      lengths = is.lengths_text;
      back_is = back_is no_slash text is.address_text (47 ∷ is.lengths_text) whole passes refl;
      address_is = rw (front_is no_slash text is.address_text (47 ∷ is.lengths_text) whole passes refl) is.address_is;
      lengths_are = is.lengths_are;
      short = is.short;
    }

pub prefix_join : (text : List ℕ) (v6 : Bool) (address len : ℕ) (maximum : Option ℕ) → SplitPrefix (before_slash text) (from_slash text) v6 address len maximum
    → IsPrefixText text v6 address len maximum
prefix_join text v6 address len maximum is = record {
  address_text = before_slash text;
  lengths_text = is.lengths;
  spelled = front_and_back no_slash text ∙ (ap (λ t. before_slash text ++ t) is.back_is ∙ sym (append_assoc (before_slash text) (47 ∷ []) is.lengths));
  address_is = is.address_is;
  lengths_are = is.lengths_are;
  short = is.short;
}

-- the lengths are what follows the slash
pub lengths_after : (front back lengths : List ℕ) (v6 : Bool) (address len : ℕ) (maximum : Option ℕ) → back ≡ 47 ∷ lengths
    → SplitPrefix front back v6 address len maximum → IsLengthsText lengths len maximum
lengths_after front back lengths v6 address len maximum e is =
    let same : lengths ≡ is.lengths = cc in rw same is.lengths_are

pub same_addresses : (text : List ℕ) (v6 w6 : Bool) (a b : ℕ) → IsAddressText text v6 a → IsAddressText text w6 b → (v6 ≡ w6) × (a ≡ b)
same_addresses text false false a b p q = (refl, one_ipv4 text a b p q)
same_addresses text true true a b p q = (refl, one_ipv6 text a b p q)
same_addresses text false true a b p q = absurd (one_family text a b p q)
same_addresses text true false a b p q = absurd (one_family text b a q p)

pub address_fits : (text : List ℕ) (v6 : Bool) (address : ℕ) → IsAddressText text v6 address → address < 2 ^ address_bits v6
address_fits text false address is = is.0
address_fits text true address is = is.fits

-- a prefix's text is read in one way
pub record SamePrefix (v6 w6 : Bool) (address address' len len' : ℕ) (maximum maximum' : Option ℕ) : Type 0 where
  pub v6_same : v6 ≡ w6
  pub address_same : address ≡ address'
  pub len_same : len ≡ len'
  pub maximum_same : maximum ≡ maximum'

pub same_prefixes : (text : List ℕ) (v6 w6 : Bool) (address address' len len' : ℕ) (maximum maximum' : Option ℕ) → IsPrefixText text v6 address len maximum → IsPrefixText text w6 address' len' maximum'
    → SamePrefix v6 w6 address address' len len' maximum maximum'
same_prefixes text v6 w6 a a' l l' m m' p q =
    let sp = prefix_split text v6 a l m p in
    let sq = prefix_split text w6 a' l' m' q in
    let rest : sp.lengths ≡ sq.lengths = cc in
    let addresses = same_addresses _ _ _ _ _ sp.address_is sq.address_is in
    let lengths = same_lengths _ _ _ _ _ (rw (← rest) sp.lengths_are) sq.lengths_are in
    record { v6_same = addresses.0; address_same = addresses.1; len_same = lengths.0; maximum_same = lengths.1 }

passes_lengths : (text : List ℕ) (len : ℕ) (maximum : Option ℕ) → IsLengthsText text len maximum → Passes (is_none_of (32 ∷ 9 ∷ 61 ∷ [])) text
passes_lengths text len None is = passes_decimal _ digit_in_word text len is
passes_lengths text len (Some m) (a, b, e, p, q) =
    rw e (passes_append _ (a ++ 45 ∷ []) b (passes_append _ a (45 ∷ []) (passes_decimal _ digit_in_word a len p) (refl, tt)) (passes_decimal _ digit_in_word b m q))

-- no blank and no `=` is in a prefix's text
pub passes_prefix : (text : List ℕ) (v6 : Bool) (address len : ℕ) (maximum : Option ℕ) → IsPrefixText text v6 address len maximum → Passes (is_none_of (32 ∷ 9 ∷ 61 ∷ [])) text
passes_prefix text v6 address len maximum is =
    let front = passes_address _ address_in_word is.address_text v6 address is.address_is in
    let back = passes_lengths is.lengths_text len maximum is.lengths_are in
    rw is.spelled (passes_append _ (is.address_text ++ 47 ∷ []) is.lengths_text (passes_append _ is.address_text (47 ∷ []) front (refl, tt)) back)
