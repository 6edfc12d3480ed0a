-- A length, and a maximum after a hyphen or none.
use Rattle.std.proofs.Common.{◌≡◌, ℕ, Bool, false, List, [], ◌∷◌, ◌++◌, take, drop, Option, Some, None, refl, sym, ap, subst, ◌∙◌, arith, append-nil, append_assoc}
use Rattle.std.proofs.lemmas.Bool.Decides.{nat_tests}
use Rattle.std.specs.List.{prefix_len}
use Rattle.ip_text.specs.Number.{IsDecimalText}
use Rattle.ip_text.specs.laws.NumberLaws.{one_decimal}
use Rattle.origins.specs.inner.Fronts.{is_none_of, Stops}
use Rattle.origins.specs.Text.{IsLengthsText}
use Rattle.origins.proofs.FrontLemmas.{front_is, back_is, front_and_back, back_stops}
use Rattle.origins.proofs.Alphabets.{passes_decimal, digit_no_hyphen}

-- no byte is a hyphen
abbrev no_hyphen : ℕ → Bool
no_hyphen = is_none_of (45 ∷ [])

-- the text before a hyphen, and the text from there
abbrev pub before_hyphen : List ℕ → List ℕ
before_hyphen text = take (prefix_len (is_none_of (45 ∷ [])) text) text

abbrev pub from_hyphen : List ℕ → List ℕ
from_hyphen text = drop (prefix_len (is_none_of (45 ∷ [])) text) text

-- a hyphen and a maximum, or nothing
abbrev pub IsTail : List ℕ → Option ℕ → Type 0
IsTail text None = text ≡ []
IsTail text (Some maximum) = (digits : List ℕ) × (text ≡ 45 ∷ digits) × IsDecimalText digits maximum

pub lengths_split : (text : List ℕ) (len : ℕ) (maximum : Option ℕ) → IsLengthsText text len maximum
    → IsDecimalText (before_hyphen text) len × IsTail (from_hyphen text) maximum
lengths_split text len None is =
    let whole : text ≡ text ++ [] = sym (append-nil text) in
    let passes = passes_decimal no_hyphen digit_no_hyphen text len is in
    (rw (front_is no_hyphen text text [] whole passes tt) is, back_is no_hyphen text text [] whole passes tt)
lengths_split text len (Some maximum) (a, b, e, length_is, maximum_is) =
    let whole : text ≡ a ++ (45 ∷ b) = e ∙ append_assoc a (45 ∷ []) b in
    let passes = passes_decimal no_hyphen digit_no_hyphen a len length_is in
    (rw (front_is no_hyphen text a (45 ∷ b) whole passes refl) length_is, (b, back_is no_hyphen text a (45 ∷ b) whole passes refl, maximum_is))

pub lengths_join : (text : List ℕ) (len : ℕ) (maximum : Option ℕ) → IsDecimalText (before_hyphen text) len → IsTail (from_hyphen text) maximum
    → IsLengthsText text len maximum
lengths_join text len None is tail =
    let whole : text ≡ before_hyphen text = front_and_back no_hyphen text ∙ (ap (λ t. before_hyphen text ++ t) tail ∙ append-nil _) in
    subst (λ t. IsDecimalText t len) (sym whole) is
lengths_join text len (Some maximum) is (digits, e, number) =
    (before_hyphen text, digits, front_and_back no_hyphen text ∙ (ap (λ t. before_hyphen text ++ t) e ∙ sym (append_assoc (before_hyphen text) (45 ∷ []) digits)), is, number)

-- what follows a hyphen is the maximum
pub tail_is : (text digits : List ℕ) (maximum : Option ℕ) → text ≡ 45 ∷ digits → IsTail text maximum → (n : ℕ) × (maximum ≡ Some n) × IsDecimalText digits n
tail_is text digits None e tail = absurd cc
tail_is text digits (Some n) e (ds, f, number) = let same : digits ≡ ds = cc in (n, refl, rw same number)

stop_is_hyphen : (c : ℕ) → is_none_of (45 ∷ []) c ≡ false → c ≡ 45
stop_is_hyphen c stop = grind (arith, nat_tests)

ends : (text : List ℕ) → Stops (is_none_of (45 ∷ [])) text → ((rest : List ℕ) → text ≡ 45 ∷ rest → ⊥) → text ≡ []
ends [] stop none = refl
ends (c ∷ cs) stop none = absurd (none cs (ap (λ b. b ∷ cs) (stop_is_hyphen c stop)))

-- where no hyphen follows, nothing does
pub tail_ends : (text : List ℕ) → ((rest : List ℕ) → from_hyphen text ≡ 45 ∷ rest → ⊥) → from_hyphen text ≡ []
tail_ends text none = ends (from_hyphen text) (back_stops no_hyphen text) none

same_tails : (text : List ℕ) (m n : Option ℕ) → IsTail text m → IsTail text n → m ≡ n
same_tails text None None a b = refl
same_tails text None (Some n) a (ds, e, b) = absurd cc
same_tails text (Some m) None (ds, e, a) b = absurd cc
same_tails text (Some m) (Some n) (ds, e, a) (es, f, b) =
    let same : ds ≡ es = cc in ap Some (one_decimal es m n (subst (λ t. IsDecimalText t m) same a) b)

pub same_lengths : (text : List ℕ) (l l' : ℕ) (m m' : Option ℕ) → IsLengthsText text l m → IsLengthsText text l' m' → (l ≡ l') × (m ≡ m')
same_lengths text l l' m m' a b =
    let sa = lengths_split text l m a in
    let sb = lengths_split text l' m' b in
    (one_decimal _ l l' sa.0 sb.0, same_tails _ m m' sa.1 sb.1)
