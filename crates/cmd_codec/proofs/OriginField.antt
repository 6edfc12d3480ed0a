-- The field of an origin and its numbers.
use Rattle.std.proofs.Common.{◌≡◌, ℕ, ◌==◌, ◌++◌, Bool, true, false, List, ◌∷◌, length, get_or, take, drop, refl, sym, ap, ◌∙◌, arith, Option, None, Some}
use Rattle.std.specs.Prelude.{MatchOption, nat_le}
use Rattle.std.proofs.lemmas.Bool.Decides.{nat_tests}
use Rattle.std.proofs.lemmas.List.{take-append-drop, drop-drop, drop_more, drop_all, append-nil}
use Rattle.origins.specs.declared.Origin.{Origin}
use Rattle.cmd_codec.specs.Spelling.{family_byte, bytes_32, bytes_128, origin_spelling}
use Rattle.cmd_codec.specs.Fault.{front_128, is_origin, are_of_origin}

-- 23 bytes, part by part
parts_of : (field : List ℕ) → length field ≡ 23 → field ≡ get_or field 0 0 ∷ take 16 (drop 1 field) ++ get_or field 17 0 ∷ get_or field 18 0 ∷ take 4 (drop 19 field)
parts_of field len =
    let first : field ≡ get_or field 0 0 ∷ drop 1 field = drop_more field 0 0 (omega arith) in
    let middle : drop 1 field ≡ take 16 (drop 1 field) ++ drop 17 field = sym (take-append-drop 16 (drop 1 field)) ∙ ap (λ (r : List ℕ). take 16 (drop 1 field) ++ r) (drop-drop 16 1 field) in
    let at_17 : drop 17 field ≡ get_or field 17 0 ∷ drop 18 field = drop_more field 17 0 (omega arith) in
    let at_18 : drop 18 field ≡ get_or field 18 0 ∷ drop 19 field = drop_more field 18 0 (omega arith) in
    let last : drop 19 field ≡ take 4 (drop 19 field) = sym (take-append-drop 4 (drop 19 field)) ∙ ap (λ (r : List ℕ). take 4 (drop 19 field) ++ r) (drop-drop 4 19 field ∙ drop_all 23 field (omega arith)) ∙ append-nil (take 4 (drop 19 field)) in
    first ∙ ap (λ (r : List ℕ). get_or field 0 0 ∷ r) (middle ∙ ap (λ (r : List ℕ). take 16 (drop 1 field) ++ r) (at_17 ∙ ap (λ (r : List ℕ). get_or field 17 0 ∷ r) (at_18 ∙ ap (λ (r : List ℕ). get_or field 18 0 ∷ r) last)))

family_of_byte : (byte : ℕ) (v6 : Bool) → nat_le byte 1 ≡ true → v6 ≡ (byte == 1) → byte ≡ family_byte v6
family_of_byte byte true le e = grind (arith, nat_tests)
family_of_byte byte false le e = grind (arith, nat_tests)

pub no_family : (field : List ℕ) → nat_le (get_or field 0 0) 1 ≡ false → is_origin field ≡ false
no_family field other = rw other refl

same_test : (field : List ℕ) (v6 : Bool) (address : ℕ) → nat_le (get_or field 0 0) 1 ≡ true → v6 ≡ (get_or field 0 0 == 1) → address ≡ front_128 (drop 1 field)
    → is_origin field ≡ are_of_origin v6 address (get_or field 17 0) (get_or field 18 0)
same_test field v6 address le v6_is address_is = rw (le, v6_is, address_is) refl

-- What the numbers of a field come to.
pub read_origin : (field : List ℕ) (v6 : Bool) (address asn : ℕ) (r : Option Origin) → length field ≡ 23 → nat_le (get_or field 0 0) 1 ≡ true → v6 ≡ (get_or field 0 0 == 1)
    → address ≡ front_128 (drop 1 field) → bytes_128 address ≡ take 16 (drop 1 field) → bytes_32 asn ≡ take 4 (drop 19 field)
    → MatchOption r (are_of_origin v6 address (get_or field 17 0) (get_or field 18 0) ≡ false)
    (λ o. (are_of_origin v6 address (get_or field 17 0) (get_or field 18 0) ≡ true) × (o.prefix.v6 ≡ v6) × (o.prefix.address ≡ address) × (o.prefix.length ≡ get_or field 17 0) × (o.max ≡ get_or field 18 0) × (o.asn ≡ asn))
    → MatchOption r (is_origin field ≡ false) (λ o. (is_origin field ≡ true) × (field ≡ origin_spelling o))
unfolding origin_spelling
read_origin field v6 address asn None len le v6_is address_is high low none = same_test field v6 address le v6_is address_is ∙ none
read_origin field v6 address asn (Some o) len le v6_is address_is high low is =
    let first : get_or field 0 0 ≡ family_byte o.prefix.v6 = family_of_byte (get_or field 0 0) v6 le v6_is ∙ ap family_byte (sym is.1) in
    let middle : take 16 (drop 1 field) ≡ bytes_128 o.prefix.address = sym high ∙ ap bytes_128 (sym is.2) in
    let last : take 4 (drop 19 field) ≡ bytes_32 o.asn = sym low ∙ ap bytes_32 (sym is.5) in
    (same_test field v6 address le v6_is address_is ∙ is.0, parts_of field len ∙ (λ i. first i ∷ middle i ++ sym is.3 i ∷ sym is.4 i ∷ last i))
