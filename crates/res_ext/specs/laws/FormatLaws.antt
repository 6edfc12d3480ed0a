-- The laws of the formats of the extensions.
use Rattle.std.proofs.Common.{◌≡◌, ℕ, suc, ◌-◌, ◌*◌, ◌/◌, ◌^◌, ◌<◌, ◌≤◌, Bool, true, false, cond, ◌&&◌, eqb, ltb, leb, Option, Some, None, List, [], ◌∷◌, ◌++◌, length, refl, sym, ap, subst, ◌∙◌, arith, ◌⊎◌, inl, inr}
use Rattle.std.specs.Prelude.{is_none}
use Rattle.std.specs.Int.Digits.{number_from_digits}
use Rattle.std.proofs.lemmas.Bool.{lt-ltb, le-ltb, ltb-true, ltb-false, le-leb, leb-true, eq-eqb, ne_eqb, eqb-true, and_parts, cases_eq}
use Rattle.der.specs.Tags as tag
use Rattle.der.specs.Spelling.{spelled}
use Rattle.std.proofs.lemmas.List.{length-append}
use Rattle.der.specs.Grammar.{AreBytes}
use Rattle.der.specs.Form.{IsWhole, IsFront}
use Rattle.der.specs.Forms.{OnSomeOf, ends, within, both, only, preceded, mapped_front, tested, either, EitherOf, possibly, many}
use Rattle.der.specs.Leaves.{number, bits, bits_content, constant}
use Rattle.der.specs.laws.FormLaws.{within-law, ends-law}
use Rattle.der.specs.laws.KindLaws.{possibly-law}
use Rattle.der.specs.laws.ElementLaws.{one_element, longer}
use Rattle.der.specs.laws.FrameLaws.{sole-law, preceded-law}
use Rattle.der.specs.laws.SequenceLaws.{both-law, only-law}
use Rattle.der.specs.laws.ValueLaws.{IsInverse, IsBijection, through-law, through_front-law, mapped_front-law, tested-law}
use Rattle.der.specs.laws.ChoiceLaws.{IsBegun, either-law, within-begun, within-not-begun}
use Rattle.der.specs.laws.ListLaws.{many-law}
use Rattle.der.specs.laws.LeafLaws.{number-law, bits-law, constant-law}
use Rattle.res_sets.specs.declared.numbers.Family.{Family}
use Rattle.res_sets.specs.declared.numbers.Family.TheVariants.{Asn, V4, V6}
use Rattle.res_sets.specs.Prefixes.{IsPrefixRange}
use Rattle.res_sets.specs.Numbers.{family_end}
use Rattle.res_ext.specs.Prefixes.{IsAddressSize, octets, spare, leading_bytes, kept, span_length}
use Rattle.res_ext.specs.laws.LeadingLaws.{first_for_last, leading_found, leading_said, leading_bits, kept-le, kept-first, room_for_host}
use Rattle.res_ext.specs.laws.ByteLaws.{two_some, high-bytes, length-high_first}
use Rattle.res_ext.specs.laws.PrefixLaws.{range_of, span_length-some, span_length-found}
use Rattle.res_ext.specs.Formats.{as_span, as_kind, as_good, as_ends, as_block, leading_in, leading_out, leading_good, leading, last_of, are_shortest, ends_in, ends_out, ends_good, address_ends, address_span, address_kind, address_good, address_block, block, are_canonical, blocks, choice_value, choice_kind, choice_good, choice, as_content, as_identifiers, has_numbers, family_bytes, part, ip_in, joined, listed_spans, ip_out, ip_good, ip_content, ip_blocks}

-- ---- AS numbers

pub as_ends-law : IsWhole as_ends
as_ends-law = tested-law (both number (only number)) (λ span. ltb span.0 span.1)
    (both-law number (only number) number-law (only-law number number-law))

pub as_kinds : IsBijection (EitherOf number.good as_ends.good) as_span as_kind as_good
as_kinds = record { back = back; there = there }
  where
    back : (y : ℕ × ℕ) → as_good y → EitherOf number.good as_ends.good (as_kind y)
        × (as_span (as_kind y) ≡ y)
    back y good = elim (cases_eq y.0 y.1) [
      | inl same ↦ rw (eq-eqb y.0 y.1 same) (omega arith, ap (λ (n : ℕ). (y.0, n)) same)
      | inr differ ↦
          rw (ne_eqb y.0 y.1 differ) (((omega arith, good.1), lt-ltb y.0 y.1 (omega arith)), refl)
    ]

    there : (x : ℕ ⊎ (ℕ × ℕ)) → EitherOf number.good as_ends.good x
        → as_good (as_span x) × (as_kind (as_span x) ≡ x)
    there (inl n) good = ((omega arith, good), rw (eq-eqb n n refl) refl)
    there (inr span) good =
        let less : span.0 < span.1 = ltb-true span.0 span.1 good.1 in
        ((omega arith, good.0.1), rw (ne_eqb span.0 span.1 (λ e. omega arith)) refl)

pub as_block-law : IsFront as_block
unfolding as_block
as_block-law =
    mapped_front-law (either tag.integer number (within tag.sequence as_ends)) as_span as_kind
    as_good
    (either-law tag.integer number (within tag.sequence as_ends) number-law
    (within-law tag.sequence as_ends as_ends-law)
    (within-begun tag.integer _) (within-not-begun tag.integer tag.sequence as_ends refl)) as_kinds

-- ---- addresses

-- what a test came to, the other way round
passed : {A : Type 0} (a : Bool) (x y : A) → cond a None (Some x) ≡ Some y → (a ≡ false) × (x ≡ y)
passed true x y e = absurd cc
passed false x y e = (refl, cc)

pub leading_inverse : (size : ℕ) → IsAddressSize size
    → IsInverse bits.good (leading_in size) (leading_out size) (leading_good size)
unfolding leading_in
leading_inverse size is = record { back = back; there = there }
  where
    back : (y : ℕ × ℕ) → leading_good size y → bits.good (leading_out size y)
        × (leading_in size (leading_out size y) ≡ Some y)
    back y good =
        let bytes : List ℕ = leading_bytes size y.0 y.1 in
        let said = leading_said size (spare y.0) bytes y.0 y.1 is good.0 good.1 good.2 refl refl in
        let count : length bytes ≡ octets y.0 = length-high_first (octets y.0) _ in
        let few : ltb (size / 8) (length bytes) ≡ false =
        le-ltb (size / 8) (length bytes) (omega (arith, count, good.0, is.whole)) in (
          (leading_bits size y.0 y.1 good.0 good.1 good.2, high-bytes _ _),
          rw few (λ i. Some (said.len_is i, said.address i)),
        )

    there : (x : ℕ × List ℕ) (y : ℕ × ℕ) → bits.good x → leading_in size x ≡ Some y
        → leading_good size y × (leading_out size y ≡ x)
    there x y good e =
        let p = passed (ltb (size / 8) (length x.1))
        (8 * length x.1 - x.0, number_from_digits 256 x.1 * 2 ^ (size - 8 * length x.1)) y e
        in
        let few : length x.1 ≤ size / 8 = ltb-false _ _ p.0 in
        let within : 8 * length x.1 - x.0 ≤ size = omega (arith, few) in
        let l = leading_found size x.0 x.1 is good.0 good.1 within in
        let made : leading_good size
        (8 * length x.1 - x.0, number_from_digits 256 x.1 * 2 ^ (size - 8 * length x.1))
        × (leading_out size
        (8 * length x.1 - x.0, number_from_digits 256 x.1 * 2 ^ (size - 8 * length x.1))
        ≡ x) =
        ((within, l.below, l.clear), λ i. (sym l.spare i, sym l.same i)) in
        subst (λ (z : ℕ × ℕ). leading_good size z × (leading_out size z ≡ x)) p.1 made

pub leading-law : (size : ℕ) → IsAddressSize size → IsFront (leading size)
leading-law size is = through_front-law bits (leading_in size) (leading_out size)
    (leading_good size) bits-law (leading_inverse size is)

-- The last address of a prefix.
pub last_within : (size : ℕ) (y : ℕ × ℕ) → leading_good size y → last_of size y < 2 ^ size
last_within size y good =
    let some = two_some (size - y.0) in
    room_for_host size y.0 y.1 (2 ^ (size - y.0) - 1) good.0 good.2 good.1 (omega (arith, some))

none-of : (o : Option ℕ) → is_none o ≡ true → o ≡ None
none-of None e = refl
none-of (Some x) e = absurd cc

-- what a test came to
tested-some : {A : Type 0} (b : Bool) (x y : A) → cond b (Some x) None ≡ Some y
    → (b ≡ true) × (x ≡ y)
tested-some true x y e = (refl, cc)
tested-some false x y e = absurd cc

pub ends_inverse : (size : ℕ)
    → IsInverse (both (leading size) (only (leading size))).good (ends_in size) (ends_out size)
    (ends_good size)
unfolding ends_in
ends_inverse size = record { back = back; there = there }
  where
    back : (y : ℕ × ℕ) → ends_good size y
        → (leading_good size (ends_out size y).0 × leading_good size (ends_out size y).1)
        × (ends_in size (ends_out size y) ≡ Some y)
    back y good =
        let len : ℕ = kept 1 size y.1 in
        let p : ℕ = 2 ^ (size - len) in
        let some : 0 < p = two_some (size - len) in
        let f = first_for_last size y.1 good.1 in
        let low : leading_good size (kept 0 size y.0, y.0) =
        (kept-le 0 size y.0, omega (arith, good.0, good.1), kept-first size y.0) in
        let high : leading_good size (len, y.1 - (p - 1)) =
        (kept-le 1 size y.1, f.below, f.clear) in
        let last : last_of size (len, y.1 - (p - 1)) ≡ y.1 = omega (arith, f.size, some) in
        let first-test : leb y.0 y.1 ≡ true = le-leb y.0 y.1 good.0 in (
          (low, high),
          rw (
            last,
            first-test,
            eq-eqb (kept 0 size y.0) (kept 0 size y.0) refl,
            eq-eqb len len refl,
            good.2,
          ) refl,
        )

    there : (x : (ℕ × ℕ) × (ℕ × ℕ)) (y : ℕ × ℕ) → leading_good size x.0 × leading_good size x.1
        → ends_in size x ≡ Some y → ends_good size y × (ends_out size y ≡ x)
    there x y good e =
        let last : ℕ = last_of size x.1 in
        let t = tested-some (are_shortest size x.0 x.1) (x.0.1, last) y e in
        let a = and_parts
        (leb x.0.1 last && eqb x.0.0 (kept 0 size x.0.1) && eqb x.1.0 (kept 1 size last))
        (is_none (span_length size (x.0.1, last))) t.0 in
        let b = and_parts (leb x.0.1 last && eqb x.0.0 (kept 0 size x.0.1))
        (eqb x.1.0 (kept 1 size last)) a.0 in
        let c = and_parts (leb x.0.1 last) (eqb x.0.0 (kept 0 size x.0.1)) b.0 in
        let low : x.0.0 ≡ kept 0 size x.0.1 = eqb-true _ _ c.1 in
        let high : x.1.0 ≡ kept 1 size last = eqb-true _ _ b.1 in
        let some = two_some (size - x.1.0) in
        let back-is : last - (2 ^ (size - kept 1 size last) - 1) ≡ x.1.1 =
        ap (λ (k : ℕ). last - (2 ^ (size - k) - 1)) (sym high) ∙ omega (arith, some) in
        let made : ends_good size (x.0.1, last) × (ends_out size (x.0.1, last) ≡ x) = (
          (leb-true _ _ c.0, last_within size x.1 good.1, none-of _ a.1),
          λ i. ((sym low i, x.0.1), (sym high i, back-is i)),
        ) in
        subst (λ (z : ℕ × ℕ). ends_good size z × (ends_out size z ≡ x)) t.1 made

pub address_ends-law : (size : ℕ) → IsAddressSize size → IsWhole (address_ends size)
address_ends-law size is =
    through-law (both (leading size) (only (leading size))) (ends_in size) (ends_out size)
    (ends_good size)
    (both-law (leading size) (only (leading size)) (leading-law size is)
    (only-law (leading size) (leading-law size is))) (ends_inverse size)

-- A range is a prefix, or it isn't.
length-cases : (size : ℕ) (span : ℕ × ℕ)
    → ((len : ℕ) × (span_length size span ≡ Some len)) ⊎ (span_length size span ≡ None)
length-cases size span = cases (span_length size span)
  where
    cases : (o : Option ℕ) → ((len : ℕ) × (o ≡ Some len)) ⊎ (o ≡ None)
    cases (Some len) = inl (len, refl)
    cases None = inr refl

pub address_kinds : (size : ℕ)
    → IsBijection (EitherOf (leading size).good (address_ends size).good) (address_span size)
    (address_kind size) (address_good size)
address_kinds size = record { back = back; there = there }
  where
    back : (y : ℕ × ℕ) → address_good size y
        → EitherOf (leading_good size) (ends_good size) (address_kind size y)
        × (address_span size (address_kind size y) ≡ y)
    back y good = elim (length-cases size y) [
      | inl found ↦
          let prefix = span_length-found size found.0 y good.0 found.1 in
          let some = two_some (size - found.0) in
          let last : last_of size (found.0, y.0) ≡ y.1 = omega (arith, prefix.size, some) in
          rw found.1 (
            (prefix.short, omega (arith, good.0, good.1), prefix.no_host_bits),
            ap (λ (n : ℕ). (y.0, n)) last,
          )
      | inr none ↦ rw none ((good.0, good.1, none), refl)
    ]

    there : (x : (ℕ × ℕ) ⊎ (ℕ × ℕ)) → EitherOf (leading_good size) (ends_good size) x
        → address_good size (address_span size x) × (address_kind size (address_span size x) ≡ x)
    there (inl y) good =
        let some = two_some (size - y.0) in
        let ordered : y.1 ≤ last_of size y = omega (arith, some) in
        let prefix : IsPrefixRange size y.0 (range_of (y.1, last_of size y) ordered) =
        record { short = good.0; no_host_bits = good.2; size = omega (arith, some) } in
        let found : span_length size (y.1, last_of size y) ≡ Some y.0 =
        span_length-some size y.0 (y.1, last_of size y) ordered prefix in
        ((ordered, last_within size y good), rw found refl)
    there (inr span) good = ((good.0, good.1), rw good.2 refl)

pub address_block-law : (size : ℕ) → IsAddressSize size → IsFront (address_block size)
unfolding address_block
address_block-law size is =
    mapped_front-law
    (either tag.bit_string (leading size) (within tag.sequence (address_ends size)))
    (address_span size) (address_kind size) (address_good size)
    (either-law tag.bit_string (leading size) (within tag.sequence (address_ends size))
    (leading-law size is)
    (within-law tag.sequence (address_ends size) (address_ends-law size is))
    (leading-begun size is)
    (within-not-begun tag.bit_string tag.sequence (address_ends size) refl))
    (address_kinds size)
  where
    leading-begun : (size : ℕ) → IsAddressSize size → IsBegun tag.bit_string (leading size)
    leading-begun size is =
        record {
          begun = λ x rest good. (within-begun tag.bit_string bits_content).begun
              (leading_out size x) rest ((leading_inverse size is).back x good).0;
        }

-- ---- sets

pub v4-size : IsAddressSize 32
v4-size = record { some = omega arith; short = omega arith; whole = refl }

pub v6-size : IsAddressSize 128
v6-size = record { some = omega arith; short = omega arith; whole = refl }

pub block-law : (family : Family) → IsFront (block family)
block-law Asn = as_block-law
block-law V4 = address_block-law 32 v4-size
block-law V6 = address_block-law 128 v6-size

pub blocks-law : (family : Family) → IsWhole (blocks family)
unfolding blocks
blocks-law family = tested-law (many (block family)) (are_canonical (family_end family) 0)
    (many-law (block family) (block-law family))

-- ---- what stands for a family

pub choice_kinds : (family : Family)
    → IsBijection (EitherOf (λ (x : Unit {0}). Unit {0}) (blocks family).good) choice_value
    choice_kind (choice_good family)
choice_kinds family = record { back = back; there = there }
  where
    back : (y : Option (List (ℕ × ℕ))) → choice_good family y
        → EitherOf (λ (x : Unit {0}). Unit {0}) (blocks family).good (choice_kind y)
        × (choice_value (choice_kind y) ≡ y)
    back None good = (tt, refl)
    back (Some spans) good = (good, refl)

    there : (x : Unit {0} ⊎ List (ℕ × ℕ))
        → EitherOf (λ (x : Unit {0}). Unit {0}) (blocks family).good x
        → choice_good family (choice_value x) × (choice_kind (choice_value x) ≡ x)
    there (inl x) good = (tt, refl)
    there (inr spans) good = (good, refl)

pub choice-law : (family : Family) → IsWhole (choice family)
unfolding choice
choice-law family =
    only-law (mapped_front
    (either tag.null (within tag.null ends) (within tag.sequence (blocks family)))
    choice_value choice_kind (choice_good family))
    (mapped_front-law
    (either tag.null (within tag.null ends) (within tag.sequence (blocks family)))
    choice_value choice_kind (choice_good family)
    (either-law tag.null (within tag.null ends) (within tag.sequence (blocks family))
    (within-law tag.null ends ends-law)
    (within-law tag.sequence (blocks family) (blocks-law family))
    (within-begun tag.null ends) (within-not-begun tag.null tag.sequence (blocks family) refl))
    (choice_kinds family))

-- ---- the extensions

pub as_content-law : IsWhole as_content
unfolding as_content
as_content-law = sole-law tag.context_0 (choice Asn) (choice-law Asn)

pub as_identifiers-law : IsWhole as_identifiers
as_identifiers-law = sole-law tag.sequence as_content as_content-law

pub part-law : (family : Family) → IsFront (part family)
unfolding part
part-law family =
    within-law tag.sequence
    (preceded (constant tag.octet_string (family_bytes family))
    (tested (choice family) has_numbers))
    (preceded-law (constant tag.octet_string (family_bytes family))
    (tested (choice family) has_numbers) (constant-law tag.octet_string (family_bytes family))
    tt (tested-law (choice family) has_numbers (choice-law family)))

-- No family of one number is of another.
part-apart : (a b : Family) (x y : Option (List (ℕ × ℕ))) (r s : List ℕ)
    → (family_bytes a ≡ family_bytes b → ⊥) → (part a).spelling x ++ r ≡ (part b).spelling y ++ s
    → ⊥
unfolding part
part-apart a b x y r s differ e =
    let outer = one_element tag.sequence tag.sequence _ _ r s e in
    let inner = one_element tag.octet_string tag.octet_string (family_bytes a) (family_bytes b)
    ((choice a).spelling x) ((choice b).spelling y) outer.1 in
    differ inner.1

nothing : (own : ℕ) (c r : List ℕ) → spelled own c ++ r ≡ [] → ⊥
nothing own c r e = omega (arith, longer own c, ap length e, length-append (spelled own c) r)

part-some : (a : Family) (x : Option (List (ℕ × ℕ))) (r : List ℕ) → (part a).spelling x ++ r ≡ []
    → ⊥
unfolding part
part-some a x r e =
    absurd (nothing tag.sequence
    (spelled tag.octet_string (family_bytes a) ++ (choice a).spelling x) r e)

v4-v6 : family_bytes V4 ≡ family_bytes V6 → ⊥
v4-v6 e = cc

pub v6_or_none-law : IsWhole (possibly (part V6) ends)
v6_or_none-law = possibly-law (part V6) ends (part-law V6) ends-law
    (record { apart = λ x rest y good end e. part-some V6 x rest e })

pub families-law : IsWhole (possibly (part V4) (possibly (part V6) ends))
families-law =
    possibly-law (part V4) (possibly (part V6) ends) (part-law V4) v6_or_none-law
    (record { apart = apart })
  where
    apart : (x : Option (List (ℕ × ℕ))) (rest : List ℕ)
        (y : Option (Option (List (ℕ × ℕ))) × Unit {0}) → (part V4).good x
        → (possibly (part V6) ends).good y
        → (part V4).spelling x ++ rest ≡ (possibly (part V6) ends).spelling y → ⊥
    apart x rest (None, u) good other e = part-some V4 x rest e
    apart x rest (Some y, u) good other e = part-apart V4 V6 x y rest [] v4-v6 e

-- What stands for a set that isn't left out.
listed-good : (family : Family) (spans : List (ℕ × ℕ)) → (blocks family).good spans
    → OnSomeOf (part family).good (listed_spans spans)
unfolding part choice
listed-good family [] good = tt
listed-good family (span ∷ spans) good = (good, refl)

some-good : (family : Family) (spans : List (ℕ × ℕ)) → (part family).good (Some spans)
    → (blocks family).good spans × (listed_spans spans ≡ Some (Some spans))
unfolding part choice
some-good family [] good = absurd (apart good.1)
  where
    apart : false ≡ true → ⊥
    apart e = cc
some-good family (span ∷ spans) good = (good.0, refl)

none-good : (family : Family) → (blocks family).good []
unfolding blocks
none-good family = (tt, refl)

inherit-good : (family : Family) → (part family).good None
unfolding part choice
inherit-good family = (tt, refl)

abbrev Families : Type 0
Families = Option (Option (List (ℕ × ℕ))) × (Option (Option (List (ℕ × ℕ))) × Unit {0})

abbrev Sets : Type 0
Sets = Option (List (ℕ × ℕ) × List (ℕ × ℕ))

joined-back : (v4 v6 : List (ℕ × ℕ))
    → joined (listed_spans v4) (listed_spans v6) ≡ Some (Some (v4, v6))
joined-back [] [] = refl
joined-back [] (b ∷ v6) = refl
joined-back (a ∷ v4) [] = refl
joined-back (a ∷ v4) (b ∷ v6) = refl

ip-back : (y : Sets) → ip_good y → (possibly (part V4) (possibly (part V6) ends)).good (ip_out y)
    × (ip_in (ip_out y) ≡ Some y)
unfolding ip_in
ip-back None good = ((inherit-good V4, (inherit-good V6, tt)), refl)
ip-back (Some sets) good = (
  (listed-good V4 sets.0 good.0, (listed-good V6 sets.1 good.1, tt)),
  joined-back sets.0 sets.1,
)

same-sets : (x y : Sets) → Some x ≡ Some y → x ≡ y
same-sets x y e = cc

ip-there : (x : Families) (y : Sets) → (possibly (part V4) (possibly (part V6) ends)).good x
    → ip_in x ≡ Some y → ip_good y × (ip_out y ≡ x)
unfolding ip_in
ip-there (None, (None, u)) y good e =
    subst (λ (z : Sets). ip_good z × (ip_out z ≡ (None, (None, u))))
    (same-sets (Some ([], [])) y e) ((none-good V4, none-good V6), refl)
ip-there (None, (Some None, u)) y good e = absurd cc
ip-there (None, (Some (Some v6), u)) y good e =
    let b = some-good V6 v6 good.1.0 in
    subst (λ (z : Sets). ip_good z × (ip_out z ≡ (None, (Some (Some v6), u))))
    (same-sets (Some ([], v6)) y e)
    ((none-good V4, b.0), ap (λ (o : Option (Option (List (ℕ × ℕ)))). (None, (o, u))) b.1)
ip-there (Some None, (None, u)) y good e = absurd cc
ip-there (Some None, (Some None, u)) y good e =
    subst (λ (z : Sets). ip_good z × (ip_out z ≡ (Some None, (Some None, u))))
    (same-sets None y e) (tt, refl)
ip-there (Some None, (Some (Some v6), u)) y good e = absurd cc
ip-there (Some (Some v4), (None, u)) y good e =
    let a = some-good V4 v4 good.0 in
    subst (λ (z : Sets). ip_good z × (ip_out z ≡ (Some (Some v4), (None, u))))
    (same-sets (Some (v4, [])) y e)
    ((a.0, none-good V6), ap (λ (o : Option (Option (List (ℕ × ℕ)))). (o, (None, u))) a.1)
ip-there (Some (Some v4), (Some None, u)) y good e = absurd cc
ip-there (Some (Some v4), (Some (Some v6), u)) y good e =
    let a = some-good V4 v4 good.0 in
    let b = some-good V6 v6 good.1.0 in
    subst (λ (z : Sets). ip_good z × (ip_out z ≡ (Some (Some v4), (Some (Some v6), u))))
    (same-sets (Some (v4, v6)) y e) ((a.0, b.0), λ i. (a.1 i, (b.1 i, u)))

pub ip_inverse : IsInverse (possibly (part V4) (possibly (part V6) ends)).good ip_in ip_out ip_good
ip_inverse = record { back = ip-back; there = ip-there }

pub ip_content-law : IsWhole ip_content
unfolding ip_content
ip_content-law = through-law (possibly (part V4) (possibly (part V6) ends)) ip_in ip_out ip_good
    families-law ip_inverse

pub ip_blocks-law : IsWhole ip_blocks
ip_blocks-law = sole-law tag.sequence ip_content ip_content-law
