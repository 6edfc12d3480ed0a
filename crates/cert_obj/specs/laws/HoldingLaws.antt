-- The laws of the formats of a certificate's resources.
use Rattle.std.proofs.Common.{◌≡◌, ℕ, ◌+◌, true, false, not, Option, Some, None, List, [], ◌∷◌, ◌++◌, refl, subst}
use Rattle.std.proofs.lemmas.List.{append-nil}
use Rattle.der.specs.Form.{IsWhole, IsFront}
use Rattle.der.specs.Forms.{OnSomeOf, ends, tested, possibly}
use Rattle.der.specs.laws.FormLaws.{ends-law}
use Rattle.der.specs.laws.ValueLaws.{IsInverse, through-law, tested-law}
use Rattle.der.specs.laws.KindLaws.{AreFrontsApart, no_front-ends, no_front-possibly, possibly-law}
use Rattle.object_parts.specs.declared.identifiers.TheConstants.{IP_BLOCKS, AS_IDENTIFIERS}
use Rattle.object_parts.specs.laws.FrameLaws.{critical_extension-law, same-identifier}
use Rattle.res_sets.specs.declared.numbers.Family.{Family}
use Rattle.res_sets.specs.declared.numbers.Family.TheVariants.{Asn, V4, V6}
use Rattle.res_ext.specs.Formats.{blocks, choice, as_content, as_identifiers, ip_content, ip_blocks, has_numbers}
use Rattle.res_ext.specs.laws.FormatLaws.{as_identifiers-law, ip_blocks-law}
use Rattle.res_ext.specs.laws.SetLaws.{canonical_good, canonical_tested}
use Rattle.res_ext.specs.Views.{set_view}
use Rattle.res_sets.specs.Numbers.{AreCanonical}
use Rattle.res_sets.specs.Sets.{RangeSet, IsCanonical}
use Rattle.cert_obj.specs.declared.values.CertKind.TheVariants.{EndEntity}
use Rattle.cert_obj.specs.Values.{Sets, is_empty_list, IsListOf, AreSets, IsHeld, may_hold}
use Rattle.cert_obj.specs.Holdings.{Addresses, Numbers, has_addresses, addresses, numbers, some_sets, joined, held_in, listed_addresses, listed_numbers, held_out, held, entity_held}

-- ---- a list that is canonical has a spelling

pub listed : (family : Family) (set : RangeSet) → set.family ≡ family → IsCanonical set
    → IsListOf family (set_view set)
listed family set is canonical =
    canonical_tested family set.ranges
    (subst (λ (f : Family). AreCanonical f set.ranges) is canonical)

pub list-good : (family : Family) (spans : List (ℕ × ℕ)) → IsListOf family spans
    → (blocks family).good spans
list-good family spans e = canonical_good family spans e

pub good-list : (family : Family) (spans : List (ℕ × ℕ)) → (blocks family).good spans
    → IsListOf family spans
unfolding blocks
good-list family spans good = good.1

-- A list that has a number.
pub some_numbers : (spans : List (ℕ × ℕ)) → has_numbers (Some spans) ≡ not (is_empty_list spans)
some_numbers [] = refl
some_numbers (span ∷ spans) = refl

pub nothing_behind : (bytes : List ℕ) → bytes ++ [] ≡ bytes
nothing_behind bytes = append-nil bytes

-- ---- the extensions

pub addresses-law : IsFront addresses
addresses-law = critical_extension-law IP_BLOCKS (tested ip_blocks has_addresses)
    (tested-law ip_blocks has_addresses ip_blocks-law)

pub numbers-law : IsFront numbers
numbers-law = critical_extension-law AS_IDENTIFIERS (tested as_identifiers has_numbers)
    (tested-law as_identifiers has_numbers as_identifiers-law)

fronts-apart : AreFrontsApart addresses numbers
fronts-apart =
    record {
      apart = λ x y r s good ok e.
          differ (same-identifier IP_BLOCKS AS_IDENTIFIERS _ _ r s e);
    }
  where
    differ : IP_BLOCKS ≡ AS_IDENTIFIERS → ⊥
    differ e = cc

pub numbers_or_none-law : IsWhole (possibly numbers ends)
numbers_or_none-law = possibly-law numbers ends numbers-law ends-law
    (no_front-ends numbers numbers-law)

pub both_or_none-law : IsWhole (possibly addresses (possibly numbers ends))
both_or_none-law =
    possibly-law addresses (possibly numbers ends) addresses-law numbers_or_none-law
    (no_front-possibly addresses numbers ends fronts-apart (no_front-ends addresses addresses-law))

-- ---- what they say together

abbrev Pair : Type 0
Pair = Option Addresses × (Option Numbers × Unit {0})

abbrev IsPair : Pair → Type 0
IsPair x = (possibly addresses (possibly numbers ends)).good x

none-listed : (family : Family) → IsListOf family []
none-listed family = refl

addresses-listed : (v4 v6 : List (ℕ × ℕ)) → IsListOf V4 v4 → IsListOf V6 v6
    → OnSomeOf addresses.good (listed_addresses v4 v6)
unfolding ip_content
addresses-listed [] [] a b = tt
addresses-listed [] (span ∷ v6) a b = ((list-good V4 [] a, list-good V6 (span ∷ v6) b), refl)
addresses-listed (span ∷ v4) v6 a b = ((list-good V4 (span ∷ v4) a, list-good V6 v6 b), refl)

numbers-listed : (asn : List (ℕ × ℕ)) → IsListOf Asn asn
    → OnSomeOf numbers.good (listed_numbers asn)
unfolding as_content choice
numbers-listed [] a = tt
numbers-listed (span ∷ asn) a = (list-good Asn (span ∷ asn) a, refl)

inherited-addresses : addresses.good None
unfolding ip_content
inherited-addresses = (tt, refl)

inherited-numbers : numbers.good None
unfolding as_content choice
inherited-numbers = (tt, refl)

-- What is left out is put in again.
joined-back : (v4 v6 asn : List (ℕ × ℕ))
    → joined (listed_addresses v4 v6) (listed_numbers asn) ≡ some_sets asn v4 v6
joined-back [] [] [] = refl
joined-back [] [] (a ∷ asn) = refl
joined-back [] (b ∷ v6) [] = refl
joined-back [] (b ∷ v6) (a ∷ asn) = refl
joined-back (c ∷ v4) v6 [] = refl
joined-back (c ∷ v4) v6 (a ∷ asn) = refl

held-back : (y : Option Sets) → IsHeld y → IsPair (held_out y) × (held_in (held_out y) ≡ Some y)
unfolding held_in
held-back None good = ((inherited-addresses, (inherited-numbers, tt)), refl)
held-back (Some sets) good = (
  (addresses-listed sets.v4 sets.v6 good.v4 good.v6, (numbers-listed sets.asn good.asn, tt)),
  joined-back sets.v4 sets.v6 sets.asn,
)

same-some : (x y : Option Sets) → Some x ≡ Some y → x ≡ y
same-some x y e = cc

never : false ≡ true → ⊥
never e = cc

addresses-there : (v4 v6 : List (ℕ × ℕ)) → addresses.good (Some (v4, v6))
    → (IsListOf V4 v4 × IsListOf V6 v6) × (listed_addresses v4 v6 ≡ Some (Some (v4, v6)))
unfolding ip_content
addresses-there [] [] good = absurd (never good.1)
addresses-there [] (span ∷ v6) good =
    ((good-list V4 [] good.0.0, good-list V6 (span ∷ v6) good.0.1), refl)
addresses-there (span ∷ v4) v6 good =
    ((good-list V4 (span ∷ v4) good.0.0, good-list V6 v6 good.0.1), refl)

numbers-there : (asn : List (ℕ × ℕ)) → numbers.good (Some asn)
    → IsListOf Asn asn × (listed_numbers asn ≡ Some (Some asn))
unfolding as_content choice
numbers-there [] good = absurd (never good.1)
numbers-there (span ∷ asn) good = (good-list Asn (span ∷ asn) good.0, refl)

-- Sets, and that they are what the two extensions say.
made : (x : Pair) (asn v4 v6 : List (ℕ × ℕ)) (y : Option Sets)
    → AreSets (record { asn = asn; v4 = v4; v6 = v6 })
    → held_out (Some (record { asn = asn; v4 = v4; v6 = v6 })) ≡ x → some_sets asn v4 v6 ≡ Some y
    → IsHeld y × (held_out y ≡ x)
made x asn v4 v6 y good is e = subst (λ (z : Option Sets). IsHeld z × (held_out z ≡ x))
    (same-some (Some (record { asn = asn; v4 = v4; v6 = v6 })) y e) (good, is)

held-there : (x : Pair) (y : Option Sets) → IsPair x → held_in x ≡ Some y
    → IsHeld y × (held_out y ≡ x)
unfolding held_in
held-there (None, (None, u)) y good e =
    made (None, (None, u)) [] [] [] y (record { asn = refl; v4 = refl; v6 = refl }) refl e
held-there (None, (Some None, u)) y good e = absurd cc
held-there (None, (Some (Some asn), u)) y good e =
    let n = numbers-there asn good.1.0 in
    made (None, (Some (Some asn), u)) asn [] [] y (record { asn = n.0; v4 = refl; v6 = refl })
    (λ i. (None, (n.1 i, u))) e
held-there (Some None, (None, u)) y good e = absurd cc
held-there (Some None, (Some None, u)) y good e =
    subst (λ (z : Option Sets). IsHeld z × (held_out z ≡ (Some None, (Some None, u))))
    (same-some None y e) (tt, refl)
held-there (Some None, (Some (Some asn), u)) y good e = absurd cc
held-there (Some (Some ip), (None, u)) y good e =
    let a = addresses-there ip.0 ip.1 good.0 in
    made (Some (Some ip), (None, u)) [] ip.0 ip.1 y
    (record { asn = refl; v4 = a.0.0; v6 = a.0.1 }) (λ i. (a.1 i, (None, u))) e
held-there (Some (Some ip), (Some None, u)) y good e = absurd cc
held-there (Some (Some ip), (Some (Some asn), u)) y good e =
    let a = addresses-there ip.0 ip.1 good.0 in
    let n = numbers-there asn good.1.0 in
    made (Some (Some ip), (Some (Some asn), u)) asn ip.0 ip.1 y
    (record { asn = n.0; v4 = a.0.0; v6 = a.0.1 }) (λ i. (a.1 i, (n.1 i, u))) e

pub held_inverse : IsInverse (possibly addresses (possibly numbers ends)).good held_in held_out
    IsHeld
held_inverse = record { back = held-back; there = held-there }

pub held-law : IsWhole held
unfolding held
held-law = through-law (possibly addresses (possibly numbers ends)) held_in held_out IsHeld
    both_or_none-law held_inverse

pub entity_held-law : IsWhole entity_held
unfolding entity_held
entity_held-law = tested-law held (may_hold EndEntity) held-law
