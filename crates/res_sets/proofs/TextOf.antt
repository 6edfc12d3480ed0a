-- What is printed range by range is the one text of the ranges.
use Rattle.std.proofs.Common.{◌≡◌, ℕ, List, [], ◌∷◌, ◌++◌, codes, refl, ap, sym, ◌∙◌, inl, inr}
use Rattle.res_sets.specs.declared.numbers.Family.{Family}
use Rattle.res_sets.specs.declared.numbers.Family.TheVariants.{Asn, V4, V6}
use Rattle.res_sets.specs.declared.numbers.Range.{Range}
use Rattle.res_sets.specs.Prefixes.{prefix_of}
use Rattle.res_sets.specs.laws.PrefixLaws.{prefix_of-some, prefix_of-found, prefix_of-none, prefix_cases, none-prefix_of}
use Rattle.res_sets.specs.Printed.{prefix_or_ends, range_text, ranges_text, PrintsAddresses, PrintsRange, Prints}

addresses_are : (bits : ℕ) (family : Family) (range : Range) (text : List ℕ) → PrintsAddresses bits family range text → text ≡ prefix_or_ends family range (prefix_of bits range)
addresses_are bits family range text (inl (len, (is, e))) = e ∙ sym (ap (prefix_or_ends family range) (prefix_of-some bits len range is))
addresses_are bits family range text (inr (none, e)) = e ∙ sym (ap (prefix_or_ends family range) (none-prefix_of bits range none))

addresses_print : (bits : ℕ) (family : Family) (range : Range) → PrintsAddresses bits family range (prefix_or_ends family range (prefix_of bits range))
addresses_print bits family range =
    elim (prefix_cases bits range) [
      | inl (len, e) ↦ inl (len, (prefix_of-found bits len range e, ap (prefix_or_ends family range) e))
      | inr e ↦ inr (prefix_of-none bits range e, ap (prefix_or_ends family range) e)
    ]

range_is : (family : Family) (range : Range) (text : List ℕ) → PrintsRange family range text → text ≡ range_text family range
range_is Asn range text is = is
range_is V4 range text is = addresses_are 32 V4 range text is
range_is V6 range text is = addresses_are 128 V6 range text is

range_prints : (family : Family) (range : Range) → PrintsRange family range (range_text family range)
range_prints Asn range = refl
range_prints V4 range = addresses_print 32 V4 range
range_prints V6 range = addresses_print 128 V6 range

pub text_of : (family : Family) (ranges : List Range) (text : List ℕ) → Prints family ranges text → text ≡ ranges_text family ranges
text_of family [] text is = is
text_of family (range ∷ []) text is = range_is family range text is
text_of family (range ∷ next ∷ ranges) text (block, (rest, (first, others, is))) =
    let one = range_is family range block first in
    let more = text_of family (next ∷ ranges) rest others in
    is ∙ (λ i. one i ++ codes ", " ++ more i)

pub prints_text : (family : Family) (ranges : List Range) → Prints family ranges (ranges_text family ranges)
prints_text family [] = refl
prints_text family (range ∷ []) = range_prints family range
prints_text family (range ∷ next ∷ ranges) =
    (range_text family range, (ranges_text family (next ∷ ranges), (range_prints family range, prints_text family (next ∷ ranges), refl)))
