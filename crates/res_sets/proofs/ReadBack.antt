-- What is printed is read back.
use Rattle.std.proofs.Common.{◌≡◌, ℕ, ◌+◌, ◌<◌, ◌≤◌, ◌^◌, Bool, true, false, ◌==◌, List, [], ◌∷◌, ◌++◌, codes, decimal, suc, length, length-append, take, drop, reverse, inl, inr, Ok, refl, ap, sym, subst, ◌∙◌, append_assoc, append-nil, ◌||◌, arith}
use Rattle.std.specs.Bool.{MatchBool}
use Rattle.std.specs.List.{list_any, list_all, position_or_len, before_first, after_first}
use Rattle.std.proofs.lemmas.Bool.{or_parts, or_from, cond-false, cond-true}
use Rattle.std.proofs.lemmas.Bool.Decides.{nat_tests}
use Rattle.std.proofs.lemmas.Grind.{common_steps}
use Rattle.std.proofs.lemmas.List.{reverse-append, reverse-reverse}
use Rattle.std.proofs.lemmas.List.Folds.{list_any-append}
use Rattle.ip_text.specs.Number.{IsDecimalText}
use Rattle.ip_text.specs.Ipv6.{IsIpv6Text, ipv6_text}
use Rattle.ip_text.specs.laws.NumberLaws.{decimal_text}
use Rattle.res_sets.specs.declared.numbers.Family.{Family}
use Rattle.res_sets.specs.declared.numbers.Family.TheVariants.{Asn, V4, V6}
use Rattle.res_sets.specs.declared.numbers.Range.{Range}
use Rattle.res_sets.specs.Numbers.{family_end, any_spans}
use Rattle.res_sets.specs.Sets.{RangeSet, IsCanonical}
use Rattle.res_sets.specs.Blocks.{is_blank, is_comma, is_hyphen, is_slash, without_leading, without_trailing, blocks}
use Rattle.res_sets.specs.Prefixes.{IsPrefixRange}
use Rattle.res_sets.specs.Texts.{Writes, ReadsAddress, ReadsOne, ReadsBlock, AllRead, Spells}
use Rattle.res_sets.specs.Printed.{number_text, ends_text, as_text, PrintsAddresses, PrintsRange, Prints}
use Rattle.res_sets.proofs.Plain.{is_mark, Lacks, Lacks-append, Lacks-weaker, decimal_is_plain, number_is_plain}
use Rattle.res_sets.proofs.Parts.{blocks_left, left_next, left_last, blocks_are_left}

-- what stands before and behind the first byte that passes
record SplitsAt (p : ℕ → Bool) (text before after : List ℕ) : Type 0 where
  found : list_any p text ≡ true
  before_is : before_first p text ≡ before
  after_is : after_first p text ≡ after

place_here : (p : ℕ → Bool) (a b : List ℕ) (c : ℕ) → Lacks p a → p c ≡ true → position_or_len p (a ++ c ∷ b) ≡ length a
place_here p [] b c lacks passes = grind (arith, nat_tests, passes)
place_here p (x ∷ a) b c lacks passes =
    let parts = or_parts (p x) (list_any p a) lacks in
    grind (arith, nat_tests, parts, place_here p a b c parts.1 passes)

any_here : (p : ℕ → Bool) (a b : List ℕ) (c : ℕ) → p c ≡ true → list_any p (a ++ c ∷ b) ≡ true
any_here p a b c passes = grind (arith, nat_tests, list_any-append p a (c ∷ b), passes)

take_here : (a b : List ℕ) → take (length a) (a ++ b) ≡ a
take_here a b = grind (arith, common_steps)

drop_here : (a b : List ℕ) (c : ℕ) → drop (length a + 1) (a ++ c ∷ b) ≡ b
drop_here [] b c = refl
drop_here (x ∷ a) b c =
    let e : length (x ∷ a) + 1 ≡ suc (length a + 1) = omega arith in
    ap (λ (k : ℕ). drop k (x ∷ (a ++ c ∷ b))) e ∙ drop_here a b c

splits_here : (p : ℕ → Bool) (a b : List ℕ) (c : ℕ) → Lacks p a → p c ≡ true → SplitsAt p (a ++ c ∷ b) a b
splits_here p a b c lacks passes =
    let place = place_here p a b c lacks passes in
    record {
      found = any_here p a b c passes;
      before_is = ap (λ (k : ℕ). take k (a ++ c ∷ b)) place ∙ take_here a (c ∷ b);
      after_is = ap (λ (k : ℕ). drop (k + 1) (a ++ c ∷ b)) place ∙ drop_here a b c;
    }

no_mark : (b : ℕ) → is_mark b ≡ false → (is_blank b ≡ false) × (is_comma b ≡ false) × (is_hyphen b ≡ false) × (is_slash b ≡ false)
no_mark b none =
    let halves = or_parts (is_blank b || is_comma b) (is_hyphen b || is_slash b) none in
    let first = or_parts (is_blank b) (is_comma b) halves.0 in
    let second = or_parts (is_hyphen b) (is_slash b) halves.1 in
    (first.0, first.1, second.0, second.1)

no_blank : (text : List ℕ) → Lacks is_mark text → Lacks is_blank text
no_blank text plain = Lacks-weaker is_mark is_blank text (λ b none. (no_mark b none).0) plain

no_comma : (text : List ℕ) → Lacks is_mark text → Lacks is_comma text
no_comma text plain = Lacks-weaker is_mark is_comma text (λ b none. (no_mark b none).1) plain

no_hyphen : (text : List ℕ) → Lacks is_mark text → Lacks is_hyphen text
no_hyphen text plain = Lacks-weaker is_mark is_hyphen text (λ b none. (no_mark b none).2) plain

no_slash : (text : List ℕ) → Lacks is_mark text → Lacks is_slash text
no_slash text plain = Lacks-weaker is_mark is_slash text (λ b none. (no_mark b none).3) plain

-- without blanks there are none to drop
leading_none : (text more : List ℕ) → 0 < length text → Lacks is_blank text → without_leading (text ++ more) ≡ text ++ more
leading_none [] more some lacks = absurd (omega arith)
leading_none (b ∷ text) more some lacks =
    let parts = or_parts (is_blank b) (list_any is_blank text) lacks in
    cond-false (is_blank b) (without_leading (text ++ more)) ((b ∷ text) ++ more) parts.0

without_leading-none : (text : List ℕ) → Lacks is_blank text → without_leading text ≡ text
without_leading-none [] lacks = refl
without_leading-none (b ∷ text) lacks =
    let parts = or_parts (is_blank b) (list_any is_blank text) lacks in
    cond-false (is_blank b) (without_leading text) (b ∷ text) parts.0

lacks_reverse : (p : ℕ → Bool) (text : List ℕ) → Lacks p text → Lacks p (reverse text)
lacks_reverse p [] lacks = refl
lacks_reverse p (b ∷ text) lacks =
    let parts = or_parts (p b) (list_any p text) lacks in
    let one : Lacks p (b ∷ []) = or_from (p b) false parts.0 refl in
    subst (λ (t : List ℕ). Lacks p t) (sym (reverse-append (b ∷ []) text)) (Lacks-append p (reverse text) (b ∷ []) (lacks_reverse p text parts.1) one)

without_trailing-none : (text : List ℕ) → Lacks is_blank text → without_trailing text ≡ text
without_trailing-none text lacks = ap reverse (without_leading-none (reverse text) (lacks_reverse is_blank text lacks)) ∙ reverse-reverse text

chosen_true : (b : Bool) (P Q : Type 0) → b ≡ true → P → MatchBool b P Q
chosen_true b P Q is p = subst (λ (x : Bool). MatchBool x P Q) (sym is) p

chosen_false : (b : Bool) (P Q : Type 0) → b ≡ false → Q → MatchBool b P Q
chosen_false b P Q is q = subst (λ (x : Bool). MatchBool x P Q) (sym is) q

abbrev Own : Type 0
Own = (a : ℕ) → a < 2 ^ 128 → IsIpv6Text (ipv6_text a) a

writes_own : Own → (family : Family) (n : ℕ) → n < family_end family → Writes family (number_text family n) n
writes_own own Asn n fits = record { fits = fits; spelled = inr (codes "AS", decimal n, refl, refl, decimal_text n (omega (arith, fits))) }
writes_own own V4 n fits = (fits, refl)
writes_own own V6 n fits = own n fits

-- a block that is read as the range, and that nothing parts
record ReadsBack (family : Family) (range : Range) (block : List ℕ) : Type 0 where
  some : 0 < length block
  blanks : Lacks is_blank block
  commas : Lacks is_comma block
  reads : ReadsBlock family block (Ok range)

between : (a b : List ℕ) (c : ℕ) → a ++ (c ∷ []) ++ b ≡ a ++ c ∷ b
between a b c = append_assoc a (c ∷ []) b

ends_back : Own → (family : Family) (range : Range) (block : List ℕ) → range.last < family_end family → block ≡ ends_text family range → ReadsBack family range block
ends_back own family range block fits is =
    let ordered : range.first ≤ range.last = range.ordered in
    let first = number_is_plain family range.first own (omega (arith, fits)) in
    let last = number_is_plain family range.last own fits in
    let a : List ℕ = number_text family range.first in
    let b : List ℕ = number_text family range.last in
    let whole : block ≡ a ++ 45 ∷ b = is ∙ between a b 45 in
    let split = splits_here is_hyphen a b 45 (no_hyphen a first.plain) refl in
    record {
      some = omega (arith, ap length whole, length-append a (45 ∷ b));
      blanks = subst (λ (t : List ℕ). Lacks is_blank t) (sym whole) (Lacks-append is_blank a (45 ∷ b) (no_blank a first.plain) (no_blank b last.plain));
      commas = subst (λ (t : List ℕ). Lacks is_comma t) (sym whole) (Lacks-append is_comma a (45 ∷ b) (no_comma a first.plain) (no_comma b last.plain));
      reads =
          subst (λ (t : List ℕ). ReadsBlock family t (Ok range)) (sym whole)
          (chosen_true (list_any is_hyphen (a ++ 45 ∷ b)) _ _ split.found (
            subst (λ (t : List ℕ). Writes family t range.first) (sym (ap without_trailing split.before_is ∙ without_trailing-none a (no_blank a first.plain))) (writes_own own family range.first (omega (arith, fits))),
            subst (λ (t : List ℕ). Writes family t range.last) (sym (ap without_leading split.after_is ∙ without_leading-none b (no_blank b last.plain))) (writes_own own family range.last fits),
          ));
    }

alone_back : Own → (range : Range) → range.last < 2 ^ 32 → range.last ≡ range.first → ReadsBack Asn range (number_text Asn range.first)
alone_back own range fits same =
    let plain = number_is_plain Asn range.first own (omega (arith, fits, same)) in
    let a : List ℕ = number_text Asn range.first in
    record {
      some = plain.some;
      blanks = no_blank a plain.plain;
      commas = no_comma a plain.plain;
      reads = chosen_false (list_any is_hyphen a) _ _ (no_hyphen a plain.plain) (writes_own own Asn range.first (omega (arith, fits, same)), same);
    }

prefix_back : Own → (bits len : ℕ) (family : Family) (range : Range) (block : List ℕ) → bits ≤ 128 → range.last < family_end family → IsPrefixRange bits len range
    → ((t : List ℕ) → ReadsAddress bits family t (Ok range) → ReadsOne family t (Ok range))
    → block ≡ number_text family range.first ++ codes "/" ++ decimal len → ReadsBack family range block
prefix_back own bits len family range block small fits prefix to_one is =
    let ordered : range.first ≤ range.last = range.ordered in
    let short : len ≤ 128 = omega (arith, small, prefix.short) in
    let first = number_is_plain family range.first own (omega (arith, fits)) in
    let a : List ℕ = number_text family range.first in
    let b : List ℕ = decimal len in
    let plain = decimal_is_plain len (omega (arith, short)) in
    let whole : block ≡ a ++ 47 ∷ b = is ∙ between a b 47 in
    let split = splits_here is_slash a b 47 (no_slash a first.plain) refl in
    record {
      some = omega (arith, ap length whole, length-append a (47 ∷ b));
      blanks = subst (λ (t : List ℕ). Lacks is_blank t) (sym whole) (Lacks-append is_blank a (47 ∷ b) (no_blank a first.plain) (no_blank b plain));
      commas = subst (λ (t : List ℕ). Lacks is_comma t) (sym whole) (Lacks-append is_comma a (47 ∷ b) (no_comma a first.plain) (no_comma b plain));
      reads =
          subst (λ (t : List ℕ). ReadsBlock family t (Ok range)) (sym whole)
          (chosen_false (list_any is_hyphen (a ++ 47 ∷ b)) _ _ (Lacks-append is_hyphen a (47 ∷ b) (no_hyphen a first.plain) (no_hyphen b plain))
          (to_one (a ++ 47 ∷ b) (chosen_true (list_any is_slash (a ++ 47 ∷ b)) _ _ split.found (
            subst (λ (t : List ℕ). Writes family t range.first) (sym split.before_is) (writes_own own family range.first (omega (arith, fits))),
            (len, (subst (λ (t : List ℕ). IsDecimalText t len) (sym split.after_is) (decimal_text len (omega (arith, short))), prefix)),
          ))));
    }

addresses_back : Own → (bits : ℕ) (family : Family) (range : Range) (block : List ℕ) → bits ≤ 128 → range.last < family_end family
    → ((t : List ℕ) → ReadsAddress bits family t (Ok range) → ReadsOne family t (Ok range)) → PrintsAddresses bits family range block → ReadsBack family range block
addresses_back own bits family range block small fits to_one (inl (len, (prefix, is))) = prefix_back own bits len family range block small fits prefix to_one is
addresses_back own bits family range block small fits to_one (inr (none, is)) = ends_back own family range block fits is

as_back : Own → (range : Range) (block : List ℕ) → range.last < 2 ^ 32 → block ≡ as_text range → ReadsBack Asn range block
as_back own range block fits is = alone_or_ends (range.first == range.last) refl
  where
    alone_or_ends : (same : Bool) → range.first == range.last ≡ same → ReadsBack Asn range block
    alone_or_ends true same =
        let e : range.last ≡ range.first = grind (arith, nat_tests, same) in
        subst (λ (t : List ℕ). ReadsBack Asn range t) (sym (is ∙ cond-true (range.first == range.last) (number_text Asn range.first) (ends_text Asn range) same)) (alone_back own range fits e)
    alone_or_ends false same = ends_back own Asn range block fits (is ∙ cond-false (range.first == range.last) (number_text Asn range.first) (ends_text Asn range) same)

range_back : Own → (family : Family) (range : Range) (block : List ℕ) → range.last < family_end family → PrintsRange family range block → ReadsBack family range block
range_back own Asn range block fits printed = as_back own range block fits printed
range_back own V4 range block fits printed = addresses_back own 32 V4 range block (omega arith) fits (λ t r. r) printed
range_back own V6 range block fits printed = addresses_back own 128 V6 range block (omega arith) fits (λ t r. r) printed

-- a printed list is read back, and begins with no blank
record ListBack (family : Family) (ranges : List Range) (text : List ℕ) : Type 0 where
  reads : AllRead family (blocks_left text) ranges
  begins : without_leading text ≡ text
  some : list_all is_blank text ≡ false

not_all_blank : (text more : List ℕ) → 0 < length text → Lacks is_blank text → list_all is_blank (text ++ more) ≡ false
not_all_blank [] more some lacks = absurd (omega arith)
not_all_blank (b ∷ text) more some lacks =
    let parts = or_parts (is_blank b) (list_any is_blank text) lacks in
    grind (arith, nat_tests, parts)

last_back : (family : Family) (range : Range) (block : List ℕ) → ReadsBack family range block → ListBack family (range ∷ []) block
last_back family range block back = record {
  reads = subst (λ (x : List (List ℕ)). AllRead family x (range ∷ [])) (sym (left_last block back.commas)) (back.reads, tt);
  begins = without_leading-none block back.blanks;
  some = subst (λ (t : List ℕ). list_all is_blank t ≡ false) (append-nil block) (not_all_blank block [] back.some back.blanks);
}

next_back : (family : Family) (range : Range) (ranges : List Range) (block rest text : List ℕ) → ReadsBack family range block → ListBack family ranges rest
    → text ≡ block ++ codes ", " ++ rest → ListBack family (range ∷ ranges) text
next_back family range ranges block rest text back others is =
    let whole : text ≡ block ++ 44 ∷ (32 ∷ rest) = is ∙ append_assoc block (codes ", ") rest in
    let split = splits_here is_comma block (32 ∷ rest) 44 back.commas refl in
    let begins : without_leading (32 ∷ rest) ≡ rest = others.begins in
    let left : blocks_left (block ++ 44 ∷ (32 ∷ rest)) ≡ block ∷ blocks_left rest =
    left_next (block ++ 44 ∷ (32 ∷ rest)) split.found
    ∙ (ap (λ (b : List ℕ). without_trailing b ∷ blocks_left (without_leading (after_first is_comma (block ++ 44 ∷ (32 ∷ rest))))) split.before_is
    ∙ (ap (λ (b : List ℕ). b ∷ blocks_left (without_leading (after_first is_comma (block ++ 44 ∷ (32 ∷ rest))))) (without_trailing-none block back.blanks)
    ∙ (ap (λ (t : List ℕ). block ∷ blocks_left (without_leading t)) split.after_is ∙ ap (λ (t : List ℕ). block ∷ blocks_left t) begins))) in
    record {
      reads = subst (λ (t : List ℕ). AllRead family (blocks_left t) (range ∷ ranges)) (sym whole) (subst (λ (x : List (List ℕ)). AllRead family x (range ∷ ranges)) (sym left) (back.reads, others.reads));
      begins = subst (λ (t : List ℕ). without_leading t ≡ t) (sym whole) (leading_none block (44 ∷ (32 ∷ rest)) back.some back.blanks);
      some = subst (λ (t : List ℕ). list_all is_blank t ≡ false) (sym whole) (not_all_blank block (44 ∷ (32 ∷ rest)) back.some back.blanks);
    }

fits_head : (family : Family) (range : Range) (ranges : List Range) → ((n : ℕ) → any_spans (range ∷ ranges) n ≡ true → n < family_end family) → range.last < family_end family
fits_head family range ranges within =
    let ordered : range.first ≤ range.last = range.ordered in
    let last = within range.last in
    grind (arith, nat_tests, last)

fits_rest : (family : Family) (range : Range) (ranges : List Range) → ((n : ℕ) → any_spans (range ∷ ranges) n ≡ true → n < family_end family) → (n : ℕ) → any_spans ranges n ≡ true → n < family_end family
fits_rest family range ranges within n has = let whole = within n in grind (arith, nat_tests, whole, has)

list_back : Own → (family : Family) (range : Range) (ranges : List Range) (text : List ℕ) → ((n : ℕ) → any_spans (range ∷ ranges) n ≡ true → n < family_end family)
    → Prints family (range ∷ ranges) text → ListBack family (range ∷ ranges) text
list_back own family range [] text within printed = last_back family range text (range_back own family range text (fits_head family range [] within) printed)
list_back own family range (next ∷ ranges) text within (block, (rest, (first, others, is))) =
    next_back family range (next ∷ ranges) block rest text (range_back own family range block (fits_head family range (next ∷ ranges) within) first)
    (list_back own family next ranges rest (fits_rest family range (next ∷ ranges) within) others) is

all_back : Own → (family : Family) (ranges : List Range) (text : List ℕ) → ((n : ℕ) → any_spans ranges n ≡ true → n < family_end family) → Prints family ranges text → AllRead family (blocks text) ranges
all_back own family [] text within printed = subst (λ (t : List ℕ). AllRead family (blocks t) []) (sym printed) tt
all_back own family (range ∷ ranges) text within printed =
    let back = list_back own family range ranges text within printed in
    subst (λ (x : List (List ℕ)). AllRead family x (range ∷ ranges)) (sym (blocks_are_left text back.some)) back.reads

pub spells_back : Own → (set : RangeSet) (text : List ℕ) → IsCanonical set → Prints set.family set.ranges text → Spells set.family text set
spells_back own set text canonical printed = record {
  family = refl;
  ranges = record {
    members = (set.ranges, (all_back own set.family set.ranges text canonical.within printed, λ n. refl));
    canonical = canonical;
  };
}
