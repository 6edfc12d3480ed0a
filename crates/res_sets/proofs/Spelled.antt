-- What texts spell is of the family.
use Rattle.std.proofs.Common.{◌≡◌, ℕ, ◌-◌, ◌^◌, ◌<◌, Bool, true, false, List, [], ◌∷◌, Ok, refl, sym, subst, ◌∙◌, arith}
use Rattle.std.specs.Bool.{MatchBool}
use Rattle.std.specs.List.{list_any, before_first, after_first}
use Rattle.std.proofs.lemmas.Bool.{false≢true}
use Rattle.std.proofs.lemmas.Bool.Decides.{nat_tests}
use Rattle.ip_text.specs.Number.{IsDecimalText}
use Rattle.res_sets.specs.declared.numbers.Family.{Family}
use Rattle.res_sets.specs.declared.numbers.Family.TheVariants.{Asn, V4, V6}
use Rattle.res_sets.specs.declared.numbers.Range.{Range}
use Rattle.res_sets.specs.Numbers.{family_end, any_spans, RisesFrom}
use Rattle.res_sets.specs.Blocks.{is_hyphen, is_slash, without_leading, without_trailing, blocks}
use Rattle.res_sets.specs.Prefixes.{IsPrefixRange, ReadsPrefix}
use Rattle.res_sets.specs.Texts.{Writes, ReadsNumber, ReadsEnds, ReadsAddress, ReadsOne, ReadsBlock, AllRead, SpellsRanges}
use Rattle.res_sets.proofs.Masks.{room_above}

pub Writes-below : (family : Family) (text : List ℕ) (n : ℕ) → Writes family text n → n < family_end family
Writes-below Asn text n written = written.fits
Writes-below V4 text n written = written.0
Writes-below V6 text n written = written.fits

number_below : (family : Family) (text : List ℕ) (range : Range) → ReadsNumber (Writes family text) (Ok range) → range.last < family_end family
number_below family text range read = subst (λ (n : ℕ). n < family_end family) (sym read.1) (Writes-below family text range.first read.0)

prefix_below : (bits len : ℕ) (range : Range) → range.first < 2 ^ bits → IsPrefixRange bits len range → range.last < 2 ^ bits
prefix_below bits len range below prefix =
    let room = room_above range.first (bits - len) bits (omega arith) below prefix.no_host_bits in
    omega (arith, room, prefix.size)

address_below : (bits : ℕ) (family : Family) (block : List ℕ) (range : Range) → family_end family ≡ 2 ^ bits → ReadsAddress bits family block (Ok range) → range.last < family_end family
address_below bits family block range is read = slash_or_not (list_any is_slash block) read
  where
    slash_or_not : (slash : Bool) → MatchBool slash (ReadsPrefix bits (Writes family (before_first is_slash block)) (IsDecimalText (after_first is_slash block)) (Ok range)) (ReadsNumber (Writes family block) (Ok range)) → range.last < family_end family
    slash_or_not true r =
        subst (λ (n : ℕ). range.last < n) (sym is) (prefix_below bits r.1.0 range (subst (λ (n : ℕ). range.first < n) is (Writes-below family (before_first is_slash block) range.first r.0)) r.1.1.1)
    slash_or_not false r = number_below family block range r

one_below : (family : Family) (block : List ℕ) (range : Range) → ReadsOne family block (Ok range) → range.last < family_end family
one_below Asn block range read = number_below Asn block range read
one_below V4 block range read = address_below 32 V4 block range refl read
one_below V6 block range read = address_below 128 V6 block range refl read

block_below : (family : Family) (block : List ℕ) (range : Range) → ReadsBlock family block (Ok range) → range.last < family_end family
block_below family block range read = hyphen_or_not (list_any is_hyphen block) read
  where
    hyphen_or_not : (hyphen : Bool) → MatchBool hyphen (ReadsEnds (Writes family (without_trailing (before_first is_hyphen block))) (Writes family (without_leading (after_first is_hyphen block))) (Ok range)) (ReadsOne family block (Ok range)) → range.last < family_end family
    hyphen_or_not true r = Writes-below family (without_leading (after_first is_hyphen block)) range.last r.1
    hyphen_or_not false r = one_below family block range r

all_below : (family : Family) (bs : List (List ℕ)) (said : List Range) (n : ℕ) → AllRead family bs said → any_spans said n ≡ true → n < family_end family
all_below family [] [] n read has = absurd (false≢true has)
all_below family [] (range ∷ ranges) n read has = absurd read
all_below family (block ∷ bs) [] n read has = absurd read
all_below family (block ∷ bs) (range ∷ ranges) n read has =
    let head = block_below family block range read.0 in
    let rest = all_below family bs ranges n read.1 in
    grind (arith, nat_tests, head, rest, has)

pub SpellsRanges-from : (family : Family) (text : List ℕ) (said ranges : List Range) → AllRead family (blocks text) said → RisesFrom 0 ranges
    → ((n : ℕ) → any_spans ranges n ≡ any_spans said n) → SpellsRanges family text ranges
SpellsRanges-from family text said ranges read rises same = record {
  members = (said, (read, same));
  canonical = record { rise = rises; within = λ n has. all_below family (blocks text) said n read (sym (same n) ∙ has) };
}
