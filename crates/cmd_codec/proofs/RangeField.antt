-- The field of a range and its numbers.
use Rattle.std.proofs.Common.{◌≡◌, ℕ, ◌<◌, ◌≤◌, ◌&&◌, true, false, List, ◌++◌, length, take, drop, sym, ap, ◌∙◌, arith, take-append-drop}
use Rattle.std.specs.Prelude.{nat_le, nat_lt, Ok}
use Rattle.std.proofs.Common.{inl, inr}
use Rattle.std.proofs.lemmas.Bool.{cases_Bool}
use Rattle.std.proofs.lemmas.Bool.Decides.{nat_tests}
use Rattle.std.proofs.lemmas.List.{take_all, length-take, length-drop}
use Rattle.res_sets.specs.declared.numbers.Family.{Family}
use Rattle.res_sets.specs.declared.numbers.Range.{Range}
use Rattle.res_sets.specs.Numbers.{family_end}
use Rattle.res_sets.specs.Merging.{room_from}
use Rattle.res_sets.specs.Sets.{RangeSet, GoesBehind, with_range}
use Rattle.cmd_codec.specs.Spelling.{bytes_128, range_spelling}
use Rattle.cmd_codec.specs.Fault.{Place, further, front_128, is_range}
use Rattle.cmd_codec.specs.Outcome.{ReadsRange}
use Rattle.cmd_codec.proofs.Ways.{passes_field}
use Rattle.cmd_codec.proofs.Fronts.{front_128-within}

-- What a field was read as.
pub record HasEnds (left field : List ℕ) (first last : ℕ) : Type 0 where
  pub long : 32 ≤ length left
  pub taken : field ≡ take 32 left
  pub first_is : first ≡ front_128 (drop 0 field)
  pub last_is : last ≡ front_128 (drop 16 field)
  pub first_bytes : bytes_128 first ≡ take 16 (drop 0 field)
  pub last_bytes : bytes_128 last ≡ take 16 (drop 16 field)

pub length_field : (left field : List ℕ) → 32 ≤ length left → field ≡ take 32 left → length field ≡ 32
length_field left field long taken = omega (arith, ap (λ (b : List ℕ). length b) taken, length-take 32 left)

tested : (family : Family) (low first last : ℕ) (left field : List ℕ) → HasEnds left field first last
    → is_range family low (take 32 left) ≡ (nat_le low first && nat_le first last && nat_lt last (family_end family))
tested family low first last left field has =
    rw (← has.taken) (λ i. nat_le low (sym has.first_is i) && nat_le (sym has.first_is i) (sym has.last_is i) && nat_lt (sym has.last_is i) (family_end family))

pub falls : (family : Family) (low first last : ℕ) (left field : List ℕ) → HasEnds left field first last → last < first → is_range family low (take 32 left) ≡ false
falls family low first last left field has less =
    let test = tested family low first last left field has in
    let none : (nat_le low first && nat_le first last && nat_lt last (family_end family)) ≡ false = grind (arith, nat_tests) in
    test ∙ none

pub not_behind : (set : RangeSet) (range : Range) (left field : List ℕ) → HasEnds left field range.first range.last → ¬ GoesBehind set range
    → is_range set.family (room_from 0 set.ranges) (take 32 left) ≡ false
not_behind set range left field has none =
    let test = tested set.family (room_from 0 set.ranges) range.first range.last left field has in
    elim (cases_Bool (is_range set.family (room_from 0 set.ranges) (take 32 left))) [
      | inl all ↦
          let both = sym test ∙ all in
          absurd (none (record { apart = grind (arith, nat_tests, both); within = grind (arith, nat_tests, both) }))
      | inr lacks ↦ lacks
    ]

pub is_behind : (set : RangeSet) (range : Range) (left field : List ℕ) → HasEnds left field range.first range.last → GoesBehind set range
    → is_range set.family (room_from 0 set.ranges) (take 32 left) ≡ true
is_behind set range left field has behind =
    let ordered : range.first ≤ range.last = range.ordered in
    let apart : room_from 0 set.ranges ≤ range.first = behind.apart in
    let within : range.last < family_end set.family = behind.within in
    let all : (nat_le (room_from 0 set.ranges) range.first && nat_le range.first range.last && nat_lt range.last (family_end set.family)) ≡ true = grind (arith, nat_tests) in
    tested set.family (room_from 0 set.ranges) range.first range.last left field has ∙ all

pub range_spelled : (range : Range) (left field : List ℕ) → HasEnds left field range.first range.last → range_spelling range ≡ take 32 left
unfolding range_spelling
range_spelled range left field has =
    let size = length_field left field has.long has.taken in
    let rest : take 16 (drop 16 field) ≡ drop 16 field = take_all 16 (drop 16 field) (omega (arith, size, length-drop 16 field)) in
    (λ i. has.first_bytes i ++ (has.last_bytes ∙ rest) i) ∙ take-append-drop 16 field ∙ has.taken

pub last_front : (range : Range) (left field : List ℕ) → HasEnds left field range.first range.last → range.last ≡ front_128 (drop 16 left)
last_front range left field has = has.last_is ∙ ap (λ (b : List ℕ). front_128 (drop 16 b)) has.taken ∙ front_128-within left

pub ends_of : (left field : List ℕ) (first last : ℕ) → 32 ≤ length left → field ≡ take 32 left → first ≡ front_128 (drop 0 field) → bytes_128 first ≡ take 16 (drop 0 field)
    → last ≡ front_128 (drop 16 field) → bytes_128 last ≡ take 16 (drop 16 field) → HasEnds left field first last
ends_of left field first last long taken a b c d = record { long = long; taken = taken; first_is = a; last_is = c; first_bytes = b; last_bytes = d }

pub reads_range : (set after : RangeSet) (range : Range) (old new : Place) (field : List ℕ) → GoesBehind set range → after ≡ with_range set range
    → HasEnds old.left field range.first range.last → new ≡ further 32 old → ReadsRange set after old new (Ok tt)
reads_range set after range old new field behind is has moved = (
  range,
  behind,
  is,
  last_front range old.left field has,
  passes_field 32 (is_range set.family (room_from 0 set.ranges)) old new (range_spelling range) has.long (is_behind set range old.left field has behind) moved (range_spelled range old.left field has),
)
