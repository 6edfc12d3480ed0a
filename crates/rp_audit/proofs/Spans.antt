-- A set of numbers has a whole span exactly where one of its ranges has it.
use Rattle.std.proofs.Common.{◌≡◌, ℕ, ◌+◌, ◌-◌, ◌<◌, ◌≤◌, ◌^◌, ◌/◌, ◌%◌, List, [], ◌∷◌, Bool, true, false, true≢false, map, refl, sym, ap, ◌∙◌, inl, inr, arith}
use Rattle.std.specs.Prelude.{◌&&◌, ◌||◌, nat_le, IsTrue, ◌↔◌}
use Rattle.std.specs.Cmp.{both_ways}
use Rattle.std.proofs.lemmas.Bool.{and_parts, and_from}
use Rattle.std.proofs.lemmas.Grind.{common_steps}
use Rattle.std.proofs.lemmas.Bool.Decides.{nat_tests}
use Rattle.res_sets.specs.declared.numbers.Range.{Range}
use Rattle.res_sets.specs.Numbers.{spans, any_spans, RisesFrom}
use Rattle.res_ext.specs.Formats.{span_of}
use Rattle.cert_obj.specs.Values.{Sets}
use Rattle.rp_rules.specs.Holdings.{Span, has_span, is_inside as inside, are_inside}

or_split : (a b : Bool) → (a || b) ≡ true → (a ≡ false → b ≡ true)
or_split true b e nay = absurd (true≢false nay)
or_split false b e nay = e

or_left : (a b : Bool) → a ≡ true → (a || b) ≡ true
or_left true b e = refl
or_left false b e = absurd (true≢false (sym e))

or_right : (a b : Bool) → b ≡ true → (a || b) ≡ true
or_right true b e = refl
or_right false b e = e

or_cases : {P : Type 0} (a b : Bool) → (a || b) ≡ true → (a ≡ true → P) → (b ≡ true → P) → P
or_cases true b e one other = one refl
or_cases false b e one other = other e

le_true : (a b : ℕ) → a ≤ b → nat_le a b ≡ true
le_true a b h = grind (arith, nat_tests)

le_from : (a b : ℕ) → nat_le a b ≡ true → a ≤ b
le_from a b h = grind (arith, nat_tests)

spans_true : (r : Range) (n : ℕ) → r.first ≤ n → n ≤ r.last → spans r n ≡ true
spans_true r n low high = and_from (nat_le r.first n) (nat_le n r.last) (le_true r.first n low) (le_true n r.last high)

spans_from : (r : Range) (n : ℕ) → spans r n ≡ true → (r.first ≤ n) × (n ≤ r.last)
spans_from r n e =
    let both = and_parts (nat_le r.first n) (nat_le n r.last) e in
    (le_from r.first n both.0, le_from n r.last both.1)

-- No number of ranges that rise from a number lies below it.
rising_low : (low : ℕ) (ranges : List Range) (n : ℕ) → RisesFrom low ranges → any_spans ranges n ≡ true → low ≤ n
rising_low low [] n rises e = absurd (true≢false (sym e))
rising_low low (r ∷ rs) n rises e =
    or_cases (spans r n) (any_spans rs n) e
    (λ one. let at = spans_from r n one in omega (arith, rises.0, at.0))
    (λ other. let above : r.last + 2 ≤ n = rising_low (r.last + 2) rs n rises.1 other in omega (arith, rises.0, r.ordered, above))

abbrev AllIn : List Range → ℕ → ℕ → Type 0
AllIn ranges first last = (n : ℕ) → first ≤ n → n ≤ last → any_spans ranges n ≡ true

not_above : (a b : ℕ) → (b < a → ⊥) → a ≤ b
not_above a b nay = omega (arith, nay)

in_first : (r : Range) (rs : List Range) (first last : ℕ) → RisesFrom (r.last + 2) rs → (r.first ≤ first) × (first ≤ r.last) → AllIn (r ∷ rs) first last → has_span (map span_of (r ∷ rs)) (first, last) ≡ true
in_first r rs first last rises at all =
    let within : last ≤ r.last = not_above last r.last (λ above.
    or_cases (spans r (r.last + 1)) (any_spans rs (r.last + 1)) (all (r.last + 1) (omega (arith, at.1)) (omega (arith, above)))
    (λ here. let nay = spans_from r (r.last + 1) here in omega (arith, nay.1))
    (λ there. let nay : r.last + 2 ≤ r.last + 1 = rising_low (r.last + 2) rs (r.last + 1) rises there in omega (arith, nay))) in
    or_left (nat_le r.first first && nat_le last r.last) (has_span (map span_of rs) (first, last))
    (and_from (nat_le r.first first) (nat_le last r.last) (le_true r.first first at.0) (le_true last r.last within))

-- Where each number of a span is in, one range has it.
covered : (low : ℕ) (ranges : List Range) (first last : ℕ) → RisesFrom low ranges → first ≤ last → AllIn ranges first last → has_span (map span_of ranges) (first, last) ≡ true
covered low [] first last rises order all = absurd (true≢false (sym (all first (omega arith) order)))
covered low (r ∷ rs) first last rises order all =
    or_cases (spans r first) (any_spans rs first) (all first (omega arith) order)
    (λ one. in_first r rs first last rises.1 (spans_from r first one) all)
    (λ other.
    let above : r.last + 2 ≤ first = rising_low (r.last + 2) rs first rises.1 other in
    or_right (nat_le r.first first && nat_le last r.last) (has_span (map span_of rs) (first, last))
    (covered (r.last + 2) rs first last rises.1 order (λ n from to.
    or_cases (spans r n) (any_spans rs n) (all n from to)
    (λ here. let at = spans_from r n here in absurd (omega (arith, at.1, above, from)))
    (λ there. there))))

-- Where one range has a span, each number of it is in.
has_each : (ranges : List Range) (first last n : ℕ) → first ≤ n → n ≤ last → has_span (map span_of ranges) (first, last) ≡ true → any_spans ranges n ≡ true
has_each [] first last n from to e = e
has_each (r ∷ rs) first last n from to e =
    or_cases (nat_le r.first first && nat_le last r.last) (has_span (map span_of rs) (first, last)) e
    (λ one.
    let both = and_parts (nat_le r.first first) (nat_le last r.last) one in
    let low : r.first ≤ first = le_from r.first first both.0 in
    let high : last ≤ r.last = le_from last r.last both.1 in
    or_left (spans r n) (any_spans rs n) (spans_true r n (omega (arith, low, from)) (omega (arith, high, to))))
    (λ other. or_right (spans r n) (any_spans rs n) (has_each rs first last n from to other))

-- What a look-up of a range answers.
pub range_held : (ranges : List Range) (range : Range) (yea : Bool) → RisesFrom 0 ranges
    → IsTrue yea ↔ ((n : ℕ) → IsTrue (spans range n) → IsTrue (any_spans ranges n)) → yea ≡ has_span (map span_of ranges) (range.first, range.last)
range_held ranges range yea rises told =
    both_ways yea (has_span (map span_of ranges) (range.first, range.last))
    (λ y. covered 0 ranges range.first range.last rises range.ordered (λ n from to. told.0 y n (spans_true range n from to)))
    (λ h. told.1 (λ n at. let where_ = spans_from range n at in has_each ranges range.first range.last n where_.0 where_.1 h))

-- ---- a set is inside itself

more_inside : (one : Span) (set other : List Span) → inside set other ≡ true → inside set (one ∷ other) ≡ true
more_inside one [] other e = refl
more_inside one (s ∷ ss) other e =
    let both = and_parts (has_span other s) (inside ss other) e in
    and_from (has_span (one ∷ other) s) (inside ss (one ∷ other)) (or_right (nat_le one.0 s.0 && nat_le s.1 one.1) (has_span other s) both.0) (more_inside one ss other both.1)

inside_itself : (set : List Span) → inside set set ≡ true
inside_itself [] = refl
inside_itself (s ∷ ss) =
    and_from (has_span (s ∷ ss) s) (inside ss (s ∷ ss))
    (or_left (nat_le s.0 s.0 && nat_le s.1 s.1) (has_span ss s) (and_from (nat_le s.0 s.0) (nat_le s.1 s.1) (le_true s.0 s.0 (omega arith)) (le_true s.1 s.1 (omega arith))))
    (more_inside s ss ss (inside_itself ss))

-- What is inherited is inside the issuer's.
pub held_inside : (sets : Sets) → are_inside sets sets ≡ true
held_inside sets =
    and_from (inside sets.asn sets.asn && inside sets.v4 sets.v4) (inside sets.v6 sets.v6)
    (and_from (inside sets.asn sets.asn) (inside sets.v4 sets.v4) (inside_itself sets.asn) (inside_itself sets.v4)) (inside_itself sets.v6)
