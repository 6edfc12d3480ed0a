-- A canonical list has a span by the ends of its ranges exactly where it has the span's numbers.
use Rattle.std.proofs.Common.{◌≡◌, ℕ, ◌+◌, ◌<◌, ◌≤◌, true, false, ◌&&◌, leb, ltb, List, [], ◌∷◌, refl, arith, ◌⊎◌, inl, inr, leb-true, le-leb}
use Rattle.std.specs.Prelude.{◌↔◌}
use Rattle.std.proofs.lemmas.Bool.{and_parts, and_from, or_cases, or_left, or_right}
use Rattle.res_sets.specs.declared.numbers.Family.{Family}
use Rattle.res_sets.specs.Numbers.{family_end}
use Rattle.res_ext.specs.Formats.{are_canonical}
use Rattle.cert_obj.specs.Values.{IsListOf}
use Rattle.rp_rules.specs.Holdings.{Span, has_span, has_number, is_inside}

false-true : false ≡ true → ⊥
false-true e = cc

-- ---- canonical lists

record Canonical (end low : ℕ) (range : Span) (rest : List Span) : Type 0 where
  above : low ≤ range.0
  ordered : range.0 ≤ range.1
  behind : are_canonical end (range.1 + 2) rest ≡ true

canonical : (end low : ℕ) (range : Span) (rest : List Span) → are_canonical end low (range ∷ rest) ≡ true → Canonical end low range rest
canonical end low range rest e =
    let a = and_parts (leb low range.0 && leb range.0 range.1 && ltb range.1 end) (are_canonical end (range.1 + 2) rest) e in
    let b = and_parts (leb low range.0 && leb range.0 range.1) (ltb range.1 end) a.0 in
    let c = and_parts (leb low range.0) (leb range.0 range.1) b.0 in
    record { above = leb-true low range.0 c.0; ordered = leb-true range.0 range.1 c.1; behind = a.1 }

-- Each number is at least the bound.
at-least : (end low : ℕ) (set : List Span) (n : ℕ) → are_canonical end low set ≡ true → has_number set n ≡ true → low ≤ n
at-least end low [] n e has = absurd (false-true has)
at-least end low (range ∷ rest) n e has =
    let c = canonical end low range rest e in
    let a : low ≤ range.0 = c.above in
    let b : range.0 ≤ range.1 = c.ordered in
    elim (or_cases (leb range.0 n && leb n range.1) (has_number rest n) has) [
      | inl first ↦ let d : range.0 ≤ n = leb-true range.0 n (and_parts (leb range.0 n) (leb n range.1) first).0 in omega (arith, a, d)
      | inr later ↦ let d : range.1 + 2 ≤ n = at-least end (range.1 + 2) rest n c.behind later in omega (arith, a, b, d)
    ]

-- ---- spans

numbers-from : (set : List Span) (span : Span) → has_span set span ≡ true → (n : ℕ) → span.0 ≤ n → n ≤ span.1 → has_number set n ≡ true
numbers-from [] span e n low high = absurd (false-true e)
numbers-from (range ∷ rest) span e n low high = elim (or_cases (leb range.0 span.0 && leb span.1 range.1) (has_span rest span) e) [
  | inl first ↦
      let p = and_parts (leb range.0 span.0) (leb span.1 range.1) first in
      let a : range.0 ≤ span.0 = leb-true range.0 span.0 p.0 in
      let b : span.1 ≤ range.1 = leb-true span.1 range.1 p.1 in
      or_left (leb range.0 n && leb n range.1) (has_number rest n)
      (and_from (leb range.0 n) (leb n range.1) (le-leb range.0 n (omega (arith, a, low))) (le-leb n range.1 (omega (arith, b, high))))
  | inr later ↦ or_right (leb range.0 n && leb n range.1) (has_number rest n) (numbers-from rest span later n low high)
]

-- The span begins in this range, and ends in it: the next number behind it is in no range.
ends-there : (end low : ℕ) (range : Span) (rest : List Span) (span : Span) → Canonical end low range rest → ((n : ℕ) → span.0 ≤ n → n ≤ span.1 → has_number (range ∷ rest) n ≡ true)
    → span.0 ≤ range.1 → (range.1 < span.1) → ⊥
ends-there end low range rest span c all begins over =
    elim (or_cases (leb range.0 (range.1 + 1) && leb (range.1 + 1) range.1) (has_number rest (range.1 + 1)) (all (range.1 + 1) (omega (arith, begins)) (omega (arith, over)))) [
      | inl first ↦ let a : range.1 + 1 ≤ range.1 = leb-true (range.1 + 1) range.1 (and_parts (leb range.0 (range.1 + 1)) (leb (range.1 + 1) range.1) first).1 in omega (arith, a)
      | inr later ↦ let a : range.1 + 2 ≤ range.1 + 1 = at-least end (range.1 + 2) rest (range.1 + 1) c.behind later in omega (arith, a)
    ]

le-or-over : (a b : ℕ) → (a ≤ b) ⊎ (b < a)
le-or-over a b = grind arith

-- A number of the span behind the range isn't in it.
far-behind : (range : Span) (rest : List Span) (first n : ℕ) → range.1 + 2 ≤ first → first ≤ n → has_number (range ∷ rest) n ≡ true → has_number rest n ≡ true
far-behind range rest first n far low has = elim (or_cases (leb range.0 n && leb n range.1) (has_number rest n) has) [
  | inl inside ↦ let a : n ≤ range.1 = leb-true n range.1 (and_parts (leb range.0 n) (leb n range.1) inside).1 in absurd (omega (arith, a, far, low))
  | inr later ↦ later
]

span-from : (end low : ℕ) (set : List Span) (span : Span) → are_canonical end low set ≡ true → span.0 ≤ span.1 → ((n : ℕ) → span.0 ≤ n → n ≤ span.1 → has_number set n ≡ true) → has_span set span ≡ true
span-from end low [] span e ordered all = absurd (false-true (all span.0 (omega arith) ordered))
span-from end low (range ∷ rest) span e ordered all =
    let c = canonical end low range rest e in
    elim (or_cases (leb range.0 span.0 && leb span.0 range.1) (has_number rest span.0) (all span.0 (omega arith) ordered)) [
      | inl first ↦
          let p = and_parts (leb range.0 span.0) (leb span.0 range.1) first in
          elim (le-or-over span.1 range.1) [
            | inl within ↦ or_left (leb range.0 span.0 && leb span.1 range.1) (has_span rest span) (and_from (leb range.0 span.0) (leb span.1 range.1) p.0 (le-leb span.1 range.1 within))
            | inr over ↦ absurd (ends-there end low range rest span c all (leb-true span.0 range.1 p.1) over)
          ]
      | inr later ↦
          let far : range.1 + 2 ≤ span.0 = at-least end (range.1 + 2) rest span.0 c.behind later in
          or_right (leb range.0 span.0 && leb span.1 range.1) (has_span rest span)
          (span-from end (range.1 + 2) rest span c.behind ordered (λ n above below. far-behind range rest span.0 n far above (all n above below)))
    ]

pub span_by_numbers : (family : Family) (set : List Span) (span : Span) → IsListOf family set → span.0 ≤ span.1
    → (has_span set span ≡ true) ↔ ((n : ℕ) → span.0 ≤ n → n ≤ span.1 → has_number set n ≡ true)
span_by_numbers family set span is ordered = (numbers-from set span, span-from (family_end family) 0 set span is ordered)

-- ---- sets

inside-numbers : (set other : List Span) → is_inside set other ≡ true → (n : ℕ) → has_number set n ≡ true → has_number other n ≡ true
inside-numbers [] other e n has = absurd (false-true has)
inside-numbers (range ∷ rest) other e n has =
    let a = and_parts (has_span other range) (is_inside rest other) e in
    elim (or_cases (leb range.0 n && leb n range.1) (has_number rest n) has) [
      | inl first ↦
          let p = and_parts (leb range.0 n) (leb n range.1) first in
          numbers-from other range a.0 n (leb-true range.0 n p.0) (leb-true n range.1 p.1)
      | inr later ↦ inside-numbers rest other a.1 n later
    ]

inside-from : (end low bound : ℕ) (set other : List Span) → are_canonical end low set ≡ true → are_canonical bound 0 other ≡ true
    → ((n : ℕ) → has_number set n ≡ true → has_number other n ≡ true) → is_inside set other ≡ true
inside-from end low bound [] other e f all = refl
inside-from end low bound (range ∷ rest) other e f all =
    let c = canonical end low range rest e in
    and_from (has_span other range) (is_inside rest other)
    (span-from bound 0 other range f c.ordered (λ n above below. all n (or_left (leb range.0 n && leb n range.1) (has_number rest n)
    (and_from (leb range.0 n) (leb n range.1) (le-leb range.0 n above) (le-leb n range.1 below)))))
    (inside-from end (range.1 + 2) bound rest other c.behind f (λ n has. all n (or_right (leb range.0 n && leb n range.1) (has_number rest n) has)))

pub inside_by_numbers : (family : Family) (set other : List Span) → IsListOf family set → IsListOf family other
    → (is_inside set other ≡ true) ↔ ((n : ℕ) → has_number set n ≡ true → has_number other n ≡ true)
inside_by_numbers family set other is others = (inside-numbers set other, inside-from (family_end family) 0 (family_end family) set other is others)
