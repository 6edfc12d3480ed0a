-- What the writers need: ranges of a set lie within its family.
use Rattle.std.proofs.Common.{◌≡◌, ℕ, ◌<◌, ◌≤◌, true, List, [], ◌∷◌, ◌++◌, arith}
use Rattle.std.proofs.lemmas.List.{append-nil}
use Rattle.std.proofs.lemmas.Bool.{and_from, le-leb, or_left, or_right}
use Rattle.der.specs.Forms.{AreAll}
use Rattle.res_sets.specs.declared.numbers.Family.{Family}
use Rattle.res_sets.specs.declared.numbers.Range.{Range}
use Rattle.res_sets.specs.Numbers.{family_end, spans, any_spans, AreCanonical}
use Rattle.res_ext.specs.Prefixes.{IsAddressSize}
use Rattle.res_ext.specs.laws.FormatLaws.{v4-size, v6-size}

-- A range of numbers of a family.
abbrev pub IsWithin : Family → Range → Type 0
IsWithin family range = range.last < family_end family

each-within : (family : Family) (ranges : List Range)
    → ((n : ℕ) → any_spans ranges n ≡ true → n < family_end family)
    → AreAll (IsWithin family) ranges
each-within family [] within = tt
each-within family (r ∷ ranges) within =
    let ordered : r.first ≤ r.last = r.ordered in
    let here : spans r r.last ≡ true = and_from _ _ (le-leb r.first r.last ordered)
    (le-leb r.last r.last (omega arith)) in (
      within r.last (or_left _ _ here),
      each-within family ranges (λ n has. within n (or_right _ _ has)),
    )

pub all_within : (family : Family) (ranges : List Range) → AreCanonical family ranges
    → AreAll (IsWithin family) ranges
all_within family ranges canonical = each-within family ranges canonical.within

pub is_v4_size : IsAddressSize 32
is_v4_size = v4-size

pub is_v6_size : IsAddressSize 128
is_v6_size = v6-size

pub nothing_behind : (bytes : List ℕ) → bytes ++ [] ≡ bytes
nothing_behind bytes = append-nil bytes
