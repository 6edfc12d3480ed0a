-- The identifiers that a set has.
use Rattle.std.specs.Prelude.{ℕ, List, Bool}
use Rattle.std.specs.Cmp.Lexicographic.{slice_cmp}
use Rattle.std.specs.Ordering.{nat_cmp}
use Rattle.std.specs.BTreeSet.{BTreeSet, contains_by}

abbrev pub has : BTreeSet (List ℕ) → List ℕ → Bool
has id_set id = contains_by (slice_cmp nat_cmp id) id_set
