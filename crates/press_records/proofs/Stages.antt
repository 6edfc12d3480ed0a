-- Rows behind those of one authority.
use Rattle.std.proofs.Common.{◌≡◌, ℕ, ◌+◌, ◌≤◌, true, List, ◌∷◌, refl}
use Rattle.std.proofs.lemmas.Bool.{le-leb, eq-eqb, ne_eqb}
use Rattle.press_records.specs.Rows.{RowValue}
use Rattle.press_records.specs.Stages.{is_alone, are_two, are_stages}

pub behind_two : (low : ℕ) (row other : RowValue) (rest : List RowValue) → low ≤ row.desk → row.desk ≡ other.desk → are_two row other ≡ true
    → are_stages low (row ∷ other ∷ rest) ≡ are_stages (row.desk + 1) rest
behind_two low row other rest above same two = rw (le-leb low row.desk above, eq-eqb row.desk other.desk same, two) refl

pub behind_alone : (low : ℕ) (row other : RowValue) (rest : List RowValue) → low ≤ row.desk → (row.desk ≡ other.desk → ⊥) → is_alone row ≡ true
    → are_stages low (row ∷ other ∷ rest) ≡ are_stages (row.desk + 1) (other ∷ rest)
behind_alone low row other rest above unlike alone = rw (le-leb low row.desk above, ne_eqb row.desk other.desk unlike, alone) refl
