-- Objects that stand, by their positions in the table.
use Rattle.std.specs.Prelude.{◌≡◌, ℕ, suc, ◌==◌, ◌<◌, Bool, false, if◌then◌else◌, List, [], ◌∷◌}
use Rattle.std.specs.Prelude.{length, get_or, slice_get, Option, None, Some, option_map, option_and_then}
use Rattle.std.specs.List.{list_any}
use Rattle.key_roll.specs.declared.issued.IssuedRow.{IssuedRow}
use Rattle.pub_set.specs.Objects.{is_same}

-- The position of the first row at a URI.
abbrev pub position_in : List IssuedRow → List ℕ → Option ℕ
position_in [] uri = None
position_in (row ∷ rows) uri =
    if is_same row.uri uri then Some 0 else option_map suc (position_in rows uri)

-- The first row at a URI, by its position.
abbrev pub found_in : List IssuedRow → List ℕ → Option IssuedRow
found_in issued uri = option_and_then (slice_get issued) (position_in issued uri)

-- The position, where what stands there serves.
abbrev pub serving_at : (IssuedRow → Bool) → ℕ → Option IssuedRow → Option ℕ
serving_at serves position None = None
serving_at serves position (Some row) = if serves row then Some position else None

-- The position of what stands at a URI, if that serves.
abbrev pub kept_at : List IssuedRow → (IssuedRow → Bool) → Option (List ℕ) → Option ℕ
kept_at issued serves place =
    option_and_then (λ position. serving_at serves position (slice_get issued position))
    (option_and_then (position_in issued) place)

-- A mark for each of so many positions that is among these.
pub record AreMarks (count : ℕ) (positions : List ℕ) (marks : List Bool) : Type 0 where
  pub long : length marks ≡ count
  pub each : (position : ℕ) → position < count
      → get_or marks position false ≡ list_any (λ other. other == position) positions

-- The rows without a mark.
abbrev pub unmarked : List Bool → List IssuedRow → List IssuedRow
unmarked [] rows = []
unmarked (mark ∷ marks) [] = []
unmarked (mark ∷ marks) (row ∷ rows) =
    if mark then unmarked marks rows else row ∷ unmarked marks rows
