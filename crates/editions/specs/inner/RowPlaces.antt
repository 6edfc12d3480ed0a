-- Where rows of a table stand.
use Rattle.std.specs.Prelude.{◌≡◌, ◌≢◌, ℕ, ◌<◌, ◌≤◌, List, [], ◌∷◌, ◌++◌, length, take, drop}
use Rattle.std.specs.Prelude.{slice_index_or, option_to_list}
use Rattle.std.specs.Prelude.{Option, None, Some, Result, Ok, Err}
use Rattle.std.specs.declared.cmp.Ordering.{Ordering}
use Rattle.key_roll.specs.declared.issued.IssuedRow.{IssuedRow}
use Rattle.pub_set.specs.Objects.{uri_cmp, Rise, AllBelow, AllAbove}
use Rattle.editions.specs.declared.standing.NextRow.{NextRow}
use Rattle.editions.specs.declared.standing.NextRow.TheVariants.{Issued, Gone}
use Rattle.editions.specs.Joining.{at_uri, IsJoined}
use Rattle.editions.specs.Standing.{row_at, next_uri, next_row}

-- Where the row at a URI is, or else where it would stand.
abbrev pub IsRowPlace : List IssuedRow → List ℕ → Result ℕ ℕ → Type 0
IsRowPlace rows uri (Ok i) =
    (i < length rows) × ((d : IssuedRow) → (slice_index_or rows i d).uri ≡ uri)
IsRowPlace rows uri (Err i) =
    (i ≤ length rows) × AllBelow (λ row. row.uri) (take i rows) uri
    × AllAbove (λ row. row.uri) (drop i rows) uri

-- The first row doesn't compare so to the URI.
abbrev pub StartsElse : List IssuedRow → List ℕ → Ordering → Type 0
StartsElse [] uri order = Unit {0}
StartsElse (row ∷ rest) uri order = uri_cmp row.uri uri ≢ order

-- The first row is taken where it compares so to the URI, and else none.
abbrev pub PopsIf : List IssuedRow → List ℕ → Ordering → Option IssuedRow → List IssuedRow → Type 0
PopsIf old uri order None new = (new ≡ old) × StartsElse old uri order
PopsIf old uri order (Some row) new = (old ≡ row ∷ new) × (uri_cmp row.uri uri ≡ order)

-- The rows with one put in, and without the one at another URI.
pub record IsExchanged (old : List IssuedRow) (gone : List ℕ) (row : IssuedRow)
    (new : List IssuedRow) : Type 0 where
  pub with : List IssuedRow
  pub came :
      IsJoined (λ row. row.uri) next_uri (λ row. row.uri) next_row old (Issued row ∷ []) with
  pub went :
      IsJoined (λ row. row.uri) next_uri (λ row. row.uri) next_row with (Gone gone ∷ []) new

-- Of what waits, and of one more that comes, so much is carried out that this is left to wait:
-- whatever comes behind them, what waits then and that come to the same.
pub record IsPutBehind (old : List IssuedRow) (waits : Option NextRow) (one : NextRow)
    (new : List IssuedRow) (left : Option NextRow) : Type 0 where
  pub rising : Rise (λ row. row.uri) new
  pub order : (rest : List NextRow) → Rise next_uri (option_to_list waits ++ one ∷ rest)
      → Rise next_uri (option_to_list left ++ rest)
  pub each : (rest : List NextRow) → Rise next_uri (option_to_list waits ++ one ∷ rest)
      → (at : List ℕ) → next_row (row_at new at) (at_uri next_uri (option_to_list left ++ rest) at)
      ≡ next_row (row_at old at) (at_uri next_uri (option_to_list waits ++ one ∷ rest) at)
