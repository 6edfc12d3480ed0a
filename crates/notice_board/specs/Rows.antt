-- What a sheet says of an authority.
use Rattle.std.specs.Prelude.{◌≡◌, ℕ, ◌==◌, List, [], Option, Some, MatchOption}
use Rattle.std.specs.List.{find}
use Rattle.notice_board.specs.declared.sheets.Sheet.{Sheet}
use Rattle.notice_board.specs.declared.shown.ShownEdition.{ShownEdition}
use Rattle.notice_board.specs.declared.sheets.SheetRow.{SheetRow}
use Rattle.notice_board.specs.declared.sheets.ShownStage.TheVariants.{Absent}
use Rattle.notice_board.specs.Lists.{last_sheet}

-- the row of an authority that the edition doesn't know: it has no key, holds nothing and
-- publishes nothing
pub record IsUnknown (number : ℕ) (row : SheetRow) : Type 0 where
  pub desk : row.desk ≡ number
  pub asn : row.certified.asn.ranges ≡ []
  pub v4 : row.certified.v4.ranges ≡ []
  pub v6 : row.certified.v6.ranges ≡ []
  pub stage : row.stage ≡ Absent
  pub published : row.published ≡ []

-- the first row of that desk
abbrev pub row_of : List SheetRow → ℕ → Option SheetRow
row_of rows desk = find (λ row. row.desk == desk) rows

-- the row is that of the desk, and of an unknown authority where the desk has none
abbrev pub IsRowOf : List SheetRow → ℕ → SheetRow → Type 0
IsRowOf rows desk row = MatchOption (row_of rows desk) (IsUnknown desk row) (λ there. row ≡ there)

-- the row is that of the desk on the sheet which was shown last
abbrev pub IsRowShown : List ShownEdition → ℕ → SheetRow → Type 0
IsRowShown shown desk row =
    (sheet : Sheet) × (last_sheet shown ≡ Some sheet) × IsRowOf sheet.rows desk row
