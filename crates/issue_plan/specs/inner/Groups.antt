-- Objects in the folder of a desk, one behind the other.
use Rattle.std.specs.Prelude.{◌≡◌, ℕ, ◌≤◌, ◌<◌, List, ◌++◌, length, get_or, slice_get, Some}
use Rattle.names.specs.Name.{IsName}
use Rattle.authority_book.specs.declared.rows.NameRow.{NameRow}
use Rattle.key_ids.specs.Uris.{file_uri}
use Rattle.key_roll.specs.declared.issued.IssuedRow.{IssuedRow}
use Rattle.issue_plan.specs.declared.anew.Standing.{Standing}

-- The rows from a position up to another are in that folder.
pub record AreInFolder (issued : List IssuedRow) (folder : List ℕ) (first end : ℕ) : Type 0 where
  pub within : end ≤ length issued
  pub each : (k : ℕ) (d : IssuedRow) → first ≤ k → k < end
      → (rest : List ℕ) × ((get_or issued k d).uri ≡ folder ++ rest)

-- A file in the folder of the desk's name.
pub record IsFileOf (s : Standing) (desk : ℕ) (uri : List ℕ) : Type 0 where
  pub row : NameRow
  pub at : slice_get s.names.now desk ≡ Some row
  pub named : IsName row.name
  pub rest : List ℕ
  pub is : uri ≡ file_uri s.site.now row.name rest

-- Rows from a position up to another are such files.
pub record IsGroup (s : Standing) (desk first end : ℕ) : Type 0 where
  pub within : end ≤ length s.issued.now
  pub each : (k : ℕ) (d : IssuedRow) → first ≤ k → k < end
      → IsFileOf s desk (get_or s.issued.now k d).uri
