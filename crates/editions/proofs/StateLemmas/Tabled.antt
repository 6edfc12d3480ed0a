-- The table of what stands after changes, by what comes to the one before.
use Rattle.std.proofs.Common.{◌≡◌, ℕ, refl, ◌∙◌, ap, List, Some, None}
use Rattle.std.specs.Prelude.{Option}
use Rattle.key_roll.specs.declared.issued.IssuedRow.{IssuedRow}
use Rattle.pub_set.specs.declared.steps.Change.{Change}
use Rattle.pub_set.specs.Changes.{uri_of, change_at}
use Rattle.editions.specs.declared.standing.NextRow.{NextRow}
use Rattle.editions.specs.Joining.{IsJoined}
use Rattle.editions.specs.Standing.{row_at, row_after, next_uri, coming_row, next_row, IsTableAfter}

abbrev pub row_uri : IssuedRow → List ℕ
row_uri row = row.uri

-- The table once these come.
abbrev pub IsComing : List IssuedRow → List NextRow → List IssuedRow → Type 0
IsComing old coming new = IsJoined row_uri next_uri row_uri next_row old coming new

row_then : (row : Option IssuedRow) (change : Option Change) (issued : Option IssuedRow) → next_row row (coming_row issued change) ≡ row_after row change issued
row_then row None None = refl
row_then row (Some change) None = refl
row_then row change (Some issued) = refl

pub table_after : (old : List IssuedRow) (changes : List Change) (issued : List IssuedRow) (coming : List NextRow) (new : List IssuedRow) →
    IsJoined row_uri uri_of next_uri coming_row issued changes coming → IsComing old coming new → IsTableAfter old changes issued new
table_after old changes issued coming new comes joined = record {
  rising = joined.rising;
  each = λ uri.
      joined.each uri
      ∙ (ap (next_row (row_at old uri)) (comes.each uri)
      ∙ row_then (row_at old uri) (change_at changes uri) (row_at issued uri));
}
