-- What stands after an edition: the set of its objects, and the table of what they say.
use Rattle.std.specs.Prelude.{◌≡◌, ℕ, List, Option, None, Some}
use Rattle.key_roll.specs.declared.issued.IssuedRow.{IssuedRow}
use Rattle.pub_set.specs.declared.objects.Object.{Object}
use Rattle.pub_set.specs.declared.steps.Change.{Change}
use Rattle.pub_set.specs.declared.steps.Change.TheVariants.{Put, Withdraw}
use Rattle.pub_set.specs.Objects.{Rise}
use Rattle.pub_set.specs.Changes.{uri_of, change_at}
use Rattle.editions.specs.declared.standing.NextRow.{NextRow}
use Rattle.editions.specs.declared.standing.NextRow.TheVariants.{Issued, Gone}
use Rattle.editions.specs.Joining.{at_uri}

-- ---- objects

-- What stands at a URI after a change, or without one.
abbrev pub object_after : Option Object → Option Change → Option Object
object_after held None = held
object_after held (Some (Put uri bytes replaces)) = Some (record { uri = uri; bytes = bytes })
object_after held (Some (Withdraw uri hash)) = None

-- ---- rows

-- The row of what stands at a URI.
abbrev pub row_at : List IssuedRow → List ℕ → Option IssuedRow
row_at rows uri = at_uri (λ row. row.uri) rows uri

-- The row at a URI after a change, or without one: that of what was issued there, or else the one
-- before, where nothing changes.
abbrev pub row_after : Option IssuedRow → Option Change → Option IssuedRow → Option IssuedRow
row_after row change (Some issued) = Some issued
row_after row None None = row
row_after row (Some change) None = None

-- By rising URI, the rows of what was issued, and of those before the ones at whose URI nothing
-- was put or withdrawn.
pub record IsTableAfter (old : List IssuedRow) (changes : List Change)
    (issued new : List IssuedRow) : Type 0 where
  pub rising : Rise (λ row. row.uri) new
  pub each : (uri : List ℕ) → row_at new uri
      ≡ row_after (row_at old uri) (change_at changes uri) (row_at issued uri)

-- ---- the two steps of it

abbrev pub next_uri : NextRow → List ℕ
next_uri (Issued row) = row.uri
next_uri (Gone uri) = uri

-- What was issued comes, and what is changed otherwise goes.
abbrev pub coming_row : Option IssuedRow → Option Change → Option NextRow
coming_row (Some issued) change = Some (Issued issued)
coming_row None None = None
coming_row None (Some change) = Some (Gone (uri_of change))

-- A row goes on where nothing comes.
abbrev pub next_row : Option IssuedRow → Option NextRow → Option IssuedRow
next_row row None = row
next_row row (Some (Issued issued)) = Some issued
next_row row (Some (Gone uri)) = None
