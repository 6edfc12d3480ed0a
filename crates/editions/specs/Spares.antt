-- What stood before the last edition, as what the next one is made of.
use Rattle.std.specs.Prelude.{List}
use Rattle.std.specs.Arc.{arc_value}
use Rattle.key_roll.specs.declared.issued.IssuedRow.{IssuedRow}
use Rattle.pub_set.specs.declared.objects.Object.{Object}
use Rattle.pub_set.specs.declared.steps.Change.{Change}
use Rattle.pub_set.specs.Objects.{Rise}
use Rattle.pub_set.specs.Changes.{uri_of, IsApplied}
use Rattle.editions.specs.declared.spare.Spare.{Spare}
use Rattle.editions.specs.Standing.{IsTableAfter}
use Rattle.editions.specs.PublishedState.{PublishedStateValue}

-- From a set and a table these changes, and the rows of what they issued, lead to what stands.
pub record LeadTo (set : List Object) (table : List IssuedRow) (changes : List Change)
    (issued : List IssuedRow) (at : PublishedStateValue) : Type 0 where
  pub changes_rise : Rise uri_of changes
  pub issued_rise : Rise (λ row. row.uri) issued
  pub applied : IsApplied set changes at.set
  pub tabled : IsTableAfter table changes issued at.issued

-- From the spare its changes lead to what stands.
abbrev pub IsSpareOf : PublishedStateValue → Spare → Type 0
IsSpareOf at spare =
    LeadTo (arc_value spare.state).set (arc_value spare.state).issued spare.changes spare.issued at
