-- What holds of the lists that a configuration keeps.
use Rattle.std.specs.Prelude.{◌≤◌, ⊤, List, length, All}
use Rattle.names.specs.Name.{IsName}
use Rattle.origins.specs.declared.Origin.{Origin}
use Rattle.authority_book.specs.declared.rows.NameRow.{NameRow}
use Rattle.authority_book.specs.declared.rows.Child.{Child}
use Rattle.authority_book.specs.declared.commands.Command.{Command}
use Rattle.authority_book.specs.declared.commands.Command.TheVariants.{Add}
use Rattle.authority_book.specs.Origins.{IsAscending}
use Rattle.authority_book.specs.Verdict.{most_authorities, most_children, most_origins}

-- A name that a command adds is one.
abbrev pub AddsName : Command → Type 0
AddsName (Add name signer) = IsName name
AddsName _ = ⊤

-- The lists are no longer than they may be, names are names, and the origins ascend.
pub record AreKept (names : List NameRow) (children : List Child) (origins : List Origin) : Type 0 where
  pub few_names : length names ≤ most_authorities
  pub plain : All (λ row. IsName row.name) names
  pub few_children : length children ≤ most_children
  pub few_origins : length origins ≤ most_origins
  pub ascending : IsAscending origins
