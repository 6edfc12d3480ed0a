-- The commands of the desks behind a cut.
use Rattle.std.specs.Prelude.{◌≡◌, ⊤, ℕ, suc, List, [], ◌∷◌, drop}
use Rattle.authority_book.specs.declared.commands.Command.{Command}
use Rattle.editions.specs.declared.gathered.Gathered.{Gathered}

-- Those of a desk behind its first so many.
pub record IsSince (number : ℕ) (commands : List Command) (from : ℕ) (gathered : Gathered)
    : Type 0 where
  pub desk_is : gathered.desk ≡ number
  pub from_is : gathered.from ≡ from
  pub commands_are : gathered.commands ≡ drop from commands

-- So of each desk, from this number on.
abbrev pub AreSince : ℕ → List (List Command) → List ℕ → List Gathered → Type 0
AreSince number [] [] [] = ⊤
AreSince number [] [] (group ∷ groups) = ⊥
AreSince number [] (from ∷ cut) groups = ⊥
AreSince number (list ∷ lists) [] groups = ⊥
AreSince number (list ∷ lists) (from ∷ cut) [] = ⊥
AreSince number (list ∷ lists) (from ∷ cut) (group ∷ groups) =
    IsSince number list from group × AreSince (suc number) lists cut groups
