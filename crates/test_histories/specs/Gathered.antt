-- The commands of the desks behind a cut, and up to one.
use Rattle.std.specs.Prelude.{◌≡◌, ◌≤◌, ⊤, ℕ, suc, List, [], ◌∷◌, length, take, drop}
use Rattle.authority_book.specs.declared.commands.Command.{Command}
use Rattle.disk_api.specs.declared.memory.MemoryDisk.{MemoryDisk}
use Rattle.desk_core.specs.View.{View}
use Rattle.desk_core.specs.Commands.{HasCommands}
use Rattle.editions.specs.declared.gathered.Gathered.{Gathered}

-- Those of a desk behind its first so many.
pub record IsSince (number : ℕ) (desk : View MemoryDisk) (from : ℕ) (gathered : Gathered)
    : Type 0 where
  pub desk_is : gathered.desk ≡ number
  pub from_is : gathered.from ≡ from
  pub commands : (commands : List Command) → HasCommands desk commands
      → gathered.commands ≡ drop from commands

-- So of each desk, from this number on.
abbrev pub AreSince : ℕ → List (View MemoryDisk) → List ℕ → List Gathered → Type 0
AreSince number [] [] [] = ⊤
AreSince number [] [] (group ∷ groups) = ⊥
AreSince number [] (from ∷ cut) groups = ⊥
AreSince number (desk ∷ desks) [] groups = ⊥
AreSince number (desk ∷ desks) (from ∷ cut) [] = ⊥
AreSince number (desk ∷ desks) (from ∷ cut) (group ∷ groups) =
    IsSince number desk from group × AreSince (suc number) desks cut groups

-- The first so many commands of a desk, which has as many.
pub record IsFirstOf (number : ℕ) (desk : View MemoryDisk) (count : ℕ) (gathered : Gathered)
    : Type 0 where
  pub desk_is : gathered.desk ≡ number
  pub from_is : gathered.from ≡ 0
  pub held : count ≤ length desk.records
  pub commands : (commands : List Command) → HasCommands desk commands
      → gathered.commands ≡ take count commands

-- So of each desk that the cut has a number for, from this number on.
abbrev pub AreFirstsOf : ℕ → List (View MemoryDisk) → List ℕ → List Gathered → Type 0
AreFirstsOf number desks [] [] = ⊤
AreFirstsOf number desks [] (group ∷ groups) = ⊥
AreFirstsOf number [] (count ∷ cut) groups = ⊥
AreFirstsOf number (desk ∷ desks) (count ∷ cut) [] = ⊥
AreFirstsOf number (desk ∷ desks) (count ∷ cut) (group ∷ groups) =
    IsFirstOf number desk count group × AreFirstsOf (suc number) desks cut groups
