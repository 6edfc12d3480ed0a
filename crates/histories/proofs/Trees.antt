-- The names at a cut are those of a tree, and names that an authority can have.
use Rattle.std.proofs.Common.{◌≡◌, ℕ, ◌<◌, refl, sym, subst, arith, List, [], ◌∷◌, ◌++◌, length, take, get_or, append_assoc}
use Rattle.std.specs.List.{All, AllByRecursion}
use Rattle.std.proofs.Math.Seq.{take-append_seam}
use Rattle.names.specs.Name.{IsName}
use Rattle.authority_book.specs.declared.commands.Command.{Command}
use Rattle.authority_book.specs.Settings.{Settings}
use Rattle.authority_book.specs.Fold.{after, after_all, empty_settings, fold_of, AcceptedInTurn, Taken}
use Rattle.cmd_codec.specs.Spelling.{IsRecordable}
use Rattle.entitle.specs.Certified.{names_of}
use Rattle.editions.specs.Step.{configs_at}
use Rattle.editions.specs.Names.{AreTree}
use Rattle.histories.specs.Legal.{IsNextCommand, InTurn}
use Rattle.histories.proofs.Lists.{seam, short}

-- Accepted names are apart, and recordable ones are names.
abbrev pub Apart : Type 0
Apart = (commands : List Command) → Taken 0 commands → AreTree (fold_of 0 commands).names

abbrev pub Named : Type 0
Named = (commands : List Command) → AllByRecursion IsRecordable commands → All (λ row. IsName row.name) (fold_of 0 commands).names

folds_on : (settings : Settings) (before later : List Command) → after_all settings (before ++ later) ≡ after_all (after_all settings before) later
folds_on settings [] later = refl
folds_on settings (command ∷ before) later = folds_on (after settings command) before later

-- The next command of a list in turn.
next_is : (desk : ℕ) (before : List Command) (command : Command) (later : List Command)
    → InTurn (IsNextCommand desk) (before ++ command ∷ later) → IsNextCommand desk before command
next_is desk before command later turns =
    subst (λ (taken : List Command). IsNextCommand desk taken command) (take-append_seam before (command ∷ later))
    (turns (length before) command (seam before command later))

accepted_from : (desk : ℕ) (before later : List Command) → InTurn (IsNextCommand desk) (before ++ later)
    → AcceptedInTurn (fold_of desk before) later
accepted_from desk before [] turns = tt
accepted_from desk before (command ∷ later) turns =
    let next = next_is desk before command later turns in (
      next.accepted,
      subst (λ (settings : Settings). AcceptedInTurn settings later) (folds_on (empty_settings desk) before (command ∷ []))
          (accepted_from desk (before ++ command ∷ []) later
          (subst (InTurn (IsNextCommand desk)) (sym (append_assoc before (command ∷ []) later)) turns)),
    )

held_from : (desk : ℕ) (before later : List Command) → InTurn (IsNextCommand desk) (before ++ later)
    → AllByRecursion IsRecordable later
held_from desk before [] turns = tt
held_from desk before (command ∷ later) turns = (
  (next_is desk before command later turns).held,
  held_from desk (before ++ command ∷ []) later
      (subst (InTurn (IsNextCommand desk)) (sym (append_assoc before (command ∷ []) later)) turns),
)

module _ (apart : Apart) (named : Named) where
  both_at : (list : List Command) → InTurn (IsNextCommand 0) list
      → AreTree (fold_of 0 list).names × All (λ row. IsName row.name) (fold_of 0 list).names
  both_at list turns = (apart list (accepted_from 0 [] list turns), named list (held_from 0 [] list turns))

  pub tree_at : (lists : List (List Command)) (cut : List ℕ) → 0 < length lists → InTurn (IsNextCommand 0) (get_or lists 0 [])
      → AreTree (names_of (configs_at lists cut)) × All (λ row. IsName row.name) (names_of (configs_at lists cut))
  tree_at [] cut some turns = absurd (omega arith)
  tree_at (list ∷ lists) [] some turns = both_at [] (short (IsNextCommand 0) list 0 turns)
  tree_at (list ∷ lists) (n ∷ cut) some turns = both_at (take n list) (short (IsNextCommand 0) list n turns)
