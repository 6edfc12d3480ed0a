-- The editions of a run, and what is shown of them.
use Rattle.std.specs.Prelude.{◌≡◌, ⊤, List, [], ◌∷◌, ◌++◌, All, map, length}
use Rattle.authority_book.specs.declared.commands.Command.{Command}
use Rattle.pub_set.specs.Objects.{IsAscending}
use Rattle.notice_board.specs.declared.shown.ShownEdition.{ShownEdition}
use Rattle.notice_board.specs.declared.shown.EditionNumbers.{EditionNumbers}
use Rattle.notice_board.specs.Lists.{shown_of}
use Rattle.editions.specs.Edition.{Edition}
use Rattle.editions.specs.PublishedState.{PublishedStateValue, IsConsistentState}
use Rattle.editions.specs.PlannedAndMade.{CanBeRead}
use Rattle.editions.specs.Sheets.{sheet_of}
use Rattle.press_core.specs.Stands.{IsLeftBy}

-- An edition, and what stands after it.
pub record Stood : Type 0 where
  pub edition : Edition
  pub at : PublishedStateValue

abbrev pub editions_of : List Stood → List Edition
editions_of run = map (λ stood. stood.edition) run

-- What stands after the last of them, where before them this stood.
abbrev pub last_of : PublishedStateValue → List Stood → PublishedStateValue
last_of at [] = at
last_of at (stood ∷ run) = last_of stood.at run

-- Each of them leaves what stands after it, behind those before it, and that is whole. Each object of it
-- has a URI of its own; and each that the edition puts can be read.
pub record IsAfter (lists : List (List Command)) (before : List Edition) (stood : Stood)
    : Type 0 where
  pub left : IsLeftBy lists (before ++ stood.edition ∷ []) stood.at
  pub cut : stood.at.cut ≡ stood.edition.cut
  pub kept : IsConsistentState stood.at
  pub ascending : IsAscending stood.at.set
  pub readable : All CanBeRead stood.edition.changes

abbrev pub AreAfter : List (List Command) → List Edition → List Stood → Type 0
AreAfter lists before [] = ⊤
AreAfter lists before (stood ∷ run) =
    IsAfter lists before stood × AreAfter lists (before ++ stood.edition ∷ []) run

-- ---- what readers are shown

-- The cut of an edition, and how many objects stand after it and how many origins are owed.
abbrev pub numbers_of : PublishedStateValue → EditionNumbers
numbers_of at = record { cut = at.cut; objects = length at.set; origins = length at.owed }

abbrev pub shown_at : PublishedStateValue → ShownEdition
shown_at at = shown_of (sheet_of at) (numbers_of at)

-- What was found, and behind it each edition of the run.
abbrev pub shown_in : PublishedStateValue → List Stood → List ShownEdition
shown_in at run = shown_at at ∷ map (λ stood. shown_at stood.at) run
