-- A press as opening leaves it, behind desks that were opened.
use Rattle.std.specs.Prelude.{◌≡◌, ◌<◌, ⊤, ℕ, suc, List, [], ◌∷◌, None, All, IfSome, length, get_or}
use Rattle.authority_book.specs.declared.commands.Command.{Command}
use Rattle.authority_book.specs.Fold.{fold_of}
use Rattle.desk_core.specs.View.{View}
use Rattle.desk_core.specs.Commands.{HasCommands}
use Rattle.editions.specs.Edition.{Edition}
use Rattle.editions.specs.PublishedState.{desks}
use Rattle.editions.specs.declared.gathered.Gathered.{Gathered}
use Rattle.press_core.specs.JournalRecords.{AreRecords}
use Rattle.press_core.specs.Loading.{LoadedValue, IsLeftAs, IsInOrder, loaded_store}
use Rattle.press_core.specs.Resuming.{GoOnFrom, GoesOn}
use Rattle.press_core.specs.Stored.{StoredValue}
use Rattle.manager.specs.Passes.{anchor_desk}

-- The desk of that number has these commands, and its journal is open.
pub record IsDeskOf {D : Type 0} (number : ℕ) (list : List Command) (desk : View D) : Type 0 where
  pub number_is : desk.number ≡ number
  pub has : HasCommands desk list
  pub is_open : desk.shut ≡ None

-- So of each desk, from this number on.
abbrev pub AreDesksOf : {D : Type 0} → ℕ → List (List Command) → List (View D) → Type 0
AreDesksOf number [] [] = ⊤
AreDesksOf number [] (desk ∷ opened) = ⊥
AreDesksOf number (list ∷ lists) [] = ⊥
AreDesksOf number (list ∷ lists) (desk ∷ opened) =
    IsDeskOf number list desk × AreDesksOf (suc number) lists opened

-- The names of the tree have their signers among so many.
abbrev pub HaveSigners : ℕ → List (List Command) → Type 0
HaveSigners signers lists = All (λ name. name.signer < signers)
    (fold_of anchor_desk (get_or lists anchor_desk [])).names

-- The press goes on behind what was loaded of its disk, which some editions left, with the commands of
-- these desks up to the cut. The signers of the tree's names and of the keys are there.
pub record IsResumed {D : Type 0} (opened : List (View D)) (stored : StoredValue D) : Type 0 where
  pub loaded : LoadedValue D
  pub editions : List Edition
  pub left : IsLeftAs editions loaded
  pub records : IfSome loaded.journal.records (AreRecords (loaded_store loaded) editions)
  pub order : IsInOrder loaded
  pub firsts : List Gathered
  pub goes_on : GoesOn loaded firsts stored.press.ring stored
  pub one_each : length stored.press.at.cut ≡ desks
  pub live_signers : All (λ row. row.signer < length stored.press.ring) loaded.rows
  pub lists : List (List Command)
  pub are : AreDesksOf 0 lists opened
  pub names : HaveSigners (length stored.press.ring) lists
  pub long : length lists ≡ desks
  pub of_desks : GoOnFrom lists firsts
