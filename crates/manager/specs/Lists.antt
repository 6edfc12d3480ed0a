-- The commands of the desks, as those know them who follow the desks' words.
use Rattle.std.specs.Prelude.{◌≡◌, ◌↔◌, ◌<◌, ◌≤◌, ⊤, ℕ, suc, List, [], ◌∷◌, ◌++◌, map, All, None, Some, IfSome, slice_get, get_or}
use Rattle.atomic_table.specs.Seated.{TableId}
use Rattle.commit_word.specs.Seats.{FollowerSeat}
use Rattle.authority_book.specs.declared.commands.Command.{Command}
use Rattle.authority_book.specs.Fold.{fold_of}
use Rattle.cmd_codec.specs.Spelling.{spelling}
use Rattle.gate_journal.specs.Format.{held_by}
use Rattle.desk_core.specs.View.{View, journal_limit}
use Rattle.desk_core.specs.Commands.{Records, HasCommands}

-- ---- followers

abbrev pub no_word : TableId
no_word = record { words = 0; slots = 0; views_name = 0; atom = 0; block = 0; offset = 0; slot_names = [] }

abbrev pub no_seat : FollowerSeat
no_seat = record { word = no_word; recovered = 0; seen = []; mine = [] }

-- The follower at a place.
abbrev pub seat_at : List FollowerSeat → ℕ → FollowerSeat
seat_at seats place = get_or seats place no_seat

-- Each follower is of the word of its place.
abbrev pub AreOf : (ℕ → TableId) → List FollowerSeat → Type 0
AreOf words seats =
    (place : ℕ) (seat : FollowerSeat) → slice_get seats place ≡ Some seat → seat.word ≡ words place

-- ---- what they have seen

-- These are records of these commands of the desk, and each name that the commands list has its signer
-- among so many.
pub record IsListOf (signers number : ℕ) (commands : List Command) (records : List (List ℕ))
    : Type 0 where
  pub are : Records number records commands
  pub signed : All (λ name. name.signer < signers) (fold_of number commands).names

-- So of each desk, from this number on.
abbrev pub AreListsOf : ℕ → ℕ → List (List Command) → List (List (List ℕ)) → Type 0
AreListsOf signers number [] [] = ⊤
AreListsOf signers number [] (records ∷ all) = ⊥
AreListsOf signers number (list ∷ lists) [] = ⊥
AreListsOf signers number (list ∷ lists) (records ∷ all) =
    IsListOf signers number list records × AreListsOf signers (suc number) lists all

-- The commands that each follower has seen recorded.
abbrev pub AreSeen : ℕ → List (List Command) → List FollowerSeat → Type 0
AreSeen signers lists seats = AreListsOf signers 0 lists (map (λ seat. seat.seen) seats)

-- ---- a desk

-- A desk has commands, and each name that they list has its signer among so many.
pub record IsListed {D : Type 0} (signers : ℕ) (desk : View D) : Type 0 where
  pub commands : List Command
  pub has : HasCommands desk commands
  pub signed : All (λ name. name.signer < signers) desk.settings.names

-- The entry is the record of a command that may stand next: whatever commands the desk has, its records
-- and this one are those of these commands and that one. It fits into the journal behind them.
pub record IsNextEntry {D : Type 0} (desk : View D) (entry : List ℕ) : Type 0 where
  pub command : Command
  pub spelled : entry ≡ spelling command
  pub next : (commands : List Command) → HasCommands desk commands
      → Records desk.number (desk.records ++ entry ∷ []) (commands ++ command ∷ [])
  pub fits : held_by (desk.records ++ entry ∷ []) ≤ journal_limit

-- Where a record is in doubt it is that of a command which may stand next; and the desk is shut just
-- where one is.
pub record IsDoubted {D : Type 0} (desk : View D) : Type 0 where
  pub shut : (desk.shut ≡ None) ↔ (desk.doubt ≡ None)
  pub doubt : IfSome desk.doubt (IsNextEntry desk)
