-- The rules of the list and of the board, which hold between any two steps.
use Rattle.std.specs.Prelude.{◌≡◌, ℕ, ◌<◌, Bool, true, false, List, [], ◌∷◌, length, ⊤}
use mathlib.Core.Option.{some}
use lib.ListN.{get_elem?}
use Rattle.logbook.specs.Pages.{Cell, cell}
use Rattle.notice_board.specs.declared.lists.Entry.{Entry}
use Rattle.notice_board.specs.declared.shown.ListId.{ListId}
use Rattle.notice_board.specs.declared.views.View.{View}

-- The list has a word at the key 0, and a cell for each pen. A cell is away as long as a pen may
-- write it, and at home from then on.
abbrev pub IsHome : List Cell → ℕ → Type 0
IsHome cells key = (cell cells key).1 ≡ true

-- The cell that each entry names is at home, but for the last entry's
abbrev pub AreHomeFrom : List Cell → Entry → List Entry → Type 0
AreHomeFrom cells x [] = ⊤
AreHomeFrom cells x (y ∷ ys) = IsHome cells x.next × AreHomeFrom cells y ys

abbrev pub AreHome : List Cell → List Entry → Type 0
AreHome cells [] = ⊤
AreHome cells (x ∷ xs) = AreHomeFrom cells x xs

-- the cell that the last entry names
abbrev pub last_key : Entry → List Entry → ℕ
last_key x [] = x.next
last_key x (y ∷ ys) = last_key y ys

abbrev pub EndsAt : ℕ → List Entry → Type 0
EndsAt key [] = ⊥
EndsAt key (x ∷ xs) = last_key x xs ≡ key

-- the word: 0 before the first entry, and 1 from then on
abbrev pub word_of : List Entry → ℕ
word_of [] = 0
word_of (x ∷ xs) = 1

-- The rule of the list: whoever adds an entry brings home the cell that the last entry names. So
-- where the pen of that cell is, there the list is known whole, and nobody else adds to it.
pub record KeepsListRule (cells : List Cell) (log : List Entry) : Type 0 where
  pub wide : 0 < length cells
  pub word : cell cells 0 ≡ (word_of log, true)
  pub new : log ≡ [] → length cells ≡ 1
  pub home : AreHome cells log

-- The rule of the board: all who know a list know the one whose editions lie on the board
abbrev pub KeepsBoardRule : ListId → List View → Type 0
KeepsBoardRule list views =
    (seat : ℕ) (v : View) → get_elem? views seat ≡ some v → v.knows ≡ true → v.list ≡ list

-- a thread that knows no list
abbrev pub newcomer : View
newcomer = record { knows = false; list = record { number = 0; log_name = 0; cells_name = 0 } }
