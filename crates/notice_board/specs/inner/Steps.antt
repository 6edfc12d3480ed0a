-- What each step tells.
use Rattle.std.specs.Prelude.{◌≡◌, ℕ, List, [], ◌∷◌, ◌++◌, true}
use mathlib.Core.List.{IsPrefix}
use Rattle.logbook.specs.Pages as pages
use Rattle.logbook.specs.Pages.{Step, nib, may_make}
use Rattle.notice_board.specs.declared.lists.Entry.{Entry}
use Rattle.notice_board.specs.declared.shown.ListId.{ListId}
use Rattle.notice_board.specs.declared.views.View.{View}
use Rattle.notice_board.specs.Rule.{EndsAt}

abbrev pub Seat : Type 0
Seat = pages.View Entry ℕ

-- where 0 is found, the entry stands alone, and there is a pen for the cell 1
abbrev pub BeginsList : Step Entry → Seat → ℕ → Seat → Type 0
BeginsList s v found w = found ≡ 0 → (w.0 ≡ s.ask ∷ []) × (w.1.0 ≡ nib may_make 1 0)

-- there is a pen for a new cell
abbrev pub CutsPen : Step Entry → Seat → ℕ → Seat → Type 0
CutsPen s v found w = w.1.0.right ≡ may_make

-- the entry stands behind all that was seen
abbrev pub AddsEntry : Step Entry → Seat → ℕ → Seat → Type 0
AddsEntry s v found w = w.0 ≡ v.0 ++ s.ask ∷ []

-- the list is what was seen of it up to the entry that names the pen's cell
abbrev pub FindsWhole : Step Entry → Seat → ℕ → Seat → Type 0
FindsWhole s v found w =
    (w.1.0 ≡ v.1.0)
    × ((known : List Entry) → IsPrefix known v.0 → EndsAt v.1.0.key known → w.0 ≡ known)

-- who looks at a board of this list knows it, and it is the one that was known
pub record Looks (v : View) (list : ListId) (w : View) : Type 0 where
  pub knows : w.knows ≡ true
  pub list_is : w.list ≡ list
  pub same : v.knows ≡ true → w.list ≡ v.list
