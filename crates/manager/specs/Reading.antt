-- What reads are answered: functions of what is then known of the desks, and of the edition seen
-- last.
use Rattle.std.specs.Prelude.{◌≡◌, ◌⊎◌, ⊤, ◌<◌, ℕ, Bool, true, false, List, [], ◌∷◌, None, Some, length, get_or}
use Rattle.res_sets.specs.Triples.{has}
use Rattle.origins.specs.declared.Origin.{Origin}
use Rattle.commit_word.specs.Seats.{FollowerSeat}
use Rattle.authority_book.specs.declared.commands.Command.{Command}
use Rattle.authority_book.specs.declared.rows.NameRow.{NameRow}
use Rattle.authority_book.specs.Settings.{Settings}
use Rattle.authority_book.specs.Origins.{is_there}
use Rattle.entitle.specs.Owed.{HasEach}
use Rattle.notice_board.specs.declared.sheets.SheetRow.{SheetRow}
use Rattle.notice_board.specs.Lists.{last_serial}
use Rattle.notice_board.specs.Rows.{IsRowShown}
use Rattle.manager.specs.Passes.{PassValue, anchor_desk, Knows, ComesTo, IsNamed}
use Rattle.manager.specs.declared.locked_desks_answers.ListRow.{ListRow}
use Rattle.manager.specs.declared.locked_desks_answers.Shown.{Shown}
use Rattle.manager.specs.declared.locked_desks_answers.ShownRoa.{ShownRoa}
use Rattle.manager.specs.declared.locked_desks_answers.ShownRoas.{ShownRoas}
use Rattle.manager.specs.declared.locked_desks_answers.RoaState.{RoaState}
use Rattle.manager.specs.declared.locked_desks_answers.RoaState.TheVariants.{Published, Held, Pending}
use Rattle.manager.specs.declared.locked_desks_answers.ReadFault.{ReadFault}
use Rattle.manager.specs.declared.locked_desks_answers.ReadFault.TheVariants.{NoSuchAuthority, Memory}

-- No authority has the name; or memory was wanting, and one has it.
abbrev pub IsUnread : ReadFault → List ℕ → List FollowerSeat → Type 0
IsUnread NoSuchAuthority name seats = IsNamed seats name None
IsUnread Memory name seats = (desk : ℕ) × IsNamed seats name (Some desk)

-- ---- the names

-- These are the names of the tree, by what is known of the anchor's desk, and whether the anchor
-- is deleted.
pub record IsTree (seats : List FollowerSeat) (names : List NameRow) (deleted : Bool) : Type 0 where
  pub settings : Settings
  pub known : ComesTo seats anchor_desk settings
  pub names_are : names ≡ settings.names
  pub deleted_is : deleted ≡ settings.deleted

-- A row of that name, and whether its authority is deleted.
pub record IsListRow (seats : List FollowerSeat) (desk : ℕ) (name : NameRow) (row : ListRow)
    : Type 0 where
  pub name_is : row.name ≡ name.name
  pub settings : Settings
  pub known : ComesTo seats desk settings
  pub deleted_is : row.deleted ≡ settings.deleted

-- A row for each name of the tree, in the order of their desks.
pub record AreListRows (seats : List FollowerSeat) (rows : List ListRow) : Type 0 where
  pub settings : Settings
  pub known : ComesTo seats anchor_desk settings
  pub count : length rows ≡ length settings.names
  pub each : (desk : ℕ) (name : NameRow) (row : ListRow) → desk < length rows
      → IsListRow seats desk (get_or settings.names desk name) (get_or rows desk row)

-- ---- an authority

-- Its parent and its children, by what is known of its desk, and its row on the sheet of the
-- edition seen last.
pub record IsShown (name : List ℕ) (pass : PassValue) (shown : Shown) : Type 0 where
  pub desk : ℕ
  pub named : IsNamed pass.seats name (Some desk)
  pub settings : Settings
  pub known : ComesTo pass.seats desk settings
  pub parent_is : shown.parent ≡ settings.parent
  pub children_are : shown.children ≡ settings.children
  pub row_is : IsRowShown pass.shown desk shown.row
  pub serial_is : shown.serial ≡ last_serial pass.shown

-- Where an origin stands: what the edition publishes is published; of the others those are held
-- back whose prefix the authority isn't certified for.
abbrev pub IsState : SheetRow → Origin → RoaState → Type 0
IsState row origin state =
    ((is_there row.published origin ≡ true) × (state ≡ Published))
    ⊎ ((is_there row.published origin ≡ false)
    × ((HasEach (has row.certified) origin.prefix × (state ≡ Pending))
    ⊎ ((¬ HasEach (has row.certified) origin.prefix) × (state ≡ Held))))

-- Each origin and where it stands, in their order.
abbrev pub AreShownRoas : SheetRow → List Origin → List ShownRoa → Type 0
AreShownRoas row [] [] = ⊤
AreShownRoas row [] (roa ∷ roas) = ⊥
AreShownRoas row (origin ∷ origins) [] = ⊥
AreShownRoas row (origin ∷ origins) (roa ∷ roas) =
    (roa.origin ≡ origin) × IsState row origin roa.state × AreShownRoas row origins roas

-- The origins of the authority, by what is known of its desk, and where each stands on the sheet
-- of the edition seen last.
pub record AreRoas (name : List ℕ) (pass : PassValue) (roas : ShownRoas) : Type 0 where
  pub desk : ℕ
  pub named : IsNamed pass.seats name (Some desk)
  pub settings : Settings
  pub known : ComesTo pass.seats desk settings
  pub row : SheetRow
  pub row_is : IsRowShown pass.shown desk row
  pub states : AreShownRoas row settings.origins roas.rows
  pub serial_is : roas.serial ≡ last_serial pass.shown

-- The authority's commands: all whose records were seen.
pub record IsHistory (name : List ℕ) (seats : List FollowerSeat) (commands : List Command) : Type 0 where
  pub desk : ℕ
  pub named : IsNamed seats name (Some desk)
  pub known : Knows seats desk commands
