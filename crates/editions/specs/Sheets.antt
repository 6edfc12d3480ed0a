-- What readers are shown of an edition.
use Rattle.std.specs.Prelude.{ℕ, ◌+◌, ◌==◌, ◌&&◌, Bool, List, [], ◌∷◌, map, filter, if◌then◌else◌}
use Rattle.std.specs.List.{list_any}
use Rattle.origins.specs.declared.Origin.{Origin}
use Rattle.res_sets.specs.declared.holdings.Resources.{Resources}
use Rattle.entitle.specs.declared.trees.Owed.{Owed}
use Rattle.key_roll.specs.declared.rows.KeyRow.{KeyRow}
use Rattle.key_roll.specs.declared.rows.Role.{Role}
use Rattle.key_roll.specs.declared.rows.Role.TheVariants.{New, Current, Old}
use Rattle.notice_board.specs.declared.sheets.Sheet.{Sheet}
use Rattle.notice_board.specs.declared.sheets.SheetRow.{SheetRow}
use Rattle.notice_board.specs.declared.sheets.ShownStage.{ShownStage}
use Rattle.notice_board.specs.declared.sheets.ShownStage.TheVariants.{Absent, Steady}
use Rattle.notice_board.specs.declared.sheets.ShownStage.TheVariants.{Staged, Retiring}
use Rattle.key_roll.specs.Roles.{is_role}
use Rattle.editions.specs.PublishedState.{PublishedStateValue}

-- Whether the desk has a live key in the role.
abbrev pub has_role : List KeyRow → ℕ → Role → Bool
has_role rows desk role = list_any (λ row. (row.desk == desk) && is_role row.role role) rows

-- How far the rollover of a desk's authority is, by its live keys.
abbrev pub stage_of : List KeyRow → ℕ → ShownStage
stage_of rows desk =
    if has_role rows desk New then Staged
    else if has_role rows desk Old then Retiring
    else if has_role rows desk Current then Steady
    else Absent

-- The origins that are owed for a desk, in their order.
abbrev pub origins_at : List Owed → ℕ → List Origin
origins_at owed desk = map (λ each. each.origin) (filter (λ each. each.desk == desk) owed)

-- What is shown of the authority of a desk, which is certified for that.
abbrev pub shown_at : PublishedStateValue → ℕ → Resources → SheetRow
shown_at published_state desk set = record {
  desk = desk;
  certified = set;
  stage = stage_of published_state.rows desk;
  published = origins_at published_state.owed desk;
}

-- The same for the authorities from a desk on.
abbrev pub shown_from : PublishedStateValue → ℕ → List Resources → List SheetRow
shown_from published_state desk [] = []
shown_from published_state desk (set ∷ sets) = shown_at published_state desk set
    ∷ shown_from published_state (desk + 1) sets

-- A row for each of the sets, of which each authority has one, in the order of the desks. Before
-- the first edition there is none.
abbrev pub sheet_of : PublishedStateValue → Sheet
sheet_of published_state = record {
  serial = published_state.serial;
  moment = published_state.moment;
  rows = if published_state.serial == 0 then []
      else shown_from published_state 0 published_state.sets;
}
