-- What the reads are answered: functions of the desks' commands, and of what the last edition says of
-- the authorities.
use Rattle.std.specs.Prelude.{◌≡◌, ◌⊎◌, ⊤, ℕ, suc, true, false, List, [], ◌∷◌, Option, None, Some, IfSome, slice_get}
use Rattle.std.proofs.Common.{refl}
use Rattle.res_sets.specs.declared.numbers.Family.TheVariants.{Asn, V4, V6}
use Rattle.res_sets.specs.declared.holdings.Resources.{Resources}
use Rattle.res_sets.specs.Triples.{has}
use Rattle.res_sets.specs.Sets.{IsCanonical}
use Rattle.origins.specs.declared.Origin.{Origin}
use Rattle.authority_book.specs.declared.rows.NameRow.{NameRow}
use Rattle.authority_book.specs.Settings.{Settings}
use Rattle.authority_book.specs.Origins.{is_there}
use Rattle.entitle.specs.Owed.{HasEach}
use Rattle.notice_board.specs.declared.sheets.Sheet.{Sheet}
use Rattle.notice_board.specs.declared.sheets.SheetRow.{SheetRow}
use Rattle.notice_board.specs.declared.sheets.ShownStage.{ShownStage}
use Rattle.notice_board.specs.declared.sheets.ShownStage.TheVariants as shown
use Rattle.json_api.specs.declared.texts.ListLine.{ListLine}
use Rattle.json_api.specs.declared.texts.RoaLine.{RoaLine}
use Rattle.json_api.specs.declared.texts.RoaWord.{RoaWord}
use Rattle.json_api.specs.declared.texts.RoaWord.TheVariants.{Published, Held, Pending}
use Rattle.json_api.specs.declared.texts.StageWord.{StageWord}
use Rattle.json_api.specs.declared.texts.StageWord.TheVariants as stage
use Rattle.json_api.specs.declared.texts.Shown.{Shown}
use Rattle.json_api.specs.declared.refusals.Refused.TheVariants.{NoSuchAuthority}
use Rattle.json_api.specs.Refused.{refused_spelling}
use Rattle.json_api.specs.Texts.{list_spelling, show_spelling, roas_spelling, history_spelling}
use Rattle.krill_top.specs.DeskStates.{DeskStates, names_in, desk_named, settings_at, commands_at}

-- A line for each name of the tree, whose desks have the numbers from this one on.
abbrev pub list_lines : DeskStates → ℕ → List NameRow → List ListLine
list_lines desk_states number [] = []
list_lines desk_states number (row ∷ rows) =
    record { name = row.name; deleted = (settings_at desk_states number).deleted }
    ∷ list_lines desk_states (suc number) rows

abbrev pub list_reply : DeskStates → List ℕ
list_reply desk_states = list_spelling (list_lines desk_states 0 (names_in desk_states))

-- What the desk of a name says, where there is one of that name.
abbrev pub of_named : Option ℕ → List ℕ → (ℕ → List ℕ) → List ℕ
of_named None name text_at = refused_spelling (NoSuchAuthority name)
of_named (Some number) name text_at = text_at number

abbrev pub history_reply : DeskStates → List ℕ → List ℕ
history_reply desk_states name =
    of_named (desk_named desk_states name) name
    (λ number. history_spelling name (commands_at desk_states number))

-- ---- what the last edition says

abbrev pub nothing_certified : Resources
nothing_certified = record {
  asn = record { family = Asn; ranges = [] };
  v4 = record { family = V4; ranges = [] };
  v6 = record { family = V6; ranges = [] };
  asn_family = refl;
  v4_family = refl;
  v6_family = refl;
}

-- What the sheet says of the authority of that desk. It says nothing of one that came later.
abbrev pub row_at : Sheet → ℕ → Option SheetRow
row_at sheet number = slice_get sheet.rows number

abbrev pub certified_in : Option SheetRow → Resources
certified_in None = nothing_certified
certified_in (Some row) = row.certified

abbrev pub stage_word : ShownStage → StageWord
stage_word shown.Absent = stage.None
stage_word shown.Steady = stage.Steady
stage_word shown.Staged = stage.Staged
stage_word shown.Retiring = stage.Retiring

abbrev pub stage_in : Option SheetRow → StageWord
stage_in None = stage.None
stage_in (Some row) = stage_word row.stage

-- ---- `show`

abbrev pub shown_by : List ℕ → Settings → Sheet → ℕ → Shown
shown_by name settings sheet number = record {
  authority = name;
  certified = certified_in (row_at sheet number);
  parent = settings.parent;
  serial = sheet.serial;
  stage = stage_in (row_at sheet number);
}

abbrev pub show_text : List ℕ → Settings → Sheet → ℕ → List ℕ
show_text name settings sheet number =
    show_spelling (shown_by name settings sheet number) settings.children

-- The three sets as their canonical lists of ranges.
pub record HasCanonicalSets (held : Resources) : Type 0 where
  pub asn : IsCanonical held.asn
  pub v4 : IsCanonical held.v4
  pub v6 : IsCanonical held.v6

-- An authority's state, with what is certified to it in the one form that a set has.
abbrev pub IsShownText : List ℕ → Settings → Sheet → ℕ → List ℕ → Type 0
IsShownText name settings sheet number text = (text ≡ show_text name settings sheet number)
    × IfSome (row_at sheet number) (λ row. HasCanonicalSets row.certified)

abbrev pub IsShowTextAt : Option ℕ → DeskStates → Sheet → List ℕ → List ℕ → Type 0
IsShowTextAt None desk_states sheet name text = text ≡ refused_spelling (NoSuchAuthority name)
IsShowTextAt (Some number) desk_states sheet name text =
    IsShownText name (settings_at desk_states number) sheet number text

abbrev pub IsShowReply : DeskStates → Sheet → List ℕ → List ℕ → Type 0
IsShowReply desk_states sheet name text = IsShowTextAt
    (desk_named desk_states name) desk_states sheet name text

-- ---- `roas list`

-- Where an origin stands: what the edition publishes is published; of the others those are held back
-- whose prefix the authority isn't certified for.
abbrev pub IsState : Option SheetRow → Origin → RoaWord → Type 0
IsState None origin state = state ≡ Held
IsState (Some row) origin state =
    ((is_there row.published origin ≡ true) × (state ≡ Published))
    ⊎ ((is_there row.published origin ≡ false)
    × ((HasEach (has row.certified) origin.prefix × (state ≡ Pending))
    ⊎ ((¬ HasEach (has row.certified) origin.prefix) × (state ≡ Held))))

-- A line for each origin, in their order.
abbrev pub AreRoaLines : Option SheetRow → List Origin → List RoaLine → Type 0
AreRoaLines row [] [] = ⊤
AreRoaLines row [] (line ∷ lines) = ⊥
AreRoaLines row (origin ∷ origins) [] = ⊥
AreRoaLines row (origin ∷ origins) (line ∷ lines) =
    (line.origin ≡ origin) × IsState row origin line.state × AreRoaLines row origins lines

abbrev pub IsRoasText : List ℕ → Settings → Sheet → ℕ → List ℕ → Type 0
IsRoasText name settings sheet number text = (lines : List RoaLine)
    × AreRoaLines (row_at sheet number) settings.origins lines
    × (text ≡ roas_spelling name lines sheet.serial)

abbrev pub IsRoasTextAt : Option ℕ → DeskStates → Sheet → List ℕ → List ℕ → Type 0
IsRoasTextAt None desk_states sheet name text = text ≡ refused_spelling (NoSuchAuthority name)
IsRoasTextAt (Some number) desk_states sheet name text =
    IsRoasText name (settings_at desk_states number) sheet number text

abbrev pub IsRoasReply : DeskStates → Sheet → List ℕ → List ℕ → Type 0
IsRoasReply desk_states sheet name text = IsRoasTextAt
    (desk_named desk_states name) desk_states sheet name text
