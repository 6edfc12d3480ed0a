-- The texts of what a session is told: functions of what its pass then knows.
use Rattle.std.specs.Prelude.{◌≡◌, ◌⊎◌, ℕ, Bool, true, false, Result, Ok, Err, List, map, None}
use Rattle.authority_book.specs.declared.commands.Command.{Command}
use Rattle.desk_core.specs.declared.faults.DeskFault.{DeskFault}
use Rattle.desk_core.specs.declared.faults.DeskFault.TheVariants as desk
use Rattle.outlet_api.specs.declared.exports.ExportFault.{ExportFault}
use Rattle.outlet_api.specs.declared.exports.ExportFault.TheVariants as export
use Rattle.editions.specs.declared.published_state.PublishedNumbers.{PublishedNumbers}
use Rattle.press_core.specs.declared.stored_fault.PrepareFault.{PrepareFault}
use Rattle.press_core.specs.declared.stored_fault.PrepareFault.TheVariants as prepare
use Rattle.notice_board.specs.declared.sheets.ShownStage.{ShownStage}
use Rattle.notice_board.specs.declared.sheets.ShownStage.TheVariants as shown_stage
use Rattle.notice_board.specs.Lists.{last_serial}
use Rattle.json_api.specs.declared.refusals.Refused.{Refused}
use Rattle.json_api.specs.declared.refusals.Refused.TheVariants as refused
use Rattle.json_api.specs.declared.reply.PublishedReply.{PublishedReply}
use Rattle.json_api.specs.declared.texts.ListLine.{ListLine}
use Rattle.json_api.specs.declared.texts.RoaLine.{RoaLine}
use Rattle.json_api.specs.declared.texts.RoaWord.{RoaWord}
use Rattle.json_api.specs.declared.texts.RoaWord.TheVariants as roa
use Rattle.json_api.specs.declared.texts.StageWord.{StageWord}
use Rattle.json_api.specs.declared.texts.StageWord.TheVariants as stage
use Rattle.json_api.specs.declared.texts.Shown.{Shown as ShowReply}
use Rattle.json_api.specs.Refused.{refused_spelling, verdict_spelling}
use Rattle.json_api.specs.Reply.{accepted_spelling, published_spelling, serial_spelling, reached_spelling}
use Rattle.json_api.specs.Texts.{list_spelling, show_spelling, roas_spelling, history_spelling}
use Rattle.manager.specs.Passes.{PassValue, IsNamed}
use Rattle.manager.specs.Reading.{AreListRows, IsShown, AreRoas, IsHistory}
use Rattle.manager.specs.declared.awaiting.Awaited.{Awaited}
use Rattle.manager.specs.declared.awaiting.Awaited.TheVariants.{Reached, NotYet}
use Rattle.manager.specs.declared.locked_desks_answers.CommandFault.{CommandFault}
use Rattle.manager.specs.declared.locked_desks_answers.CommandFault.TheVariants as command
use Rattle.manager.specs.declared.locked_desks_answers.ListRow.{ListRow}
use Rattle.manager.specs.declared.locked_desks_answers.Shown.{Shown}
use Rattle.manager.specs.declared.locked_desks_answers.ShownRoa.{ShownRoa}
use Rattle.manager.specs.declared.locked_desks_answers.ShownRoas.{ShownRoas}
use Rattle.manager.specs.declared.locked_desks_answers.RoaState.{RoaState}
use Rattle.manager.specs.declared.locked_desks_answers.RoaState.TheVariants.{Published, Held, Pending}
use Rattle.manager.specs.declared.publish_fault.Unmade.{Unmade}
use Rattle.manager.specs.declared.publish_fault.Unmade.TheVariants.{Unprepared, Uncommitted}
use Rattle.manager.specs.declared.publish_fault.PublishFault.{PublishFault}
use Rattle.manager.specs.declared.publish_fault.PublishFault.TheVariants as publish
use Rattle.session_lines.specs.declared.TheConstants.{PRESS_DEVICE}

-- The text where memory was wanting.
abbrev pub memory_text : List ℕ
memory_text = refused_spelling refused.Memory

-- ---- a command

abbrev pub desk_fault_text : {D : Type 0} → DeskFault D → List ℕ
desk_fault_text (desk.Shut rose) = refused_spelling refused.Shut
desk_fault_text (desk.Verdict refusal) = verdict_spelling refusal
desk_fault_text (desk.JournalFull held needed) = refused_spelling (refused.JournalFull held needed)
desk_fault_text (desk.DiskFault rose) = refused_spelling (refused.DiskFault rose.0)
desk_fault_text desk.Memory = memory_text

abbrev pub command_fault_text : {D : Type 0} → List ℕ → CommandFault D → List ℕ
command_fault_text name command.NoSuchAuthority = refused_spelling (refused.NoSuchAuthority name)
command_fault_text name (command.Refused fault) = desk_fault_text fault

abbrev pub commanded_text : {D : Type 0} → List ℕ → Result ℕ (CommandFault D) → List ℕ
commanded_text name (Ok count) = accepted_spelling name count
commanded_text name (Err fault) = command_fault_text name fault

-- The text that says why a command isn't accepted. There may be no memory for a verdict's.
abbrev pub IsDeskFaultText : {D : Type 0} → DeskFault D → List ℕ → Type 0
IsDeskFaultText (desk.Verdict refusal) text =
    (text ≡ verdict_spelling refusal) ⊎ (text ≡ memory_text)
IsDeskFaultText fault text = text ≡ desk_fault_text fault

abbrev pub IsCommandFaultText : {D : Type 0} → List ℕ → CommandFault D → List ℕ → Type 0
IsCommandFaultText name command.NoSuchAuthority text =
    text ≡ refused_spelling (refused.NoSuchAuthority name)
IsCommandFaultText name (command.Refused fault) text = IsDeskFaultText fault text

-- Whether the command is in doubt: it may be found after a restart, or not.
abbrev pub leaves_desk_in_doubt : {D : Type 0} → DeskFault D → Bool
leaves_desk_in_doubt (desk.DiskFault rose) = true
leaves_desk_in_doubt other = false

abbrev pub leaves_command_in_doubt : {D : Type 0} → CommandFault D → Bool
leaves_command_in_doubt command.NoSuchAuthority = false
leaves_command_in_doubt (command.Refused fault) = leaves_desk_in_doubt fault

-- Whether its desk may have changed.
abbrev pub changes_a_desk : {D : Type 0} → Result ℕ (CommandFault D) → Bool
changes_a_desk (Ok count) = true
changes_a_desk (Err fault) = leaves_command_in_doubt fault

-- ---- a publication

abbrev pub published_in_reply : PublishedNumbers → PublishedReply
published_in_reply published = record {
  serial = published.serial;
  moment = published.moment;
  objects = published.objects;
  origins = published.origins;
}

abbrev pub unprepared_as : {D : Type 0} → PrepareFault D → Refused
unprepared_as (prepare.Shut rose) = refused.Shut
unprepared_as (prepare.ClockRange now met) = refused.ClockRange now
unprepared_as (prepare.SerialEnd value met) = refused.SerialEnd value
unprepared_as (prepare.Nothing serial met) = refused.Nothing serial
unprepared_as (prepare.SignerFault signer met) = refused.SignerFault signer
unprepared_as (prepare.KeyClash id met) = refused.KeyClash id
unprepared_as (prepare.JournalFull held needed met) = refused.JournalFull held needed
unprepared_as prepare.Memory = refused.Memory

abbrev pub unmade_as : {D : Type 0} → Unmade D → Refused
unmade_as (Unprepared fault) = unprepared_as fault
unmade_as (Uncommitted fault) = refused.DiskFault PRESS_DEVICE

-- Want of memory is told without the serial.
abbrev pub unexported_as : {O : Type 0} → ℕ → ExportFault O → Refused
unexported_as serial (export.OutletFault rose) = refused.OutletFault serial
unexported_as serial export.Memory = refused.Memory

abbrev pub unpublished_as : {D O : Type 0} → PublishFault D O → Refused
unpublished_as (publish.Unmade serial fault) = unmade_as fault
unpublished_as (publish.Repeated serial fault) = unmade_as fault
unpublished_as (publish.Unexported serial fault) = unexported_as serial fault

abbrev pub publication_text : {D O : Type 0} → Result PublishedNumbers (PublishFault D O) → List ℕ
publication_text (Ok published) = published_spelling (published_in_reply published)
publication_text (Err fault) = refused_spelling (unpublished_as fault)

-- Whether the edition is in doubt, or an edition or its export changed.
abbrev pub leaves_edition_in_doubt : {D : Type 0} → Unmade D → Bool
leaves_edition_in_doubt (Unprepared fault) = false
leaves_edition_in_doubt (Uncommitted fault) = true

abbrev pub fault_changes_editions : {D O : Type 0} → PublishFault D O → Bool
fault_changes_editions (publish.Unmade serial fault) = leaves_edition_in_doubt fault
fault_changes_editions (publish.Repeated serial fault) = true
fault_changes_editions (publish.Unexported serial fault) = true

abbrev pub changes_editions : {D O : Type 0} → Result PublishedNumbers (PublishFault D O) → Bool
changes_editions (Ok published) = true
changes_editions (Err fault) = fault_changes_editions fault

-- ---- editions that were seen

abbrev pub serial_text : PassValue → List ℕ
serial_text pass = serial_spelling (last_serial pass.shown)

abbrev pub awaited_text : Awaited → List ℕ
awaited_text (Reached serial) = reached_spelling serial
awaited_text (NotYet seen) = refused_spelling (refused.NotYet seen)

-- ---- reads

abbrev pub list_line_of : ListRow → ListLine
list_line_of row = record { name = row.name; deleted = row.deleted }

abbrev pub stage_word : ShownStage → StageWord
stage_word shown_stage.Absent = stage.None
stage_word shown_stage.Steady = stage.Steady
stage_word shown_stage.Staged = stage.Staged
stage_word shown_stage.Retiring = stage.Retiring

abbrev pub show_reply_of : List ℕ → Shown → ShowReply
show_reply_of name shown = record {
  authority = name;
  certified = shown.row.certified;
  parent = shown.parent;
  serial = shown.serial;
  stage = stage_word shown.row.stage;
}

abbrev pub roa_word : RoaState → RoaWord
roa_word Published = roa.Published
roa_word Held = roa.Held
roa_word Pending = roa.Pending

abbrev pub roa_line_of : ShownRoa → RoaLine
roa_line_of row = record { origin = row.origin; state = roa_word row.state }

-- The names of the tree, each with whether its authority is deleted.
abbrev pub IsListText : PassValue → List ℕ → Type 0
IsListText pass text = (rows : List ListRow) × AreListRows pass.seats rows
    × (text ≡ list_spelling (map list_line_of rows))

-- No authority has the name, and the text says so.
abbrev pub IsUnnamedText : List ℕ → PassValue → List ℕ → Type 0
IsUnnamedText name pass text =
    IsNamed pass.seats name None × (text ≡ refused_spelling (refused.NoSuchAuthority name))

-- An authority: its parent and children, and what the edition seen last says of it.
abbrev pub IsShowText : List ℕ → PassValue → List ℕ → Type 0
IsShowText name pass text = IsUnnamedText name pass text
    ⊎ ((shown : Shown) × IsShown name pass shown
    × (text ≡ show_spelling (show_reply_of name shown) shown.children))

-- Its origins, and where each stands in that edition.
abbrev pub IsRoasText : List ℕ → PassValue → List ℕ → Type 0
IsRoasText name pass text = IsUnnamedText name pass text
    ⊎ ((roas : ShownRoas) × AreRoas name pass roas
    × (text ≡ roas_spelling name (map roa_line_of roas.rows) roas.serial))

-- Its commands, counted from 1.
abbrev pub IsHistoryText : List ℕ → PassValue → List ℕ → Type 0
IsHistoryText name pass text = IsUnnamedText name pass text
    ⊎ ((commands : List Command) × IsHistory name pass.seats commands
    × (text ≡ history_spelling name commands))
