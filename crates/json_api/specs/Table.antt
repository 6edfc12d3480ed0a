-- The table of lines: a row for each `command`, and what an object is by it (RFC 8259 section 4).
use Rattle.std.specs.Prelude.{ℕ, ◌==◌, List, [], ◌∷◌, map, Bool, false, ◌||◌, Option, Some, None, Result, Ok, Err, codes, if◌then◌else◌}
use Rattle.serde_json.specs.Data.{Data, Members, no_members, member}
use Rattle.serde_json.specs.Find.{as_object}
use Rattle.authority_book.specs.declared.commands.Command.TheVariants as commands
use Rattle.json_api.specs.declared.fields.Field.{Field}
use Rattle.json_api.specs.declared.fields.Field.TheVariants as field
use Rattle.json_api.specs.declared.fields.Field.TheVariants.{Ca, Child, Looks, Parent, Remove, Signer}
use Rattle.json_api.specs.declared.fields.Row.{Row}
use Rattle.json_api.specs.declared.fields.Row.TheVariants as row
use Rattle.json_api.specs.declared.line.Line.{Line}
use Rattle.json_api.specs.declared.line.Line.TheVariants as line
use Rattle.json_api.specs.declared.line.LineFault.{LineFault}
use Rattle.json_api.specs.declared.line.LineFault.TheVariants.{BadLine, UnknownCommand, BadField}
use Rattle.json_api.specs.Names.{place_of, is_among, first_named, field_named}
use Rattle.json_api.specs.Rows.{RowField, required, optional, Entry, entry, Slots, as_row}

-- the trust anchor's name
abbrev pub anchor : List ℕ
anchor = codes "ta"

-- A new authority is added by the anchor.
abbrev pub table : Row → Entry
table row.Add = entry (codes "add") (required Ca ∷ optional Signer 0 ∷ [])
    (λ new signer. line.Command anchor (commands.Add new signer))
table row.Delete = entry (codes "delete") (required Ca ∷ [])
    (λ ca. line.Command ca commands.Delete)
table row.ParentsAdd = entry (codes "parents add") (required Ca ∷ required Parent ∷ [])
    (λ ca parent. line.Command ca (commands.AddParent parent))
table row.ChildrenAdd = entry (codes "children add") (required Ca ∷ required Child ∷ required field.Resources ∷ [])
    (λ ca child grant. line.Command ca (commands.AddChild child grant))
table row.ChildrenUpdate = entry (codes "children update") (required Ca ∷ required Child ∷ required field.Resources ∷ [])
    (λ ca child grant. line.Command ca (commands.UpdateChild child grant))
table row.ChildrenRemove = entry (codes "children remove") (required Ca ∷ required Child ∷ [])
    (λ ca child. line.Command ca (commands.RemoveChild child))
table row.ChildrenSuspend = entry (codes "children suspend") (required Ca ∷ required Child ∷ [])
    (λ ca child. line.Command ca (commands.SuspendChild child))
table row.ChildrenUnsuspend = entry (codes "children unsuspend") (required Ca ∷ required Child ∷ [])
    (λ ca child. line.Command ca (commands.UnsuspendChild child))
table row.RoasUpdate = entry (codes "roas update") (required Ca ∷ optional field.Add [] ∷ optional Remove [] ∷ [])
    (λ ca added removed. line.Command ca (commands.UpdateRoas added removed))
table row.KeyrollInit = entry (codes "keyroll init") (required Ca ∷ [])
    (λ ca. line.Command ca commands.InitRoll)
table row.KeyrollActivate = entry (codes "keyroll activate") (required Ca ∷ [])
    (λ ca. line.Command ca commands.ActivateRoll)
table row.Publish = entry (codes "publish") []
    line.Publish
table row.Serial = entry (codes "serial") []
    line.Serial
table row.Await = entry (codes "await") (required field.Serial ∷ optional Looks 1000000 ∷ [])
    (λ serial looks. line.Await serial looks)
table row.List = entry (codes "list") []
    line.List
table row.Show = entry (codes "show") (required Ca ∷ [])
    (λ ca. line.Show ca)
table row.RoasList = entry (codes "roas list") (required Ca ∷ [])
    (λ ca. line.Roas ca)
table row.HistoryCommands = entry (codes "history commands") (required Ca ∷ [])
    (λ ca. line.History ca)

-- all rows
abbrev pub rows : List Row
rows =
    row.Add ∷ row.Delete ∷ row.ParentsAdd ∷ row.ChildrenAdd ∷ row.ChildrenUpdate
    ∷ row.ChildrenRemove ∷ row.ChildrenSuspend ∷ row.ChildrenUnsuspend ∷ row.RoasUpdate
    ∷ row.KeyrollInit ∷ row.KeyrollActivate ∷ row.Publish ∷ row.Serial ∷ row.Await ∷ row.List
    ∷ row.Show ∷ row.RoasList ∷ row.HistoryCommands ∷ []

-- ---- what the table says of a row

-- the text of the member `command`
abbrev pub command_of : Row → List ℕ
command_of of = (table of).command

abbrev pub row_named : List ℕ → Option Row
row_named text = first_named command_of rows text

-- the row's fields, in the order in which they are read
abbrev pub fields_of : Row → List Field
fields_of of = map (λ (f : RowField). f.field) (table of).fields

-- what the slots of the row's fields come to
abbrev pub line_at : Row → Slots → Result Line LineFault
line_at of s = (table of).line s

-- the row has the field, or it is `command`
abbrev pub takes : Row → Field → Bool
takes of f = (place_of f == place_of field.Command) || is_among (fields_of of) f

abbrev pub takes_some : Row → Option Field → Bool
takes_some of None = false
takes_some of (Some f) = takes of f

-- the row has a member of that name
abbrev pub is_member : Row → List ℕ → Bool
is_member of name = takes_some of (field_named name)

-- the first member in byte order that the row doesn't have
abbrev pub first_other : Row → Members → Option (List ℕ)
first_other of no_members = None
first_other of (member name value more) = if is_member of name then first_other of more else Some name

-- the line that the fields come to, where there is no other member
abbrev pub only : Result Line LineFault → Option (List ℕ) → Result Line LineFault
only (Err fault) other = Err fault
only (Ok meant) None = Ok meant
only (Ok meant) (Some name) = Err (BadField name)

-- ---- what an object comes to

abbrev pub of_row : Option Row → Slots → Members → Result Line LineFault
of_row None s ms = Err UnknownCommand
of_row (Some of) s ms = only (line_at of s) (first_other of ms)

abbrev pub of_members : Option Members → Slots → Result Line LineFault
of_members None s = Err BadLine
of_members (Some ms) s = of_row (as_row (s field.Command)) s ms

-- The line that a value is, where its members hold this, or the fault of being none.
abbrev pub line_of : Data → Slots → Result Line LineFault
line_of value s = of_members (as_object value) s
