-- The texts of the replies that tell of authorities: compact JSON, the members in byte order (RFC
-- 8259 section 4).
use Rattle.std.specs.Prelude.{ℕ, ◌+◌, Bool, true, false, List, [], ◌∷◌, ◌++◌, map, Option, None, Some, codes, decimal}
use Rattle.json.specs.Print.{quoted}
use Rattle.res_sets.specs.declared.holdings.Resources.{Resources}
use Rattle.res_sets.specs.Sets.{RangeSet}
use Rattle.res_sets.specs.Printed.{ranges_text}
use Rattle.origins.specs.declared.Origin.{Origin}
use Rattle.origins.specs.Origin.{origin_text}
use Rattle.authority_book.specs.declared.commands.Command.{Command}
use Rattle.authority_book.specs.declared.commands.Command.TheVariants as commands
use Rattle.authority_book.specs.declared.rows.Child.{Child}
use Rattle.json_api.specs.declared.fields.Field.{Field}
use Rattle.json_api.specs.declared.fields.Field.TheVariants as field
use Rattle.json_api.specs.declared.fields.Row.{Row}
use Rattle.json_api.specs.declared.fields.Row.TheVariants as row
use Rattle.json_api.specs.declared.texts.ListLine.{ListLine}
use Rattle.json_api.specs.declared.texts.RoaLine.{RoaLine}
use Rattle.json_api.specs.declared.texts.RoaWord.{RoaWord}
use Rattle.json_api.specs.declared.texts.RoaWord.TheVariants as roa
use Rattle.json_api.specs.declared.texts.StageWord.{StageWord}
use Rattle.json_api.specs.declared.texts.StageWord.TheVariants as stage
use Rattle.json_api.specs.declared.texts.Shown.{Shown}
use Rattle.json_api.specs.Names.{name_of}
use Rattle.json_api.specs.Table.{command_of}

-- texts with a comma between each two
abbrev pub commas : List (List ℕ) → List ℕ
commas [] = []
commas (text ∷ []) = text
commas (text ∷ next ∷ more) = text ++ codes "," ++ commas (next ∷ more)

abbrev pub flag_text : Bool → List ℕ
flag_text true = codes "true"
flag_text false = codes "false"

-- ---- `list`

abbrev pub list_line : ListLine → List ℕ
list_line line = codes "{\"deleted\":" ++ flag_text line.deleted ++ codes ",\"name\":" ++ quoted line.name ++ codes "}"

abbrev pub list_spelling : List ListLine → List ℕ
list_spelling lines = codes "{\"authorities\":[" ++ commas (map list_line lines) ++ codes "],\"reply\":\"list\"}"

-- ---- `show`

abbrev pub set_text : RangeSet → List ℕ
set_text set = ranges_text set.family set.ranges

unfoldable pub resources_text : Resources → List ℕ
resources_text held =
    codes "{\"asn\":" ++ quoted (set_text held.asn)
    ++ codes ",\"ipv4\":" ++ quoted (set_text held.v4)
    ++ codes ",\"ipv6\":" ++ quoted (set_text held.v6) ++ codes "}"

abbrev pub child_line : Child → List ℕ
child_line child =
    codes "{\"name\":" ++ quoted child.name
    ++ codes ",\"resources\":" ++ resources_text child.grant
    ++ codes ",\"suspended\":" ++ flag_text child.suspended ++ codes "}"

abbrev pub parent_text : Option (List ℕ) → List ℕ
parent_text None = codes "null"
parent_text (Some name) = quoted name

abbrev pub stage_text : StageWord → List ℕ
stage_text stage.None = codes "\"none\""
stage_text stage.Steady = codes "\"steady\""
stage_text stage.Staged = codes "\"staged\""
stage_text stage.Retiring = codes "\"retiring\""

abbrev pub show_spelling : Shown → List Child → List ℕ
show_spelling shown children =
    codes "{\"authority\":" ++ quoted shown.authority
    ++ codes ",\"certified\":" ++ resources_text shown.certified
    ++ codes ",\"children\":[" ++ commas (map child_line children)
    ++ codes "],\"parent\":" ++ parent_text shown.parent
    ++ codes ",\"reply\":\"show\",\"serial\":" ++ decimal shown.serial
    ++ codes ",\"stage\":" ++ stage_text shown.stage ++ codes "}"

-- ---- `roas list`

abbrev pub state_text : RoaWord → List ℕ
state_text roa.Published = codes "\"published\""
state_text roa.Held = codes "\"held\""
state_text roa.Pending = codes "\"pending\""

abbrev pub roa_line : RoaLine → List ℕ
roa_line line = codes "{\"origin\":" ++ quoted (origin_text line.origin) ++ codes ",\"state\":" ++ state_text line.state ++ codes "}"

abbrev pub roas_spelling : List ℕ → List RoaLine → ℕ → List ℕ
roas_spelling authority lines serial =
    codes "{\"authority\":" ++ quoted authority
    ++ codes ",\"origins\":[" ++ commas (map roa_line lines)
    ++ codes "],\"reply\":\"roas list\",\"serial\":" ++ decimal serial ++ codes "}"

-- ---- `history commands`

-- a member whose value is a name
unfoldable pub named_line : Field → List ℕ → List ℕ
named_line f name = quoted (name_of f) ++ codes ":" ++ quoted name

-- the member `command`
unfoldable pub row_line : Row → List ℕ
row_line of = quoted (name_of field.Command) ++ codes ":" ++ quoted (command_of of)

unfoldable pub signer_line : ℕ → List ℕ
signer_line signer = quoted (name_of field.Signer) ++ codes ":" ++ decimal signer

unfoldable pub held_line : Resources → List ℕ
held_line held = quoted (name_of field.Resources) ++ codes ":" ++ resources_text held

abbrev pub origin_member : Origin → List ℕ
origin_member origin = quoted (origin_text origin)

unfoldable pub origins_text : List Origin → List ℕ
origins_text origins = codes "[" ++ commas (map origin_member origins) ++ codes "]"

unfoldable pub origins_line : Field → List Origin → List ℕ
origins_line f origins = quoted (name_of f) ++ codes ":" ++ origins_text origins

-- The members of a command's line in byte order, with all its fields: those of its row.
abbrev pub members_of : List ℕ → Command → List (List ℕ)
members_of ca (commands.Add name signer) = named_line field.Ca name ∷ row_line row.Add ∷ signer_line signer ∷ []
members_of ca commands.Delete = named_line field.Ca ca ∷ row_line row.Delete ∷ []
members_of ca (commands.AddParent parent) = named_line field.Ca ca ∷ row_line row.ParentsAdd ∷ named_line field.Parent parent ∷ []
members_of ca (commands.AddChild child grant) = named_line field.Ca ca ∷ named_line field.Child child ∷ row_line row.ChildrenAdd ∷ held_line grant ∷ []
members_of ca (commands.UpdateChild child grant) = named_line field.Ca ca ∷ named_line field.Child child ∷ row_line row.ChildrenUpdate ∷ held_line grant ∷ []
members_of ca (commands.RemoveChild child) = named_line field.Ca ca ∷ named_line field.Child child ∷ row_line row.ChildrenRemove ∷ []
members_of ca (commands.SuspendChild child) = named_line field.Ca ca ∷ named_line field.Child child ∷ row_line row.ChildrenSuspend ∷ []
members_of ca (commands.UnsuspendChild child) = named_line field.Ca ca ∷ named_line field.Child child ∷ row_line row.ChildrenUnsuspend ∷ []
members_of ca (commands.UpdateRoas added removed) = origins_line field.Add added ∷ named_line field.Ca ca ∷ row_line row.RoasUpdate ∷ origins_line field.Remove removed ∷ []
members_of ca commands.InitRoll = named_line field.Ca ca ∷ row_line row.KeyrollInit ∷ []
members_of ca commands.ActivateRoll = named_line field.Ca ca ∷ row_line row.KeyrollActivate ∷ []

unfoldable pub line_text : List ℕ → Command → List ℕ
line_text ca command = codes "{" ++ commas (members_of ca command) ++ codes "}"

-- a command with its place, from 1
abbrev pub history_line : List ℕ → ℕ → Command → List ℕ
history_line ca count command = codes "{\"count\":" ++ decimal count ++ codes ",\"line\":" ++ line_text ca command ++ codes "}"

abbrev pub history_lines : List ℕ → ℕ → List Command → List (List ℕ)
history_lines ca before [] = []
history_lines ca before (command ∷ more) = history_line ca (before + 1) command ∷ history_lines ca (before + 1) more

abbrev pub history_spelling : List ℕ → List Command → List ℕ
history_spelling authority commands =
    codes "{\"authority\":" ++ quoted authority
    ++ codes ",\"commands\":[" ++ commas (history_lines authority 0 commands)
    ++ codes "],\"reply\":\"history commands\"}"
