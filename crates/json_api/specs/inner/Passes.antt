-- What a pass over a line's tokens has read, for private clauses.
use Rattle.std.specs.Prelude.{◌≡◌, ◌⊎◌, ℕ, List, Option, Some, None, Result, Err, length}
use Rattle.json.specs.Token.{Token}
use Rattle.json.specs.Json.{items, members, value}
use Rattle.serde_json.specs.Data.{Data, Items, Members, no_members, put}
use Rattle.serde_json.specs.Find.{get_member}
use Rattle.serde_json.specs.Read.{of_json, of_items, of_members, converted, read}
use Rattle.json_api.specs.declared.fields.Field.{Field}
use Rattle.json_api.specs.declared.line.Line.{Line}
use Rattle.json_api.specs.declared.line.LineFault.{LineFault}
use Rattle.json_api.specs.declared.line.LineFault.TheVariants.{BadLine}
use Rattle.json_api.specs.declared.slots.Slot.{Slot}
use Rattle.json_api.specs.Names.{name_of, kind_of, field_named}
use Rattle.json_api.specs.Line.{Tells}
use Rattle.json_api.specs.Line as line
use Rattle.json_api.specs.inner.Slots.{slot_at}

-- of the tokens, the first are a member's value
abbrev pub ReadsValue : List Token → Data → List Token → Type 0
ReadsValue old d new = converted of_json (value 126 old) ≡ Some (d, new)

-- the first are the items of a member's list and its closing bracket
abbrev pub ReadsItems : List Token → Items → List Token → Type 0
ReadsItems old ds new = converted of_items (items (value 125) (length old) old) ≡ Some (ds, new)

-- the first are the members of a line and its closing brace
abbrev pub ReadsMembers : List Token → Members → List Token → Type 0
ReadsMembers old ms new = converted (λ found. of_members found no_members) (members (value 126) (length old) old) ≡ Some (ms, new)

-- a member is there only under a field's name, and the field's slot tells of it
abbrev pub IsMember : Option Field → Option Data → List Slot → Type 0
IsMember None found slots = found ≡ None
IsMember (Some f) found slots = Tells (kind_of f) found (slot_at slots f)

-- these are the slots of the members, all of which are fields
abbrev pub AreMembers : Members → List Slot → Type 0
AreMembers ms slots = (name : List ℕ) → IsMember (field_named name) (get_member name ms) slots

-- of the tokens, the first are the field's value, and its slot is filled with it
abbrev pub Fills : Field → List Token → List Token → List Slot → List Slot → Type 0
Fills f old new before after =
    (d : Data) × ReadsValue old d new
    × ((ms : Members) → AreMembers ms before → AreMembers (put (name_of f) d ms) after)

-- What a text of few enough bytes is read as: where it is a JSON text, what the table says of its value,
-- and else a bad line.
abbrev pub ReadsText : List ℕ → Result Line LineFault → Type 0
ReadsText text result =
    ((value : Data) × (read text ≡ Some value) × line.ReadsValue value result) ⊎ ((read text ≡ None) × (result ≡ Err BadLine))
