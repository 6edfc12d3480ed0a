-- The slots as they are kept, and what is left of them, for private clauses.
use Rattle.std.specs.Prelude.{ℕ, ◌==◌, List, [], ◌∷◌, Bool, true, false, ◌||◌, Option, Some, None, get_or, slice_set, if◌then◌else◌}
use Rattle.std.specs.List.{list_all}
use Rattle.serde_json.specs.Data.{Members, no_members, member}
use Rattle.json_api.specs.declared.fields.Field.{Field}
use Rattle.json_api.specs.declared.fields.Field.TheVariants.{Command}
use Rattle.json_api.specs.declared.slots.Slot.{Slot}
use Rattle.json_api.specs.declared.slots.Slot.TheVariants.{Absent}
use Rattle.json_api.specs.Names.{place_of, fields, field_named}

-- the slot of a field
abbrev pub slot_at : List Slot → Field → Slot
slot_at slots f = get_or slots (place_of f) Absent

abbrev pub is_absent : Slot → Bool
is_absent Absent = true
is_absent slot = false

-- what is left where the slots of these fields are taken out
abbrev pub left_of : List Field → List Slot → List Slot
left_of [] slots = slots
left_of (f ∷ more) slots = left_of more (slice_set slots (place_of f) Absent)

-- the field is `command`, or nothing is left of it
abbrev pub is_taken : List Slot → Field → Bool
is_taken left f = (place_of f == place_of Command) || is_absent (slot_at left f)

abbrev pub are_taken : List Slot → Bool
are_taken left = list_all (is_taken left) fields

abbrev pub is_taken_some : List Slot → Option Field → Bool
is_taken_some left None = false
is_taken_some left (Some f) = is_taken left f

-- the first member in byte order that is left
abbrev pub first_left : List Slot → Members → Option (List ℕ)
first_left left no_members = None
first_left left (member name value more) = if is_taken_some left (field_named name) then first_left left more else Some name
