-- What a row of the table of lines has, and what its fields' slots come to.
use Rattle.std.specs.Prelude.{ℕ, List, [], ◌∷◌, Option, Some, None, Result, Ok, Err}
use Rattle.res_sets.specs.declared.holdings.Resources.{Resources}
use Rattle.origins.specs.declared.Origin.{Origin}
use Rattle.json_api.specs.declared.fields.Field.{Field}
use Rattle.json_api.specs.declared.fields.Kind.{Kind}
use Rattle.json_api.specs.declared.fields.Kind.TheVariants as kind
use Rattle.json_api.specs.declared.fields.Row.{Row}
use Rattle.json_api.specs.declared.line.Line.{Line}
use Rattle.json_api.specs.declared.line.LineFault.{LineFault}
use Rattle.json_api.specs.declared.line.LineFault.TheVariants.{BadField}
use Rattle.json_api.specs.declared.slots.Slot.{Slot}
use Rattle.json_api.specs.declared.slots.Slot.TheVariants as slot
use Rattle.json_api.specs.Names.{name_of, kind_of}

-- ---- what a slot holds

abbrev pub as_row : Slot → Option Row
as_row (slot.Row of) = Some of
as_row other = None

abbrev pub as_name : Slot → Option (List ℕ)
as_name (slot.Name name) = Some name
as_name other = None

abbrev pub as_number : Slot → Option ℕ
as_number (slot.Number n) = Some n
as_number other = None

abbrev pub as_serial : Slot → Option ℕ
as_serial (slot.Serial serial) = Some serial
as_serial other = None

abbrev pub as_looks : Slot → Option ℕ
as_looks (slot.Looks looks) = Some looks
as_looks other = None

abbrev pub as_resources : Slot → Option Resources
as_resources (slot.Resources held) = Some held
as_resources other = None

abbrev pub as_origins : Slot → Option (List Origin)
as_origins (slot.Origins origins) = Some origins
as_origins other = None

-- the values that a kind has
abbrev pub Value : Kind → Type 0
Value kind.Row = Row
Value kind.Name = List ℕ
Value kind.Number = ℕ
Value kind.Serial = ℕ
Value kind.Looks = ℕ
Value kind.Resources = Resources
Value kind.Origins = List Origin

abbrev pub held_as : (of : Kind) → Slot → Option (Value of)
held_as kind.Row s = as_row s
held_as kind.Name s = as_name s
held_as kind.Number s = as_number s
held_as kind.Serial s = as_serial s
held_as kind.Looks s = as_looks s
held_as kind.Resources s = as_resources s
held_as kind.Origins s = as_origins s

-- what the slot holds, or the default where the field is left out
abbrev pub held_or : (of : Kind) → Option (Value of) → Slot → Option (Value of)
held_or of default slot.Absent = default
held_or of default found = held_as of found

-- the value of the field, or the fault of having none
abbrev pub of_field : {A : Type 0} → Field → Option A → Result A LineFault
of_field f None = Err (BadField (name_of f))
of_field f (Some value) = Ok value

-- ---- the fields of a row

-- A field of a row, with the value that counts where it is left out, if there is one.
pub record RowField : Type 0 where
  pub field : Field
  pub default : Option (Value (kind_of field))

abbrev pub required : Field → RowField
required f = record { field = f; default = None }

abbrev pub optional : (f : Field) → Value (kind_of f) → RowField
optional f default = record { field = f; default = Some default }

-- a line for the values of the fields, in their order
abbrev pub Makes : List RowField → Type 0
Makes [] = Line
Makes (f ∷ more) = Value (kind_of f.field) → Makes more

-- ---- what the fields come to

-- the fields' slots
abbrev pub Slots : Type 0
Slots = Field → Slot

abbrev pub with_value : {A : Type 0} → Result A LineFault → (A → Result Line LineFault) → Result Line LineFault
with_value (Err fault) rest = Err fault
with_value (Ok value) rest = rest value

-- what one field comes to
abbrev pub value_in : Slots → (f : RowField) → Result (Value (kind_of f.field)) LineFault
value_in s f = of_field f.field (held_or (kind_of f.field) f.default (s f.field))

-- The fields are read in their order: the first that is missing, of another type or outside its
-- grammar is the fault.
abbrev pub made : Slots → (fields : List RowField) → Makes fields → Result Line LineFault
made s [] line = Ok line
made s (f ∷ more) makes = with_value (value_in s f) (λ value. made s more (makes value))

-- ---- rows

-- A row: the text of its member `command`, its fields, and the line that they come to.
pub record Entry : Type 0 where
  pub command : List ℕ
  pub fields : List RowField
  pub line : Slots → Result Line LineFault

-- Every row is made so: its line is that of the values of these fields and no others.
abbrev pub entry : List ℕ → (fields : List RowField) → Makes fields → Entry
entry command fields makes = record { command = command; fields = fields; line = λ s. made s fields makes }
