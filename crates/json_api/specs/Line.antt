-- What a line says: the table, over the value that `serde_json` reads (RFC 8259 section 4).
use Rattle.std.specs.Prelude.{◌≡◌, ℕ, ◌<◌, ◌≤◌, ◌^◌, ◌⊎◌, List, [], ◌∷◌, length, codes, Bool, true, ◌&&◌, ◌||◌, Option, Some, None, IsSomeAnd, ⊤, IsUtf8, Result, Err, option_and_then}
use Rattle.std.specs.Str.{bytes_eq}
use Rattle.serde_json.specs.Data.{Data, Items, no_items, item, Members, no_members, member}
use Rattle.serde_json.specs.Find.{get, as_str, as_array, as_object, as_number, as_u64}
use Rattle.serde_json.specs.Read.{read}
use Rattle.names.specs.Name.{IsName}
use Rattle.line_loop.specs.declared.TheConstants.{LINE_LIMIT}
use Rattle.res_sets.specs.declared.numbers.Family.{Family}
use Rattle.res_sets.specs.declared.numbers.Family.TheVariants.{Asn, V4, V6}
use Rattle.res_sets.specs.declared.holdings.Resources.{Resources}
use Rattle.res_sets.specs.Sets.{RangeSet}
use Rattle.res_sets.specs.Texts.{Spells}
use Rattle.origins.specs.declared.Origin.{Origin}
use Rattle.origins.specs.Origin.{SpellsOrigin}
use Rattle.json_api.specs.declared.fields.Field.{Field}
use Rattle.json_api.specs.declared.fields.Kind.{Kind}
use Rattle.json_api.specs.declared.fields.Kind.TheVariants as kind
use Rattle.json_api.specs.declared.slots.Slot.{Slot}
use Rattle.json_api.specs.declared.slots.Slot.TheVariants.{Absent, Bad}
use Rattle.json_api.specs.declared.line.Line.{Line}
use Rattle.json_api.specs.declared.line.LineFault.{LineFault}
use Rattle.json_api.specs.declared.line.LineFault.TheVariants.{BadLine}
use Rattle.json_api.specs.Names.{name_of, kind_of}
use Rattle.json_api.specs.Rows.{Slots, as_row, as_name, as_number as number_in, as_serial, as_looks, as_resources, as_origins}
use Rattle.json_api.specs.Table.{row_named, line_of}

-- The value is a text that spells the origin.
abbrev pub IsOriginText : Data → Origin → Type 0
IsOriginText value origin = IsSomeAnd (as_str value) (λ text. SpellsOrigin text origin)

-- The items are the origins' texts, one each and in their order.
abbrev pub AreOriginTexts : Items → List Origin → Type 0
AreOriginTexts no_items [] = ⊤
AreOriginTexts no_items (origin ∷ origins) = ⊥
AreOriginTexts (item value values) [] = ⊥
AreOriginTexts (item value values) (origin ∷ origins) = IsOriginText value origin × AreOriginTexts values origins

-- The members' names all pass a test.
abbrev pub all_names : (List ℕ → Bool) → Members → Bool
all_names test no_members = true
all_names test (member name value more) = test name && all_names test more

-- A text that spells the set. One that is left out is the empty set's.
abbrev pub IsSetText : Family → Option Data → RangeSet → Type 0
IsSetText family None set = set ≡ record { family = family; ranges = [] }
IsSetText family (Some value) set = IsSomeAnd (as_str value) (λ text. Spells family text set)

abbrev pub is_set_name : List ℕ → Bool
is_set_name name = bytes_eq name (codes "asn") || bytes_eq name (codes "ipv4") || bytes_eq name (codes "ipv6")

-- An object with the texts of three sets and nothing else.
pub record AreResources (value : Data) (held : Resources) : Type 0 where
  pub asn : IsSetText Asn (get (codes "asn") value) held.asn
  pub v4 : IsSetText V4 (get (codes "ipv4") value) held.v4
  pub v6 : IsSetText V6 (get (codes "ipv6") value) held.v6
  pub no_other : IsSomeAnd (as_object value) (λ members. all_names is_set_name members ≡ true)

-- How often is looked at most.
abbrev pub most_looks : ℕ
most_looks = 1000000000

-- The value is in the kind's grammar, and the slot has what it says.
abbrev pub Says : Kind → Data → Slot → Type 0
Says kind.Row value slot = IsSomeAnd (as_row slot) (λ row. option_and_then row_named (as_str value) ≡ Some row)
Says kind.Name value slot = IsSomeAnd (as_name slot) (λ name. (as_str value ≡ Some name) × IsName name)
Says kind.Number value slot = IsSomeAnd (number_in slot) (λ n. (option_and_then as_u64 (as_number value) ≡ Some n) × (n < 2 ^ 32))
Says kind.Serial value slot =
    IsSomeAnd (as_serial slot) (λ n. option_and_then as_u64 (as_number value) ≡ Some n)
Says kind.Looks value slot =
    IsSomeAnd (as_looks slot)
    (λ n. (option_and_then as_u64 (as_number value) ≡ Some n) × (1 ≤ n) × (n ≤ most_looks))
Says kind.Resources value slot = IsSomeAnd (as_resources slot) (AreResources value)
Says kind.Origins value slot = IsSomeAnd (as_origins slot) (λ origins. IsSomeAnd (as_array value) (λ items. AreOriginTexts items origins))

-- The slot tells of a member: that it is left out, what it says, or that it is outside its grammar.
abbrev pub Tells : Kind → Option Data → Slot → Type 0
Tells of None slot = slot ≡ Absent
Tells of (Some value) slot = Says of value slot ⊎ ((slot ≡ Bad) × ((said : Slot) → ¬ Says of value said))

-- Each slot tells of the member of its field.
abbrev pub AreSlots : Data → Slots → Type 0
AreSlots value s = (f : Field) → Tells (kind_of f) (get (name_of f) value) (s f)

-- The bytes are a line at all: not too many, and the JSON text of the value.
pub record IsDocument (bytes : List ℕ) (value : Data) : Type 0 where
  pub short : length bytes ≤ LINE_LIMIT
  pub utf8 : IsUtf8 bytes
  pub text : read bytes ≡ Some value

-- What a JSON value is read as: what the table says of its members.
pub record ReadsValue (value : Data) (result : Result Line LineFault) : Type 0 where
  pub slots : Slots
  pub are : AreSlots value slots
  pub says : result ≡ line_of value slots

-- What bytes are read as: where they are a JSON text, what the table says of its value, and else a bad
-- line.
abbrev pub ReadsLine : List ℕ → Result Line LineFault → Type 0
ReadsLine bytes result =
    ((value : Data) × (IsDocument bytes value × ReadsValue value result))
    ⊎ (((value : Data) → ¬ IsDocument bytes value) × (result ≡ Err BadLine))
