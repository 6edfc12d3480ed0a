-- The members that lines have: each with its name, its kind and its place.
use Rattle.std.specs.Prelude.{ℕ, ◌==◌, List, [], ◌∷◌, Bool, Option, Some, None, codes, if◌then◌else◌}
use Rattle.std.specs.List.{list_any}
use Rattle.std.specs.Str.{bytes_eq}
use Rattle.json_api.specs.declared.fields.Field.{Field}
use Rattle.json_api.specs.declared.fields.Field.TheVariants as field
use Rattle.json_api.specs.declared.fields.Kind.{Kind}
use Rattle.json_api.specs.declared.fields.Kind.TheVariants as kind

-- the name of the member
abbrev pub name_of : Field → List ℕ
name_of field.Add = codes "add"
name_of field.Ca = codes "ca"
name_of field.Child = codes "child"
name_of field.Command = codes "command"
name_of field.Looks = codes "looks"
name_of field.Parent = codes "parent"
name_of field.Remove = codes "remove"
name_of field.Resources = codes "resources"
name_of field.Serial = codes "serial"
name_of field.Signer = codes "signer"

-- what its value has to be
abbrev pub kind_of : Field → Kind
kind_of field.Add = kind.Origins
kind_of field.Ca = kind.Name
kind_of field.Child = kind.Name
kind_of field.Command = kind.Row
kind_of field.Looks = kind.Looks
kind_of field.Parent = kind.Name
kind_of field.Remove = kind.Origins
kind_of field.Resources = kind.Resources
kind_of field.Serial = kind.Serial
kind_of field.Signer = kind.Number

-- all fields, by the bytes of their names
abbrev pub fields : List Field
fields =
    field.Add ∷ field.Ca ∷ field.Child ∷ field.Command ∷ field.Looks ∷ field.Parent
    ∷ field.Remove ∷ field.Resources ∷ field.Serial ∷ field.Signer ∷ []

-- the first of a list that has this text
abbrev pub first_named : {A : Type 0} → (A → List ℕ) → List A → List ℕ → Option A
first_named text_of [] text = None
first_named text_of (a ∷ more) text = if bytes_eq text (text_of a) then Some a else first_named text_of more text

abbrev pub field_named : List ℕ → Option Field
field_named name = first_named name_of fields name

-- each field has its place among them all
abbrev pub place_of : Field → ℕ
place_of field.Add = 0
place_of field.Ca = 1
place_of field.Child = 2
place_of field.Command = 3
place_of field.Looks = 4
place_of field.Parent = 5
place_of field.Remove = 6
place_of field.Resources = 7
place_of field.Serial = 8
place_of field.Signer = 9

abbrev pub is_among : List Field → Field → Bool
is_among some f = list_any (λ other. place_of other == place_of f) some
