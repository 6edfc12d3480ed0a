-- Fields are known by their names and by their places.
use Rattle.std.proofs.Common.{◌≡◌, ◌≢◌, ℕ, ◌<◌, List, [], ◌∷◌, length, Bool, true, false, Option, Some, bytes_eq, get_or, refl, sym, ap, ◌∙◌, arith, if◌then◌else◌}
use Rattle.std.proofs.lemmas.Slice.Eq.{bytes_eq-Decides}
use Rattle.json_api.specs.declared.fields.Field.{Field}
use Rattle.json_api.specs.declared.fields.Field.TheVariants.{Add, Ca, Child, Command, Looks, Parent, Remove, Resources, Serial, Signer}
use Rattle.json_api.specs.Names.{name_of, place_of, fields, first_named, field_named}

module _ {A : Type 0} (text_of : A → List ℕ) where
  here : (text : List ℕ) (a b : A) (rest : Option A) (c : Bool) → bytes_eq text (text_of a) ≡ c → (rest ≡ Some b → text ≡ text_of b)
      → (if c then Some a else rest) ≡ Some b → text ≡ text_of b
  here text a b rest true same later e = (bytes_eq-Decides text (text_of a)).0 same ∙ ap text_of (cc)
  here text a b rest false same later e = later e

  -- what is found has the text
  pub first_named-is : (of : List A) (text : List ℕ) (b : A) → first_named text_of of text ≡ Some b → text ≡ text_of b
  first_named-is [] text b e = absurd (cc)
  first_named-is (a ∷ more) text b e =
      here text a b (first_named text_of more text) (bytes_eq text (text_of a)) refl (first_named-is more text b) e

pub field_named-name_of : (f : Field) → field_named (name_of f) ≡ Some f
field_named-name_of Add = refl
field_named-name_of Ca = refl
field_named-name_of Child = refl
field_named-name_of Command = refl
field_named-name_of Looks = refl
field_named-name_of Parent = refl
field_named-name_of Remove = refl
field_named-name_of Resources = refl
field_named-name_of Serial = refl
field_named-name_of Signer = refl

pub place_within : (f : Field) → place_of f < 10
place_within Add = omega arith
place_within Ca = omega arith
place_within Child = omega arith
place_within Command = omega arith
place_within Looks = omega arith
place_within Parent = omega arith
place_within Remove = omega arith
place_within Resources = omega arith
place_within Serial = omega arith
place_within Signer = omega arith

pub field_at-place : (other f : Field) → get_or fields (place_of f) other ≡ f
field_at-place other Add = refl
field_at-place other Ca = refl
field_at-place other Child = refl
field_at-place other Command = refl
field_at-place other Looks = refl
field_at-place other Parent = refl
field_at-place other Remove = refl
field_at-place other Resources = refl
field_at-place other Serial = refl
field_at-place other Signer = refl

-- one place, one field, and one name
pub same_field : (f g : Field) → place_of f ≡ place_of g → f ≡ g
same_field f g e = sym (field_at-place f f) ∙ ap (λ (i : ℕ). get_or fields i f) e ∙ field_at-place f g

pub same_place : (f g : Field) → place_of f ≡ place_of g → name_of f ≡ name_of g
same_place f g e = ap name_of (same_field f g e)

unlike : (a b : List ℕ) (same : Bool) → bytes_eq a b ≡ same → length a ≢ length b → same ≡ false
unlike a b true is long = absurd (long (ap length ((bytes_eq-Decides a b).0 is)))
unlike a b false is long = refl

-- texts of two lengths aren't the same
pub unlike_long : (a b : List ℕ) → length a ≢ length b → bytes_eq a b ≡ false
unlike_long a b long = unlike a b (bytes_eq a b) refl long
