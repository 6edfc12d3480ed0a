-- Changes of a set, said URI by URI (RFC 8181 section 2.2, RFC 8182 section 3.5.3).
use Rattle.std.specs.Prelude.{◌≡◌, ℕ, List, [], ◌∷◌, Option, None, Some, if◌then◌else◌}
use Rattle.std.specs.Str.{bytes_eq}
use Rattle.sha2.specs.Sha256.{sha256}
use Rattle.pub_set.specs.declared.objects.Object.{Object}
use Rattle.pub_set.specs.declared.steps.Change.{Change}
use Rattle.pub_set.specs.declared.steps.Change.TheVariants.{Put, Withdraw}
use Rattle.pub_set.specs.Objects.{is_same, content_at, found_at, Rise}

-- What stands at each URI.
abbrev pub Contents : Type 0
Contents = List ℕ → Option (List ℕ)

-- The URI whose object is changed.
abbrev pub uri_of : Change → List ℕ
uri_of (Put uri bytes replaces) = uri
uri_of (Withdraw uri hash) = uri

-- What stands there after the change.
abbrev pub left_by : Change → Option (List ℕ)
left_by (Put uri bytes replaces) = Some bytes
left_by (Withdraw uri hash) = None

-- The hash of the object that the change takes the place of, if it says one.
abbrev pub hash_of : Change → Option (List ℕ)
hash_of (Put uri bytes replaces) = replaces
hash_of (Withdraw uri hash) = Some hash

-- What stands at each URI once this stands at one.
abbrev pub set_at : Contents → List ℕ → Option (List ℕ) → Contents
set_at held at left uri = if is_same at uri then left else held uri

-- What stands at each URI after one change.
abbrev pub after : Contents → Change → Contents
after held change = set_at held (uri_of change) (left_by change)

-- What stands at each URI after changes, one after another.
abbrev pub after_all : Contents → List Change → Contents
after_all held [] = held
after_all held (change ∷ rest) = after_all (after held change) rest

-- The new set is what the changes make of the old one.
abbrev pub IsApplied : List Object → List Change → List Object → Type 0
IsApplied old changes new =
    (uri : List ℕ) → content_at new uri ≡ after_all (content_at old) changes uri

-- The change at a URI that makes of what is held there what is wanted.
abbrev pub difference : List ℕ → Option (List ℕ) → Option (List ℕ) → Option Change
difference uri None None = None
difference uri None (Some wanted) = Some (Put uri wanted None)
difference uri (Some held) None = Some (Withdraw uri (sha256 held))
difference uri (Some held) (Some wanted) =
    if bytes_eq held wanted then None else Some (Put uri wanted (Some (sha256 held)))

-- The change of a list at a URI.
abbrev pub change_at : List Change → List ℕ → Option Change
change_at changes uri = found_at uri_of (λ c. c) changes uri

-- By rising URI, at each URI the change that makes the new set of the old one, if one is needed.
pub record IsChanges (old new : List Object) (changes : List Change) : Type 0 where
  pub ascending : Rise uri_of changes
  pub each : (uri : List ℕ) →
      change_at changes uri ≡ difference uri (content_at old uri) (content_at new uri)
