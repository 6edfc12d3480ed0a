-- What a query comes to at each URI that it changes.
use Rattle.std.specs.Prelude.{◌≡◌, ◌≢◌, ℕ, List, [], ◌∷◌, ◌++◌, String}
use Rattle.std.specs.Prelude.{Option, None, Some, unwrap_or}
use Rattle.std.specs.String.{string_bytes}
use Rattle.std.specs.BTreeMap.{BTreeMap}
use Rattle.std.specs.declared.alloc.Global.{Global}
use Rattle.std.specs.declared.cmp.Ordering.{Ordering}
use Rattle.std.specs.declared.cmp.Ordering.TheVariants.{Less}
use Rattle.pub_set.specs.declared.objects.Object.{Object}
use Rattle.pub_set.specs.declared.steps.Change.{Change}
use Rattle.pub_set.specs.Objects.{uri_cmp, found_at, content_at, IsAscending, IsBefore}
use Rattle.pub_set.specs.Changes.{Contents, after_all, set_at}

-- A URI that is changed, and what stands there in the end.
abbrev pub Entry : Type 0
Entry = String Global × Option (List ℕ)

abbrev pub entry_uri : Entry → List ℕ
entry_uri e = string_bytes e.0

-- What stands at each URI once the entries are carried out.
abbrev pub overlaid : Contents → List Entry → Contents
overlaid held entries uri = unwrap_or (found_at entry_uri (λ e. e.1) entries uri) (held uri)

-- The entries with this noted at the URI.
abbrev pub IsNoted : List Entry → List ℕ → Option (List ℕ) → List Entry → Type 0
IsNoted old uri left new =
    (held : Contents) (at : List ℕ) → overlaid held new at ≡ set_at (overlaid held old) uri left at

-- The overlay is what the changes come to.
abbrev pub Overlays : Contents → List Change → BTreeMap (String Global) (Option (List ℕ)) → Type 0
Overlays held changes overlay =
    (uri : List ℕ) → overlaid held overlay.entries uri ≡ after_all held changes uri

-- The objects once this stands at the URI.
pub record IsPut (old : List Object) (uri : List ℕ) (left : Option (List ℕ)) (new : List Object)
    : Type 0 where
  pub ascending : IsAscending new
  pub contents : (at : List ℕ) → content_at new at ≡ set_at (content_at old) uri left at

-- The objects once the entries are carried out.
pub record IsDrafted (old : List Object) (entries : List Entry) (new : List Object) : Type 0 where
  pub ascending : IsAscending new
  pub contents : (uri : List ℕ) → content_at new uri ≡ overlaid (content_at old) entries uri

-- The first object doesn't compare so to the URI.
abbrev pub StartsElse : List Object → List ℕ → Ordering → Type 0
StartsElse [] uri order = Unit {0}
StartsElse (o ∷ rest) uri order = uri_cmp o.uri uri ≢ order

-- The first object isn't below the URI.
abbrev pub StartsFrom : List Object → List ℕ → Type 0
StartsFrom objects uri = StartsElse objects uri Less

-- The first object is taken where it compares so to the URI, and else none.
abbrev pub PopsIf : List Object → List ℕ → Ordering → Option Object → List Object → Type 0
PopsIf old uri order None new = (new ≡ old) × StartsElse old uri order
PopsIf old uri order (Some o) new = (old ≡ o ∷ new) × (uri_cmp o.uri uri ≡ order)

-- An object at a URI, or none.
abbrev pub objects_at : List ℕ → Option (List ℕ) → List Object
objects_at uri None = []
objects_at uri (Some bytes) = record { uri = uri; bytes = bytes } ∷ []

-- The objects without the one at the URI, from which they go on.
pub record IsSkipped (old : List Object) (uri : List ℕ) (new : List Object) : Type 0 where
  pub held : Option (List ℕ)
  pub is : old ≡ objects_at uri held ++ new
  pub ascending : IsAscending new
  pub above : IsBefore new uri
