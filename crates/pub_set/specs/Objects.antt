-- Sets of objects: lists by rising URI, read as maps from URIs to bytes (RFC 8181 section 2.2).
use Rattle.std.specs.Prelude.{◌≡◌, ℕ, ◌<◌, ◌≤◌, Bool, if◌then◌else◌, List, [], ◌∷◌}
use Rattle.std.specs.Prelude.{length, take, drop, slice_index_or}
use Rattle.std.specs.Prelude.{Option, None, Some, Result, Ok, Err}
use Rattle.std.specs.List.{AllByRecursion}
use Rattle.std.specs.List.Sorted.{IsStrictlySortedBy}
use Rattle.std.specs.Ordering.{nat_cmp, on, eq_by_cmp}
use Rattle.std.specs.Cmp.Lexicographic.{slice_cmp}
use Rattle.std.specs.declared.cmp.Ordering.{Ordering}
use Rattle.std.specs.declared.cmp.Ordering.TheVariants.{Less}
use Rattle.pub_set.specs.declared.objects.Object.{Object}

-- URIs byte by byte.
abbrev pub uri_cmp : List ℕ → List ℕ → Ordering
uri_cmp = slice_cmp nat_cmp

-- Whether two URIs are one and the same.
abbrev pub is_same : List ℕ → List ℕ → Bool
is_same = eq_by_cmp uri_cmp

-- Of things that each have a URI, what is told of the first one at a URI.
abbrev pub found_at : {X V : Type 0} → (X → List ℕ) → (X → V) → List X → List ℕ → Option V
found_at uri_of told [] uri = None
found_at uri_of told (x ∷ rest) uri =
    if is_same (uri_of x) uri then Some (told x) else found_at uri_of told rest uri

-- Things by rising URI, each URI once.
abbrev pub Rise : {X : Type 0} → (X → List ℕ) → List X → Type 0
Rise uri_of xs = IsStrictlySortedBy (on uri_of uri_cmp) xs

-- The URI comes after that of each thing.
abbrev pub AllBelow : {X : Type 0} → (X → List ℕ) → List X → List ℕ → Type 0
AllBelow uri_of xs uri = AllByRecursion (λ x. uri_cmp (uri_of x) uri ≡ Less) xs

-- The URI comes before that of each thing.
abbrev pub AllAbove : {X : Type 0} → (X → List ℕ) → List X → List ℕ → Type 0
AllAbove uri_of xs uri = AllByRecursion (λ x. uri_cmp uri (uri_of x) ≡ Less) xs

-- The URI of an object.
abbrev pub uri_at : Object → List ℕ
uri_at o = o.uri

-- The bytes at a URI.
abbrev pub content_at : List Object → List ℕ → Option (List ℕ)
content_at objects uri = found_at uri_at (λ o. o.bytes) objects uri

-- Objects by rising URI, each URI once.
abbrev pub IsAscending : List Object → Type 0
IsAscending objects = Rise uri_at objects

-- The URI comes after that of each object.
abbrev pub IsBehind : List Object → List ℕ → Type 0
IsBehind objects uri = AllBelow uri_at objects uri

-- The URI comes before that of each object.
abbrev pub IsBefore : List Object → List ℕ → Type 0
IsBefore objects uri = AllAbove uri_at objects uri

-- Where the object at a URI is, or else where it would stand.
abbrev pub IsPlace : List Object → List ℕ → Result ℕ ℕ → Type 0
IsPlace objects uri (Ok i) =
    (i < length objects) × ((d : Object) → (slice_index_or objects i d).uri ≡ uri)
IsPlace objects uri (Err i) =
    (i ≤ length objects) × IsBehind (take i objects) uri × IsBefore (drop i objects) uri
