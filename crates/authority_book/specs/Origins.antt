-- Lists of route origins: the order of origins, membership, and what stands twice.
use Rattle.std.specs.Prelude.{Bool, not, List, [], ◌∷◌, ◌++◌, Option, None, Some, filter, if◌then◌else◌}
use Rattle.std.specs.List.{list_any}
use Rattle.std.specs.List.Sorted.{IsStrictlySortedBy}
use Rattle.std.specs.Ordering.{eq_by_cmp, is_lt}
unfoldable pub use Rattle.origins.specs.Order.{origin_cmp}
use Rattle.origins.specs.declared.Origin.{Origin}

-- Whether two origins are one and the same.
abbrev pub is_same : Origin → Origin → Bool
is_same = eq_by_cmp origin_cmp

-- Whether the list has the origin.
abbrev pub is_there : List Origin → Origin → Bool
is_there origins origin = list_any (is_same origin) origins

-- The list without the origins of another.
abbrev pub without : List Origin → List Origin → List Origin
without origins removed = filter (λ o. not (is_there removed o)) origins

-- The first origin of a list that stands earlier in it, or among those that came before the list.
abbrev pub first_repeated_after : List Origin → List Origin → Option Origin
first_repeated_after earlier [] = None
first_repeated_after earlier (o ∷ rest) =
    if is_there earlier o then Some o else first_repeated_after (earlier ++ o ∷ []) rest

-- The first origin of a list that stands earlier in it.
abbrev pub first_repeated : List Origin → Option Origin
first_repeated origins = first_repeated_after [] origins

-- A list in ascending order, each origin once.
abbrev pub IsAscending : List Origin → Type 0
IsAscending origins = IsStrictlySortedBy origin_cmp origins

-- An ascending list with one origin more, at its place.
abbrev pub with_one : List Origin → Origin → List Origin
with_one [] origin = origin ∷ []
with_one (first ∷ rest) origin =
    if is_lt (origin_cmp origin first) then origin ∷ first ∷ rest else first ∷ with_one rest origin

-- An ascending list with each of the added origins, at its place.
abbrev pub with_each : List Origin → List Origin → List Origin
with_each origins [] = origins
with_each origins (first ∷ rest) = with_each (with_one origins first) rest
