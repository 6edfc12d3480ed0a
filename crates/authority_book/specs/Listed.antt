-- Names and children that a configuration lists.
use Rattle.std.specs.Prelude.{ℕ, Bool, List, [], ◌∷◌, Option, find, filter, position, not, if◌then◌else◌}
use Rattle.std.specs.List.{list_any}
use Rattle.std.specs.Str.{bytes_eq}
use Rattle.res_sets.specs.declared.holdings.Resources.{Resources}
use Rattle.authority_book.specs.declared.rows.NameRow.{NameRow}
use Rattle.authority_book.specs.declared.rows.Child.{Child}

-- Whether the name is listed.
abbrev pub is_listed : List NameRow → List ℕ → Bool
is_listed names name = list_any (λ row. bytes_eq row.name name) names

-- The place of a name in the list: its authority's desk.
abbrev pub place_of : List NameRow → List ℕ → Option ℕ
place_of names name = position (λ row. bytes_eq row.name name) names

-- The child of that name, if there is one.
abbrev pub child_of : List Child → List ℕ → Option Child
child_of children name = find (λ child. bytes_eq child.name name) children

-- Whether there is a child of that name.
abbrev pub is_child : List Child → List ℕ → Bool
is_child children name = list_any (λ child. bytes_eq child.name name) children

-- The children without the one of that name.
abbrev pub without_child : List Child → List ℕ → List Child
without_child children name = filter (λ child. not (bytes_eq child.name name)) children

-- The children with the one of that name changed.
abbrev pub with_changed : List Child → List ℕ → (Child → Child) → List Child
with_changed [] name change = []
with_changed (child ∷ rest) name change =
    if bytes_eq child.name name then change child ∷ rest else child ∷ with_changed rest name change

-- A child that is granted something else. Whether it is suspended stays.
abbrev pub granted : Resources → Child → Child
granted grant child = record child { grant = grant }

-- A child that is suspended or isn't. Its grant stays.
abbrev pub suspended_as : Bool → Child → Child
suspended_as suspended child = record child { suspended = suspended }
