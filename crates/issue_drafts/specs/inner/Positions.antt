-- What stands at positions in a list.
use Rattle.std.specs.Prelude.{◌<◌, List, length, All, slice_get}
use Rattle.std.specs.List.{filter_map}
use Rattle.issue_keys.specs.declared.key_index.KeyPosition.{KeyPosition}

abbrev pub items_at : {A : Type 0} → List A → List KeyPosition → List A
items_at items positions = filter_map (λ entry. slice_get items entry.position) positions

-- Each position is one in the list.
abbrev pub AreInside : {A : Type 0} → List A → List KeyPosition → Type 0
AreInside items positions = All (λ entry. entry.position < length items) positions
