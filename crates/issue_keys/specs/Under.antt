-- Positions under keys.
use Rattle.std.specs.Prelude.{ℕ, Bool, List, filter}
use Rattle.std.specs.Str.{bytes_eq}
use Rattle.std.specs.Cmp.Lexicographic.{slice_cmp}
use Rattle.std.specs.List.Sorted.{IsSortedBy}
use Rattle.std.specs.Ordering.{nat_cmp, is_lt}
use Rattle.std.specs.declared.cmp.Ordering.{Ordering}
use Rattle.issue_keys.specs.declared.key_index.KeyPosition.{KeyPosition}

-- Identifiers byte by byte.
abbrev pub id_cmp : List ℕ → List ℕ → Ordering
id_cmp = slice_cmp nat_cmp

-- The position is under the key with that identifier.
abbrev pub is_under : List ℕ → KeyPosition → Bool
is_under id entry = bytes_eq entry.key.bytes id

-- The positions under that key, in their order.
abbrev pub positions_under : List ℕ → List KeyPosition → List KeyPosition
positions_under id entries = filter (is_under id) entries

-- By the identifiers of their keys.
abbrev pub AreByKey : List KeyPosition → Type 0
AreByKey entries = IsSortedBy (λ a b. is_lt (id_cmp a.key.bytes b.key.bytes)) entries
