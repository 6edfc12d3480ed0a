-- What an authority's accepted commands come to, and what contracts see of a `Config`.
use Rattle.std.specs.Prelude.{ℕ, ◌+◌, ◌≤◌, Bool, List, Option}
use Rattle.origins.specs.declared.Origin.{Origin}
use Rattle.authority_book.specs.declared.rows.NameRow.{NameRow}
use Rattle.authority_book.specs.declared.rows.Child.{Child}

-- The configuration of a desk: its number; the names of the tree, which the anchor's alone has;
-- whether the authority is deleted; its parent; its children in the order in which they came; its
-- route origins in ascending order; how often a key rollover was begun and activated; and how many
-- commands it accepted.
pub record Settings : Type 0 where
  pub desk : ℕ
  pub names : List NameRow
  pub deleted : Bool
  pub parent : Option (List ℕ)
  pub children : List Child
  pub origins : List Origin
  pub inits : ℕ
  pub activates : ℕ
  pub count : ℕ

-- How many more names, children and origins there are, are taken, or can be taken.
pub record Room : Type 0 where
  pub names : ℕ
  pub children : ℕ
  pub origins : ℕ

-- There is room for what is needed.
pub record Covers (room needed : Room) : Type 0 where
  pub names : needed.names ≤ room.names
  pub children : needed.children ≤ room.children
  pub origins : needed.origins ≤ room.origins

-- The room of both.
abbrev pub plus : Room → Room → Room
plus a b = record {
  names = a.names + b.names;
  children = a.children + b.children;
  origins = a.origins + b.origins;
}

-- A `Config`: its settings, and the room in which it takes more without memory.
pub record ConfigValue : Type 0 where
  pub settings : Settings
  pub room : Room
