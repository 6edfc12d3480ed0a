-- Lines whose answers take long. No reply waits where such a line is answered, so that a client has the
-- replies to its earlier lines before it waits for that one. They are told by their bytes, before they
-- are read: a publication that is written with escapes, or among many blanks, is none of them.
use Rattle.std.specs.Prelude.{◌⊎◌, ◌<◌, ◌≤◌, ℕ, List, length, drop, codes, IsTrue, nat_eq}
use Rattle.std.specs.List.{starts_with}

-- The word stands somewhere in the line.
abbrev pub HasWord : List ℕ → List ℕ → Type 0
HasWord line word =
    (at : ℕ) × (at < length line) × IsTrue (starts_with nat_eq (drop at line) word)

-- How long a line is at most that is looked at.
abbrev pub longest_looked_at : ℕ
longest_looked_at = 96

-- It has the word of a publication, which makes many signatures, or that of looks at the board.
pub record IsLong (line : List ℕ) : Type 0 where
  pub short : length line ≤ longest_looked_at
  pub says : HasWord line (codes "\"publish\"") ⊎ HasWord line (codes "\"await\"")

-- The same in a run of one session, where `await` looks once, at the last edition: a publication alone
-- takes long, and it has no other member, so that fewer bytes are looked at.
abbrev pub longest_publication : ℕ
longest_publication = 32

pub record IsLongAlone (line : List ℕ) : Type 0 where
  pub short : length line ≤ longest_publication
  pub says : HasWord line (codes "\"publish\"")
