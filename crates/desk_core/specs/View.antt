-- A desk as its contracts see it.
use Rattle.std.specs.Prelude.{ℕ, ◌^◌, Option, List}
use Rattle.authority_book.specs.Settings.{Settings}

-- How many bytes a desk's journal has at most: 16 MiB.
abbrev pub journal_limit : ℕ
journal_limit = 2 ^ 24

pub record View (D : Type 0) : Type 0 where
  pub disk : D
  pub number : ℕ
  pub settings : Settings
  -- the payloads of the journal's records, in order
  pub records : List (List ℕ)
  -- the disk's counts of faults before and after the call that shut the journal
  pub shut : Option (ℕ × ℕ)
  -- the payload of the record that such a call was to append: it may stand on the disk, or not
  pub doubt : Option (List ℕ)
