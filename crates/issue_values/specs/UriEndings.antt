-- How URIs end.
use Rattle.std.specs.Prelude.{ℕ, ◌-◌, List, length, slice_index}

abbrev pub last_byte : List ℕ → ℕ
last_byte uri = slice_index uri (length uri - 1)
