-- What the calls of a disk do to the bytes of its file, when they are done and when a crash cuts them short.
use Rattle.std.specs.Prelude.{◌≡◌, ◌≤◌, ◌<◌, ℕ, ◌+◌, ◌-◌, min, max, Option, None, Some, List, ◌++◌, length, take, drop}

-- old with these bytes at this offset
abbrev pub overwritten : ℕ → List ℕ → List ℕ → List ℕ
overwritten at bytes old = take at old ++ bytes ++ drop (at + length bytes) old

-- its first bytes, or all where it has no more
abbrev pub cut_to : ℕ → List ℕ → List ℕ
cut_to len old = take len old

-- after a write of n bytes that a crash cuts short: any bytes in the range and past the old end, the same elsewhere
pub record Torn (at n : ℕ) (old new : List ℕ) : Type 0 where
  pub before : take at new ≡ take at old
  pub after : drop (at + n) new ≡ drop (at + n) old
  pub no_shorter : length old ≤ length new
  pub no_longer : length new ≤ max (length old) (at + n)

-- after a cut that a crash cuts short: the first bytes stay, and any bytes may follow them up to some length between
pub record IsCut (len : ℕ) (old new : List ℕ) : Type 0 where
  pub front : take len new ≡ take len old
  pub no_shorter : min len (length old) ≤ length new
  pub no_longer : length new ≤ length old

-- where the old content is known, the new one is known too, and they are so related
abbrev pub BothKnown : (List ℕ → List ℕ → Type 0) → Option (List ℕ) → Option (List ℕ) → Type 0
BothKnown R None new = new ≡ None
BothKnown R (Some old) new = (bytes : List ℕ) × (new ≡ Some bytes) × R old bytes

-- a read of n bytes from an offset on put them in front of what was in a buffer
pub record Gives (bytes : List ℕ) (at n : ℕ) (old new : List ℕ) : Type 0 where
  pub put : take n new ≡ take n (drop at bytes)
  pub rest : drop n new ≡ drop n old
  pub there : n ≤ length bytes - at
  pub some : at < length bytes → 0 < length old → 0 < n
