-- What is pending of a session's input: the bytes after the last line that was answered.
use Rattle.std.specs.Prelude.{◌≡◌, ◌⊎◌, ℕ, ◌+◌, ◌<◌, ◌≤◌, Bool, true, false, List, [], ◌∷◌, ◌++◌, length, take, drop, All}
use Rattle.line_loop.specs.Lines.{is_feed}
use Rattle.line_loop.specs.declared.TheConstants.{LINE_LIMIT}

-- the bytes that are kept, whether the front of their line was dropped, and how many more there is room for
pub record Pending : Type 0 where
  pub bytes : List ℕ
  pub skips : Bool
  pub room : ℕ

-- no line feed stands in it
abbrev pub NoFeed : List ℕ → Type 0
NoFeed bytes = All (λ b. is_feed b ≡ false) bytes

-- the first line feed stands at n
pub record EndsLine (bytes : List ℕ) (n : ℕ) : Type 0 where
  pub within : n < length bytes
  pub line : NoFeed (take n bytes)
  pub feed : bytes ≡ take n bytes ++ 10 ∷ drop (n + 1) bytes

-- All of a tail is kept, or its front was dropped: more bytes than a line may have, with no line feed.
abbrev pub IsTailOf : List ℕ → List ℕ → Bool → Type 0
IsTailOf tail bytes false = tail ≡ bytes
IsTailOf tail bytes true = (skipped : List ℕ) × (LINE_LIMIT < length skipped) × NoFeed skipped × (tail ≡ skipped ++ bytes)

-- this came after the last line that was answered
abbrev pub IsTail : List ℕ → Pending → Type 0
IsTail tail pending = IsTailOf tail pending.bytes pending.skips

-- A line that hasn't ended is dropped as far as it has come, if it is too long to be kept or its front
-- was dropped before.
abbrev pub IsShortened : Pending → Pending → Type 0
IsShortened old new = ((new.skips ≡ true) × (new.bytes ≡ []) × ((old.skips ≡ true) ⊎ (LINE_LIMIT < length old.bytes)))
    ⊎ ((new ≡ old) × (old.skips ≡ false) × (length old.bytes ≤ LINE_LIMIT))

-- The first line ended, at n, is kept whole, and takes long.
pub record IsLongFirst (long : List ℕ → Type 0) (pending : Pending) (n : ℕ) : Type 0 where
  pub ends : EndsLine pending.bytes n
  pub whole : pending.skips ≡ false
  pub kept : n ≤ LINE_LIMIT
  pub takes_long : long (take n pending.bytes)

-- no reply waits before such a line
abbrev pub NoneWaits : (List ℕ → Type 0) → Pending → List ℕ → Type 0
NoneWaits long pending waiting = (n : ℕ) → IsLongFirst long pending n → waiting ≡ []
