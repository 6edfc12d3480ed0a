-- How both ends come into step, and what is written and read in step and out of it.
use Rattle.std.specs.Prelude.{◌≡◌, ◌⊎◌, slice_index, ◌++◌, ◌+◌, ◌%◌, ◌^◌, ℕ, List, Bool, true, false, Option, Some}
use Rattle.std.specs.Int.{to_be_bytes, w128}
use Rattle.std.specs.Io.KnownBytes.{Consumes}
use Rattle.signer_line.specs.Lines.{hello_line, fed}

-- The word of the meeting that has this number.
abbrev pub word_of : ℕ → List ℕ
word_of number = to_be_bytes w128 number

-- What opens the meeting of that number, and answers it, without its line feed.
abbrev pub hello_words : ℕ → List ℕ
hello_words number = hello_line (word_of number)

-- What opens the meeting of that number, and answers it.
abbrev pub hello : ℕ → List ℕ
hello number = fed (hello_words number)

-- The number of the next meeting, which no meeting of 2^128 had before.
abbrev pub next_number : ℕ → ℕ
next_number number = (number + 1) % 2 ^ 128

-- What is sent at the start: the hellos of two meetings.
abbrev pub greeting : ℕ → List ℕ
greeting number = hello number ++ hello (next_number number)

-- The number of the next meeting after a call: out of step it begins by meeting.
abbrev pub number_after : Bool → ℕ → ℕ
number_after true number = number
number_after false number = next_number number

-- What a call writes for a request: out of step it opens a meeting first.
abbrev pub asking : Bool → ℕ → List ℕ → List ℕ
asking true number line = fed line
asking false number line = hello number ++ fed line

-- What a call reads for an answer: out of step all up to the end of the answer to its hello, and behind
-- it the answer, which was so written after the hello was read.
abbrev pub Hears : Bool → ℕ → Option (List ℕ) → Option (List ℕ) → List ℕ → Type 0
Hears true number old new line = Consumes old new (fed line)
Hears false number old new line = (passed : List ℕ) × Consumes old new (passed ++ hello number ++ fed line)

-- What comes begins with this line.
abbrev pub Comes : Option (List ℕ) → List ℕ → Type 0
Comes left line = (rest : List ℕ) × (left ≡ Some (fed line ++ rest))

-- What answers a request comes: in step it is what comes next, out of step it stands behind the answer to
-- the hello of the meeting.
abbrev pub ComesFor : Bool → ℕ → Option (List ℕ) → List ℕ → Type 0
ComesFor true number left line = Comes left line
ComesFor false number left line =
    (passed : List ℕ) (behind : Option (List ℕ)) → Consumes left behind (passed ++ hello number) → Comes behind line

-- How much of a line's front is matched after one byte more: the next one of the line, or its first
-- one, or none.
abbrev pub MatchedAfter : List ℕ → ℕ → ℕ → ℕ → Type 0
MatchedAfter line matched byte after =
    ((after ≡ matched + 1) × (byte ≡ slice_index line matched)) ⊎ (((after ≡ 1) × (byte ≡ slice_index line 0)) ⊎ (after ≡ 0))
