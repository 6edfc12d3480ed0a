-- What reading answers.
use Rattle.std.specs.Prelude.{◌≡◌, ℕ, List, ◌++◌, drop, None, Some, Result, Ok, Err}
use Rattle.std.specs.List.{flat_map, AllByRecursion}
use Rattle.res_sets.specs.declared.numbers.Range.{Range}
use Rattle.res_sets.specs.Merging.{room_from}
use Rattle.res_sets.specs.Sets.{RangeSet, GoesBehind, with_range}
use Rattle.authority_book.specs.declared.commands.Command.{Command}
use Rattle.cmd_codec.specs.declared.faults.RecordFault.{RecordFault}
use Rattle.cmd_codec.specs.declared.faults.RecordFault.TheVariants.{BadRecord, Memory}
use Rattle.cmd_codec.specs.Spelling.{Part, IsSound, part_spelling, range_spelling, row, spelling, IsRecordable}
use Rattle.cmd_codec.specs.Fault.{Place, Way, Kind, field, front_128, is_range, parts, kinds_of, parts_if, first_bad}
use Rattle.cmd_codec.specs.Fault.Way.{Behind, BadAt}

-- This very answer, unless memory ran out.
abbrev pub IsUnlessMemory : Result Command RecordFault → Result Command RecordFault → Type 0
IsUnlessMemory (Ok command) wanted = Ok command ≡ wanted
IsUnlessMemory (Err (BadRecord at)) wanted = Err (BadRecord at) ≡ wanted
IsUnlessMemory (Err Memory) wanted = Unit {0}

-- The way ends at a bad field that the fault names, or memory ran out.
abbrev pub IsFaultOf : Way → RecordFault → Type 0
IsFaultOf way (BadRecord at) = way ≡ BadAt at
IsFaultOf way Memory = Unit {0}

-- The way leads past these bytes to a new place.
pub record Passes (text : List ℕ) (way : Place → Way) (old new : Place) : Type 0 where
  pub behind : way old ≡ Behind new
  pub spelled : old.left ≡ text ++ new.left

-- Going along the way read a part, which is one that a program can hold, or found it bad.
abbrev pub Reads : {V : Type 0} → (V → Part) → (Place → Way) → Place → Place → Result V RecordFault → Type 0
Reads part_of way old new (Ok value) =
    IsSound (part_of value) × Passes (part_spelling (part_of value)) way old new
Reads part_of way old new (Err fault) = IsFaultOf (way old) fault

-- The same of parts of these kinds, one after another.
abbrev pub ReadsParts : {V : Type 0} → List Kind → (V → List Part) → Place → Place → Result V RecordFault → Type 0
ReadsParts kinds parts_of old new (Ok value) = AllByRecursion IsSound (parts_of value)
    × Passes (flat_map part_spelling (parts_of value)) (parts kinds) old new
ReadsParts kinds parts_of old new (Err fault) = IsFaultOf (parts kinds old) fault

-- The same of a range that is put behind those of a set.
abbrev pub ReadsRange : RangeSet → RangeSet → Place → Place → Result (Unit {0}) RecordFault → Type 0
ReadsRange before after old new (Ok u) = (range : Range) × GoesBehind before range
    × (after ≡ with_range before range) × (range.last ≡ front_128 (drop 16 old.left))
    × Passes (range_spelling range) (field 32 (is_range before.family (room_from 0 before.ranges))) old new
ReadsRange before after old new (Err fault) =
    IsFaultOf (field 32 (is_range before.family (room_from 0 before.ranges)) old) fault

-- Behind that first byte a command's parts were read, or one was found bad.
abbrev pub ReadsRow : ℕ → Place → Place → Result Command RecordFault → Type 0
ReadsRow first old new (Ok command) = ((row command).0 ≡ first) × IsRecordable command
    × Passes (flat_map part_spelling (row command).1) (parts_if (kinds_of first)) old new
ReadsRow first old new (Err fault) = IsFaultOf (parts_if (kinds_of first) old) fault

-- The command that the bytes spell, which have no bad field, or their first bad field.
abbrev pub Answers : List ℕ → Result Command RecordFault → Type 0
Answers bytes (Ok command) =
    IsRecordable command × (bytes ≡ spelling command) × (first_bad bytes ≡ None)
Answers bytes (Err (BadRecord at)) = first_bad bytes ≡ Some at
Answers bytes (Err Memory) = Unit {0}
