use Rattle.std.proofs.Common.{◌≡◌, ◌++◌, length, take}
use Rattle.std.specs.List.{flat_map}
use Rattle.cmd_codec.specs.Spelling.{part_spelling, range_spelling}
use Rattle.cmd_codec.specs.Spelling.Part.{TheNumber}
use Rattle.cmd_codec.proofs.writing.push_ranges.Given as goal

abbrev pub invariant-loop-range : goal.invariant-loop-range
invariant-loop-range l = l.bytes.items ≡ l.fn.bytes.items ++ part_spelling (TheNumber (length l.ranges)) ++ flat_map range_spelling (take l.range-index l.ranges)
