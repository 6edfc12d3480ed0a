use Rattle.std.proofs.Common.{◌≡◌, ◌++◌, length, take}
use Rattle.std.specs.List.{flat_map}
use Rattle.cmd_codec.specs.Spelling.{part_spelling, origin_spelling}
use Rattle.cmd_codec.specs.Spelling.Part.{TheNumber}
use Rattle.cmd_codec.proofs.writing.push_origins.Given as goal

abbrev pub invariant-loop-origin : goal.invariant-loop-origin
invariant-loop-origin l = l.bytes.items ≡ l.fn.bytes.items ++ part_spelling (TheNumber (length l.fn.list)) ++ flat_map origin_spelling (take l.origin-index l.origins)
