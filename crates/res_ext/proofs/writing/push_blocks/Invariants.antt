use Rattle.std.proofs.Common.{◌≡◌, ◌++◌, length, map}
use Rattle.der.specs.Forms.{AreAll, many}
use Rattle.res_ext.specs.Formats.{span_of, block}
use Rattle.res_ext.specs.laws.Written.{IsWithin}
use Rattle.res_ext.proofs.writing.push_blocks.Given as goal

abbrev pub invariant-loop-first : goal.invariant-loop-first
invariant-loop-first l = record {
  written : l.out.items ++ (many (block l.fn.family)).spelling (map span_of l.rest) ≡ l.fn.out.items ++ (many (block l.fn.family)).spelling (map span_of l.fn.ranges);
  within : AreAll (IsWithin l.fn.family) l.rest;
}

abbrev pub decreases-loop-first : goal.decreases-loop-first
decreases-loop-first l = length l.rest
