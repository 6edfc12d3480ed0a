use Rattle.std.proofs.Common.{take}
use Rattle.std.specs.String.{string_bytes}
use Rattle.res_sets.specs.Printed.{Prints}
use Rattle.res_sets.proofs.printing.print_ranges.Given as goal

abbrev pub invariant-loop-place : goal.invariant-loop-place
invariant-loop-place l = Prints l.family (take l.place l.ranges) (string_bytes l.out)
