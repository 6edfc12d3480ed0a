use Rattle.std.proofs.Common.{◌≡◌, take}
use Rattle.std.specs.Prelude.{None}
use Rattle.authority_book.specs.Origins.{first_repeated}
use Rattle.authority_book.proofs.origin_lists.repeated_of_few.Given as goal

abbrev pub invariant-loop-place : goal.invariant-loop-place
invariant-loop-place l = first_repeated (take l.place l.items) ≡ None
