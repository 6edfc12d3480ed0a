use Rattle.std.proofs.Common.{◌≡◌, length}
use Rattle.crl_obj.specs.Values.{rise_above}
use Rattle.crl_obj.proofs.entries.rise_above.Given as goal

abbrev pub invariant-loop-first : goal.invariant-loop-first
invariant-loop-first l = rise_above l.last l.rest ≡ rise_above l.fn.serial l.fn.entries

abbrev pub decreases-loop-first : goal.decreases-loop-first
decreases-loop-first l = length l.rest
