use Rattle.std.proofs.Common.{◌≡◌, take}
use Rattle.krill_top.specs.Run.{signers_needed}
use Rattle.krill_top.proofs.desks.signers_needed.Given as goal

abbrev pub invariant-loop-row : goal.invariant-loop-row
invariant-loop-row l = l.needed ≡ signers_needed (take l.row-index l.names)
