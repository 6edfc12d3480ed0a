use Rattle.std.proofs.Common.{◌≡◌, drop}
use Rattle.press_core.specs.Agreement as agreement
use Rattle.press_core.proofs.resuming.first_other.Given as goal

abbrev pub invariant-loop-place : goal.invariant-loop-place
invariant-loop-place l = agreement.first_other l.rows l.entries ≡ agreement.first_other (drop l.place l.rows) (drop l.place l.entries)
