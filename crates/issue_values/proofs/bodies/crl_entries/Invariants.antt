use Rattle.std.proofs.Common.{◌≡◌, ◌<◌, ◌^◌, map, take}
use Rattle.der.specs.Forms.{AreAll}
use Rattle.issue_values.specs.Bodies.{crl_entry}
use Rattle.issue_values.proofs.bodies.crl_entries.Given as goal

abbrev pub invariant-loop-row : goal.invariant-loop-row
invariant-loop-row l = record {
  entries : l.entries.items ≡ map crl_entry (take l.row-index l.revoked);
  serials : AreAll (λ e. e.serial < 2 ^ 64) l.entries.items;
}
