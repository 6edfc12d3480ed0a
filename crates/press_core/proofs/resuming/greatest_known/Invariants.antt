use Rattle.std.proofs.Common.{◌≡◌, drop, map}
use Rattle.std.specs.Prelude.{max}
use Rattle.std.specs.List.{fold}
use Rattle.crl_obj.specs.declared.values.CrlEntry.{CrlEntry}
use Rattle.rp_rules.specs.Views.{point_value}
use Rattle.press_core.specs.Agreement as agreement
use Rattle.press_core.proofs.resuming.greatest_known.Given as goal

abbrev pub invariant-loop-entry : goal.invariant-loop-entry
invariant-loop-entry l = fold max l.greatest (map (λ (e : CrlEntry). e.serial) (drop l.entry-index l.point.crl.items)) ≡ agreement.greatest_known (point_value l.point)
