use Rattle.std.proofs.Common.{◌≤◌}
use Rattle.std.specs.Prelude.{map}
use Rattle.outlet_api.specs.Exports.{removal_of}
use Rattle.outlet_api.proofs.Making.{AreMade}
use Rattle.outlet_api.proofs.exports.remove_each.Given as goal

abbrev pub invariant-loop-path : goal.invariant-loop-path
invariant-loop-path g l = record {
  made : AreMade (map removal_of l.paths) l.path-index (g.O.Outlet.files l.fn.outlet) (g.O.Outlet.files l.outlet);
  later : g.O.Outlet.fault_count l.fn.outlet ≤ g.O.Outlet.fault_count l.outlet;
}
