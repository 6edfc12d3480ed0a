use Rattle.std.proofs.Common.{◌≤◌}
use Rattle.std.specs.Prelude.{map}
use Rattle.outlet_api.specs.Exports.{put_of}
use Rattle.outlet_api.proofs.Making.{AreMade}
use Rattle.outlet_api.proofs.exports.put_each.Given as goal

abbrev pub invariant-loop-file : goal.invariant-loop-file
invariant-loop-file g l = record {
  made : AreMade (map put_of l.puts) l.file-index (g.O.Outlet.files l.fn.outlet) (g.O.Outlet.files l.outlet);
  later : g.O.Outlet.fault_count l.fn.outlet ≤ g.O.Outlet.fault_count l.outlet;
}
