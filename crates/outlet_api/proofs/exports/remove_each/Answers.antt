use Rattle.std.proofs.Common.{arith}
use Rattle.outlet_api.specs.Exports.{removal_of}
use Rattle.outlet_api.proofs.Making.{made_more, stopped_at, on_err}
use Rattle.outlet_api.proofs.exports.remove_each.Goals as goal

pub returns-in_err-remove-clause-front : goal.returns-in_err-remove-clause-front
returns-in_err-remove-clause-front g c =
    on_err c.from_residual.result _
    (stopped_at removal_of c.args.paths.now c.loop-path.path-index c.path-item.result (g.O.Outlet.files c.args.outlet.now) (g.O.Outlet.files c.loop-path.outlet) (g.O.Outlet.files c.remove.new.self)
    c.loop-path-test.true c.path-item.is c.loop-path.invariant.made (rw (c.as_str.ensures.value) at c.in_err-remove.ensures.doubt))

pub loop-path-preserved : goal.loop-path-preserved
loop-path-preserved g c = record {
  made =
      made_more removal_of c.args.paths.now c.loop-path.path-index c.path-item.result (g.O.Outlet.files c.args.outlet.now) (g.O.Outlet.files c.loop-path.outlet) (g.O.Outlet.files c.remove.new.self)
      c.loop-path-test.true c.path-item.is c.loop-path.invariant.made (rw (c.as_str.ensures.value) at c.in_ok-remove.ensures.done);
  later = omega (arith, c.loop-path.invariant.later, c.in_ok-remove.ensures.faults.later);
}
