use Rattle.std.proofs.Common.{arith}
use Rattle.outlet_api.specs.Exports.{put_of}
use Rattle.outlet_api.proofs.Making.{made_more, stopped_at, on_err}
use Rattle.outlet_api.proofs.exports.put_each.Goals as goal

pub returns-in_err-put-clause-front : goal.returns-in_err-put-clause-front
returns-in_err-put-clause-front g c =
    on_err c.from_residual.result _
    (stopped_at put_of c.args.puts.now c.loop-file.file-index c.file-item.result (g.O.Outlet.files c.args.outlet.now) (g.O.Outlet.files c.loop-file.outlet) (g.O.Outlet.files c.put.new.self)
    c.loop-file-test.true c.file-item.is c.loop-file.invariant.made (rw (c.as_str.ensures.value, c.deref.ensures.value) at c.in_err-put.ensures.doubt))

pub loop-file-preserved : goal.loop-file-preserved
loop-file-preserved g c = record {
  made =
      made_more put_of c.args.puts.now c.loop-file.file-index c.file-item.result (g.O.Outlet.files c.args.outlet.now) (g.O.Outlet.files c.loop-file.outlet) (g.O.Outlet.files c.put.new.self)
      c.loop-file-test.true c.file-item.is c.loop-file.invariant.made (rw (c.as_str.ensures.value, c.deref.ensures.value) at c.in_ok-put.ensures.done);
  later = omega (arith, c.loop-file.invariant.later, c.in_ok-put.ensures.faults.later);
}
