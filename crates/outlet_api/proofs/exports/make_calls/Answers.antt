use Rattle.std.specs.Prelude.{map}
use Rattle.outlet_api.specs.Exports.{put_of, removal_of}
use Rattle.outlet_api.proofs.Making.{all_both, front_second, on_ok_more, on_err_more}
use Rattle.outlet_api.proofs.exports.make_calls.Goals as goal

pub returns-clause-done : goal.returns-clause-done
returns-clause-done g c =
    let files = c.args.files.now in
    on_ok_more c.remove_each.result _ _
    (all_both (map put_of files.puts.items) (map removal_of files.removes.items) (g.O.Outlet.files c.args.outlet.now) (g.O.Outlet.files c.put_each.new.outlet) (g.O.Outlet.files c.remove_each.new.outlet)
    (rw c.deref.ensures.value at c.in_ok-put_each.ensures.done))
    (rw c.deref-2.ensures.value at c.remove_each.ensures.done)

pub returns-clause-front : goal.returns-clause-front
returns-clause-front g c =
    let files = c.args.files.now in
    on_err_more c.remove_each.result _ _
    (front_second (map put_of files.puts.items) (map removal_of files.removes.items) (g.O.Outlet.files c.args.outlet.now) (g.O.Outlet.files c.put_each.new.outlet) (g.O.Outlet.files c.remove_each.new.outlet)
    (rw c.deref.ensures.value at c.in_ok-put_each.ensures.done))
    (rw c.deref-2.ensures.value at c.remove_each.ensures.front)
