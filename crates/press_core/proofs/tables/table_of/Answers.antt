use Rattle.std.proofs.Common.{◌+◌, List, map, take, sym, subst}
use Rattle.std.specs.List.{AllZip}
use Rattle.key_roll.specs.declared.issued.IssuedRow.{IssuedRow}
use Rattle.press_core.specs.inner.Rows.{home_value, IsRowFor}
use Rattle.press_core.proofs.Added.{zip-more}
use Rattle.press_core.proofs.tables.table_of.Goals as goal

pub loop-object-preserved : goal.loop-object-preserved
loop-object-preserved c =
    let objects = c.as_slice-objects.result.now in
    let place = c.loop-object.object-index in
    let homes = map home_value c.args.homes.now in
    subst (λ (rows : List IssuedRow). AllZip (IsRowFor homes) (take (place + 1) objects) rows) (sym {A = List IssuedRow} c.in_ok-push.ensures.items)
    (zip-more (IsRowFor homes) objects c.loop-object.rows.items place c.object-item.result c.in_ok-row_of.field-0 c.loop-object-test.true c.object-item.is c.loop-object.invariant c.in_ok-row_of.ensures)
