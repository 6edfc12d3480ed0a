use Rattle.std.proofs.Common.{map, take}
use Rattle.std.specs.List.{AllZip}
use Rattle.press_core.specs.inner.Rows.{home_value, IsRowFor}
use Rattle.press_core.proofs.tables.table_of.Given as goal

abbrev pub invariant-loop-object : goal.invariant-loop-object
invariant-loop-object l = AllZip (IsRowFor (map home_value l.homes)) (take l.object-index l.objects) l.rows.items
