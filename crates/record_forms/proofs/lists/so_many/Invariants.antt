use Rattle.std.proofs.Common.{map}
use Rattle.record_forms.proofs.Further.{ReadsFurther}
use Rattle.record_forms.proofs.lists.so_many.Given as goal

abbrev pub invariant-loop : goal.invariant-loop
invariant-loop g l = ReadsFurther (g.R.ItemReader.form l.fn.reader).read l.fn.bytes (map g.R.ItemReader.view l.items.items) l.counter l.left
