use Rattle.std.proofs.Common.{◌≡◌, length, take}
use Rattle.issue_make.specs.inner.Putting.{puts_by, contents_of}
use Rattle.issue_make.proofs.publishing.puts.Given as goal

abbrev pub invariant-loop-object : goal.invariant-loop-object
invariant-loop-object l =
    l.changes.items ≡ take (length l.yielded) (puts_by l.standing l.rows (contents_of l.fn.objects.items))
