use Rattle.std.proofs.Common.{◌≡◌, length, take}
use Rattle.issue_make.specs.inner.Keys.{rows_with}
use Rattle.issue_make.proofs.key_rows.unordered.Given as goal

abbrev pub invariant-loop-list : goal.invariant-loop-list
invariant-loop-list l =
    l.rows.items ≡ take (length l.yielded) (rows_with l.moment l.keys l.points l.next l.fn.revoked.items)
