use Rattle.std.proofs.Common.{◌≡◌, ◌++◌, take}
use Rattle.std.specs.List.{filter_map}
use Rattle.issue_make.specs.inner.Putting.{withdrawal_by}
use Rattle.issue_make.proofs.publishing.push_withdrawals.Given as goal

abbrev pub invariant-loop-uri : goal.invariant-loop-uri
invariant-loop-uri l =
    l.changes.items ≡ l.initial.changes.items ++ filter_map (withdrawal_by l.standing) (take l.uri-index l.withdrawn)
