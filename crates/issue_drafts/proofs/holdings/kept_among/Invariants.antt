use Rattle.std.proofs.Common.{◌≡◌, map, take, filter}
use Rattle.issue_drafts.specs.inner.Holdings.{is_kept_under}
use Rattle.issue_drafts.proofs.holdings.kept_among.Given as goal

abbrev pub invariant-loop-row : goal.invariant-loop-row
invariant-loop-row l =
    map (λ row. row.now) l.kept.items ≡ filter (is_kept_under l.id.bytes l.anchor l.touched) (take l.row-index l.rows)
