use Rattle.std.proofs.Common.{nat_cmp, ap, is_lt, Ordering, ◌∙◌}
use Rattle.std.specs.Ordering.{ordering_then}
use Rattle.issue_make.specs.Trace.{rank}
use Rattle.issue_make.proofs.KeyOrder.{then-is, ranks-compare}
use Rattle.issue_make.proofs.key_rows.compare.Goals as goal

pub returns : goal.returns
returns c =
    ap is_lt c.then.ensures
    ∙ (ap (λ (o : Ordering). is_lt (ordering_then o c.cmp-2.result)) c.cmp.ensures
    ∙ (ap (λ (o : Ordering). is_lt (ordering_then (nat_cmp c.args.a.now.desk c.args.b.now.desk) o))
    (ranks-compare c.cmp-2.result c.rank.result c.rank-2.result (rank c.args.a.now.role) (rank c.args.b.now.role)
    c.cmp-2.ensures c.rank.ensures c.rank-2.ensures)
    ∙ then-is c.args.a.now.desk c.args.b.now.desk (rank c.args.a.now.role) (rank c.args.b.now.role)))
