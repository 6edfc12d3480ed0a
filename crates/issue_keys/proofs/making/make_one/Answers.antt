use Rattle.std.proofs.Common.{inr}
use Rattle.std.proofs.lemmas.Result.{err_from_is_err_and}
use Rattle.issue_keys.specs.inner.IdSet.{has}
use Rattle.issue_keys.proofs.Stops.{one-made, one-clash}
use Rattle.issue_keys.proofs.making.make_one.Goals as goal

pub returns-in_err-added-clause-stopped : goal.returns-in_err-added-clause-stopped
returns-in_err-added-clause-stopped g c =
    let p = err_from_is_err_and c.from_residual-in_err-added.result c.from_residual-in_err-added.ensures.1 in
    rw (p.1, p.2)
    (inr (
      c.fresh_row-row.result,
      one-made c.args.new.now c.fresh_row-row.result c.in_ok-key.key c.args.ring.now c.make_key.new.ring
          c.fresh_row-row.ensures c.in_ok-key.ensures.made,
    ))

pub returns-else-added-clause-stopped : goal.returns-else-added-clause-stopped
returns-else-added-clause-stopped g c =
    one-clash c.args.new.now c.fresh_row-row.result c.in_ok-key.key (has c.args.id_set.now) c.args.ring.now
    c.make_key.new.ring c.of-id.result c.in_ok-added.added c.fresh_row-row.ensures c.in_ok-key.ensures.made
    c.of-id.ensures c.in_ok-added.ensures.added c.if-added.false
