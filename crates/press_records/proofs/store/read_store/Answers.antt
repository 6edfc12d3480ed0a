use Rattle.std.proofs.Common.{arith}
use Rattle.std.proofs.lemmas.Result.{err_from_is_err_and}
use Rattle.press_records.proofs.StoreAnswers.{found_store, only_store, only_bases, only_fields}
use Rattle.press_records.proofs.store.read_store.Goals as goal

pub returns-clause-found : goal.returns-clause-found
returns-clause-found c =
    let (is, one, other) = c.in_ok-site.ensures in
    found_store c.args.bytes.now c.in_ok-session.session c.in_ok-session.rsync.now c.in_ok-session.rrdp.now c.in_ok-site.site (λ i. omega (arith, c.type_inv.bytes i)) c.in_ok-session.ensures is one other

pub returns-clause-only : goal.returns-clause-only
returns-clause-only c =
    let (is, one, other) = c.in_ok-site.ensures in
    only_store c.args.bytes.now c.in_ok-session.session c.in_ok-session.rsync.now c.in_ok-session.rrdp.now c.in_ok-site.site c.in_ok-session.ensures is

pub returns-in_err-session-clause-only : goal.returns-in_err-session-clause-only
returns-in_err-session-clause-only c =
    let p = err_from_is_err_and c.from_residual.result c.from_residual.ensures.1 in
    rw (p.1, p.2) (only_fields c.args.bytes.now c.in_err-session.field-0.0 c.in_err-session.ensures)

pub returns-in_err-site-clause-only : goal.returns-in_err-site-clause-only
returns-in_err-site-clause-only c =
    let p = err_from_is_err_and c.from_residual-in_err-site.result c.from_residual-in_err-site.ensures.1 in
    rw (p.1, p.2)
    (only_bases c.args.bytes.now c.in_ok-session.session c.in_ok-session.rsync.now c.in_ok-session.rrdp.now c.in_err-site.field-0.0 c.in_ok-session.ensures c.in_err-site.ensures)
