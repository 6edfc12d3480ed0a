use Rattle.std.proofs.Common.{sym}
use Rattle.std.proofs.lemmas.Result.{err_from_is_err_and}
use Rattle.res_sets.proofs.Parts.{Reading-next, Reading-end, HasFault-from, left_next, left_last, left_shorter, blocks_are_left}
use Rattle.res_sets.proofs.texts.read_blocks.Goals as goal

pub returns-in_err-push_block-clause-fault : goal.returns-in_err-push_block-clause-fault
returns-in_err-push_block-clause-fault c =
    let p = err_from_is_err_and c.from_residual.result c.from_residual.ensures.1 in
    rw (p.1, p.2)
    (HasFault-from _ _ _ _ _ _ _ _ (sym c.if-is_all_blank.ensures) (left_next c.loop-block.rest.now c.in-Some.ensures.0)
    (rw (c.trim_end.ensures, c.in-Some.ensures.1) at c.in_err-push_block.ensures.fault) c.loop-block.invariant)

pub loop-block-smaller : goal.loop-block-smaller
loop-block-smaller c =
    rw (c.trim_start-rest.ensures, c.in-Some.ensures.2) (left_shorter c.loop-block.rest.now c.in-Some.ensures.0)

pub loop-block-preserved : goal.loop-block-preserved
loop-block-preserved c =
    rw (c.trim_start-rest.ensures, c.in-Some.ensures.2)
    (Reading-next _ _ _ _ _ _ c.in-Some.ensures.0 (rw (c.trim_end.ensures, c.in-Some.ensures.1) at c.in_ok-push_block.ensures.read) c.loop-block.invariant)

pub returns-in_err-push_block-2-clause-fault : goal.returns-in_err-push_block-2-clause-fault
returns-in_err-push_block-2-clause-fault c =
    let p = err_from_is_err_and c.from_residual-in_err-push_block-2.result c.from_residual-in_err-push_block-2.ensures.1 in
    rw (p.1, p.2)
    (HasFault-from _ _ _ _ _ _ _ _ (sym c.if-is_all_blank.ensures) (left_last c.loop-block.rest.now c.in_default.ensures)
    c.in_err-push_block-2.ensures.fault c.loop-block.invariant)

pub returns-clause-read : goal.returns-clause-read
returns-clause-read c =
    rw (blocks_are_left c.args.text.now (sym c.if-is_all_blank.ensures)) (Reading-end _ _ _ _ _ _ c.in_default.ensures c.in_ok-push_block-2.ensures.read c.loop-block.invariant)
