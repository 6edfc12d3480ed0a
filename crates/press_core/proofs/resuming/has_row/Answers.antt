use Rattle.std.proofs.Common.{sym, ◌∙◌, arith}
use Rattle.std.specs.Str.{bytes_eq}
use Rattle.key_roll.specs.declared.rows.KeyRow.{KeyRow}
use Rattle.press_core.proofs.Comparing.{any-step, any-found, any-end}
use Rattle.press_core.proofs.resuming.has_row.Goals as goal

pub loop-row-preserved : goal.loop-row-preserved
loop-row-preserved c =
    c.loop-row.invariant
    ∙ any-step (λ (r : KeyRow). bytes_eq r.key.bytes c.args.point.now.key.bytes) c.args.rows.now c.loop-row.row-index c.row-item.result c.loop-row-test.true c.row-item.is
    (sym c.eq.ensures ∙ c.if-eq.false)

pub returns-then-eq : goal.returns-then-eq
returns-then-eq c =
    sym (c.loop-row.invariant
    ∙ any-found (λ (r : KeyRow). bytes_eq r.key.bytes c.args.point.now.key.bytes) c.args.rows.now c.loop-row.row-index c.row-item.result c.loop-row-test.true c.row-item.is
    (sym c.eq.ensures ∙ c.if-eq.true))

pub returns : goal.returns
returns c =
    sym (c.loop-row.invariant
    ∙ any-end (λ (r : KeyRow). bytes_eq r.key.bytes c.args.point.now.key.bytes) c.args.rows.now c.loop-row.row-index (omega arith))
