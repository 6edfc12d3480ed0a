use Rattle.std.proofs.Common.{◌∙◌, ap, arith}
use Rattle.der.proofs.Turns.{turned, turned_none, turned_next}
use Rattle.der.proofs.writer.turn_by_ones.Goals as goal

pub loop-turn-init : goal.loop-turn-init
loop-turn-init c = turned_none c.args.bytes.now

pub loop-turn-preserved : goal.loop-turn-preserved
loop-turn-preserved c = c.rotate_right.ensures.after ∙ turned_next c.args.bytes.now c.loop-turn.bytes c.loop-turn._turn (omega arith) c.loop-turn.invariant

pub returns : goal.returns
returns c = c.loop-turn.invariant ∙ ap (turned c.args.bytes.now) (omega arith)
