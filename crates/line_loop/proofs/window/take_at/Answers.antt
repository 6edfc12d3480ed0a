use Rattle.std.proofs.Common.{◌+◌, ◌-◌, arith}
use Rattle.line_loop.proofs.Parts.{took, written_front}
use Rattle.line_loop.proofs.window.take_at.Goals as goal

pub returns-clause-ok : goal.returns-clause-ok
returns-clause-ok g c =
    took c.take.result _ _ c.take.new.into c.args.buffer.now _ c.args.end c.args.room (omega arith)
    (λ n within. written_front c.args.buffer.now c.take.new.into c.args.end (c.args.end + c.args.room - c.args.end) n (omega arith) within)
    c.take.ensures.room c.take.ensures.bytes
