use Rattle.std.proofs.Common.{◌-◌, take, ap, ◌∙◌}
use Rattle.line_loop.proofs.Parts.{moved_front}
use Rattle.line_loop.proofs.window.move_to_front.Goals as goal

pub returns : goal.returns
returns c =
    ap (take (c.args.end - c.args.start)) c.copy_within.ensures.after ∙ moved_front c.args.buffer.now c.args.start c.args.end c.requires.ordered c.requires.within
