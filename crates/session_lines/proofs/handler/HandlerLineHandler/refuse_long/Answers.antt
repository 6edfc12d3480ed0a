use Rattle.std.proofs.Common.{[], ◌++◌, ◌∷◌, ◌∙◌, append_assoc, length}
use Rattle.session_lines.proofs.Answering.{if_ok_so, long_replies}
use Rattle.session_lines.specs.Replies.{bad_line_text}
use Rattle.session_lines.specs.Sessions.{state_of}
use Rattle.session_lines.proofs.handler.HandlerLineHandler.refuse_long.Goals as goal

pub returns-clause-ok : goal.returns-clause-ok
returns-clause-ok g c = if_ok_so c.append_bad_line.result _ _ c.append_bad_line.ensures.ok
    (λ u is. (
      bad_line_text ++ 10 ∷ [],
      (λ line long. long_replies g.row.O.Denot g.D.Disk (length g.N.Names.named.signers) line (state_of g.C.Clock c.args.self.now) long),
      is ∙ append_assoc c.args.out.now.items bad_line_text (10 ∷ []),
    ))
