use Rattle.std.proofs.Common.{[], ◌++◌, ◌∷◌, ◌∙◌, append_assoc}
use Rattle.krill_top.proofs.Answering.{if_ok_so, long_replies}
use Rattle.krill_top.specs.Replies.{bad_line_text}
use Rattle.krill_top.proofs.handler.HandlerLineHandler.refuse_long.Goals as goal

pub returns-clause-ok : goal.returns-clause-ok
returns-clause-ok g c = if_ok_so c.append_bad_line.result _ _ c.append_bad_line.ensures.ok
    (λ u is. (bad_line_text ++ 10 ∷ [], (λ line long. long_replies g.D.Disk g.O.Outlet _ line long), is ∙ append_assoc c.args.out.now.items bad_line_text (10 ∷ [])))
