use Rattle.std.proofs.Common.{◌≡◌, [], ◌++◌, ◌∷◌, ◌∙◌, sym, subst, append_assoc, append-nil, true, false}
use Rattle.std.specs.Prelude.{IsTrue}
use Rattle.krill_top.specs.inner.Handlers.{timed}
use Rattle.krill_top.proofs.Answering.{if_ok_so, text_replies, blank_replies}
use Rattle.krill_top.proofs.handler.Handler.answer.Goals as goal

pub returns-clause-ok : goal.returns-clause-ok
returns-clause-ok g c = if_ok_so c.answer_text.result _ _ c.answer_text.ensures.ok
    (λ accepted t. (
      t.0 ++ 10 ∷ [],
      text_replies g.D.Disk g.O.Outlet _ _ _ t.0 accepted
          (λ blank. let impossible : false ≡ true = subst IsTrue c.if-is_blank.false (c.is_blank.ensures.1 blank) in cc) t.2,
      t.1 ∙ append_assoc c.args.out.now.items t.0 (10 ∷ []),
    ))

pub returns-then-is_blank-clause-ok : goal.returns-then-is_blank-clause-ok
returns-then-is_blank-clause-ok g c =
    ([], blank_replies g.D.Disk g.O.Outlet (timed g.C.Clock c.args.self.now) c.args.line.now (c.is_blank.ensures.0 c.if-is_blank.true), sym (append-nil c.args.out.now.items))
