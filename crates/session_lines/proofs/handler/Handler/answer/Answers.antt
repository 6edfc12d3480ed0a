use Rattle.std.proofs.Common.{◌≡◌, [], ◌++◌, ◌∷◌, sym, subst, append_assoc, append-nil, true, false, ◌∙◌, length}
use Rattle.std.specs.Prelude.{IsTrue}
use Rattle.session_lines.specs.Sessions.{state_of}
use Rattle.session_lines.proofs.Answering.{if_ok_so, text_replies, blank_replies}
use Rattle.session_lines.proofs.handler.Handler.answer.Goals as goal

pub returns-clause-ok : goal.returns-clause-ok
returns-clause-ok g c = if_ok_so c.answer_text.result _ _ c.answer_text.ensures.ok
    (λ changed t. (
      t.0 ++ 10 ∷ [],
      text_replies g.row.O.Denot g.D.Disk (length g.N.Names.named.signers) c.args.line.now (state_of g.C.Clock c.args.self.now) (state_of g.C.Clock c.answer_text.new.self) t.0 changed
          (λ blank. let impossible : false ≡ true = subst IsTrue c.if-is_blank.false (c.is_blank.ensures.1 blank) in cc) t.2,
      t.1 ∙ append_assoc c.args.out.now.items t.0 (10 ∷ []),
    ))

pub returns-then-is_blank-clause-ok : goal.returns-then-is_blank-clause-ok
returns-then-is_blank-clause-ok g c = (
  [],
  blank_replies g.row.O.Denot g.D.Disk (length g.N.Names.named.signers) c.args.line.now (state_of g.C.Clock c.args.self.now) (c.is_blank.ensures.0 c.if-is_blank.true),
  sym (append-nil c.args.out.now.items),
)
