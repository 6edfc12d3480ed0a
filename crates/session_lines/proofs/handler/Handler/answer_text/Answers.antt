use Rattle.std.proofs.Common.{◌∙◌, ap, [], ◌∷◌, ◌++◌, List, ℕ, length}
use Rattle.session_lines.specs.Sessions.{state_of}
use Rattle.session_lines.proofs.Answering.{if_ok_so, said_text, line_fault_text}
use Rattle.session_lines.proofs.handler.Handler.answer_text.Goals as goal

pub returns-in-Ok-clause-ok : goal.returns-in-Ok-clause-ok
returns-in-Ok-clause-ok g c = if_ok_so c.answer_said.result _ _ c.answer_said.ensures.ok
    (λ changed t. (
      t.0,
      t.1,
      said_text g.row.O.Denot g.D.Disk (length g.N.Names.named.signers) c.args.line.now (state_of g.C.Clock c.args.self.now) (state_of g.C.Clock c.answer_said.new.self) c.in-Ok.said t.0 changed
          (c.in-Ok.ensures (λ e. cc)) t.2,
    ))

pub returns-in_ok-reserve-in-Err-clause-ok : goal.returns-in_ok-reserve-in-Err-clause-ok
returns-in_ok-reserve-in-Err-clause-ok g c =
    let said = c.append_line_fault.ensures in (
      said.0,
      said.1 ∙ ap (λ (l : List ℕ). l ++ said.0 ++ 10 ∷ []) c.in_ok-reserve-in-Err.ensures.items,
      line_fault_text g.row.O.Denot g.D.Disk (length g.N.Names.named.signers) c.args.line.now (state_of g.C.Clock c.args.self.now) c.in-Err.fault said.0 c.in-Err.ensures said.2,
    )
