use Rattle.std.proofs.Common.{◌∙◌, ap, [], ◌∷◌, ◌++◌, List, ℕ}
use Rattle.session_lines.specs.Texts.{IsHistoryText}
use Rattle.session_lines.specs.Sessions.{state_of}
use Rattle.session_lines.proofs.Answering.{read_told}
use Rattle.session_lines.proofs.handler.Handler.answer_history.Goals as goal

pub returns-clause-ok : goal.returns-clause-ok
returns-clause-ok g c =
    let said = c.append_told.ensures in (
      said.0,
      said.1 ∙ ap (λ (l : List ℕ). l ++ said.0 ++ 10 ∷ []) c.in_ok-reserve.ensures.items,
      read_told (IsHistoryText c.args.name.now) c.read_history-text.new.pass (state_of g.C.Clock c.args.self.now) c.read_history-text.result said.0 c.read_history-text.ensures.learned c.read_history-text.ensures.text said.2,
    )
