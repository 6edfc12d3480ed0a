use Rattle.std.proofs.Common.{◌∙◌, ap, [], ◌∷◌, ◌++◌, List, ℕ}
use Rattle.session_lines.specs.Texts.{IsShowText}
use Rattle.session_lines.specs.Sessions.{state_of}
use Rattle.session_lines.proofs.Answering.{read_told}
use Rattle.session_lines.proofs.handler.Handler.answer_show.Goals as goal

pub returns-clause-ok : goal.returns-clause-ok
returns-clause-ok g c =
    let said = c.append_told.ensures in (
      said.0,
      said.1 ∙ ap (λ (l : List ℕ). l ++ said.0 ++ 10 ∷ []) c.in_ok-reserve.ensures.items,
      read_told (IsShowText c.args.name.now) c.read_show-text.new.pass (state_of g.C.Clock c.args.self.now) c.read_show-text.result said.0 c.read_show-text.ensures.learned c.read_show-text.ensures.text said.2,
    )
