use Rattle.std.proofs.Common.{◌≡◌, ◌∙◌, ap, [], ◌∷◌, ◌++◌, List, ℕ}
use Rattle.json_api.specs.Reply.{serial_spelling}
use Rattle.manager.specs.Passes.{PassValue}
use Rattle.session_lines.specs.Texts.{serial_text}
use Rattle.session_lines.specs.Sessions.{state_of}
use Rattle.session_lines.proofs.Answering.{learned_shown, read_sure}
use Rattle.session_lines.proofs.handler.Handler.answer_serial.Goals as goal

pub returns-clause-ok : goal.returns-clause-ok
returns-clause-ok g c =
    let text = serial_spelling c.look.result in (
      text,
      c.append_serial.ensures ∙ ap (λ (l : List ℕ). l ++ text ++ 10 ∷ []) c.in_ok-reserve.ensures.items,
      read_sure (λ pass told. told ≡ serial_text pass) c.look.new.pass (state_of g.C.Clock c.args.self.now) text
          (learned_shown c.args.self.now.pass c.look.new.pass c.look.ensures.rest c.look.ensures.grows) (ap serial_spelling c.look.ensures.serial),
    )
