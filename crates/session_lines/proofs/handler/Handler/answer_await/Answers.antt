use Rattle.std.proofs.Common.{◌∙◌, ap, [], ◌∷◌, ◌++◌, List, ℕ, refl}
use Rattle.session_lines.specs.Texts.{awaited_text}
use Rattle.session_lines.specs.Replies.{IsAwaitText}
use Rattle.session_lines.specs.Sessions.{state_of}
use Rattle.session_lines.proofs.Answering.{learned_shown, read_sure}
use Rattle.session_lines.proofs.handler.Handler.answer_await.Goals as goal

pub returns-clause-ok : goal.returns-clause-ok
returns-clause-ok g c =
    let text = awaited_text c.await_edition.result in (
      text,
      c.append_awaited.ensures ∙ ap (λ (l : List ℕ). l ++ text ++ 10 ∷ []) c.in_ok-reserve.ensures.items,
      read_sure (IsAwaitText c.args.serial) c.await_edition.new.pass (state_of g.C.Clock c.args.self.now) text
          (learned_shown c.args.self.now.pass c.await_edition.new.pass c.await_edition.ensures.rest c.await_edition.ensures.grows)
          (c.await_edition.result, c.await_edition.ensures.awaited, refl),
    )
