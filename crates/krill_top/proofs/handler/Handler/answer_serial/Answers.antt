use Rattle.std.proofs.Common.{◌∙◌, ap, false, [], ◌∷◌, ◌++◌, List, ℕ, refl}
use Rattle.json_api.specs.Reply.{serial_spelling}
use Rattle.krill_top.specs.Replies.{IsTold, serial_text}
use Rattle.krill_top.specs.inner.Handlers.{timed}
use Rattle.krill_top.proofs.Moving.{stay_timed}
use Rattle.krill_top.proofs.handler.Handler.answer_serial.Goals as goal

pub returns-clause-ok : goal.returns-clause-ok
returns-clause-ok g c =
    let text = serial_spelling c.serial.result in (
      text,
      c.append_serial.ensures ∙ ap (λ (l : List ℕ). l ++ text ++ 10 ∷ []) c.in_ok-reserve.ensures.items,
      stay_timed g.D.Disk g.O.Outlet (λ b a. IsTold (serial_text b.state) b text false a) (timed g.C.Clock c.args.self.now)
          (λ before stands. record { text_is = ap serial_spelling (c.serial.ensures before stands); unchanged = refl; same = refl }),
    )
