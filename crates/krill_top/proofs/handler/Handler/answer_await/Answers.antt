use Rattle.std.proofs.Common.{◌∙◌, ap, false, [], ◌∷◌, ◌++◌, List, ℕ, refl}
use Rattle.krill_top.specs.Replies.{IsTold, awaited_text, await_text}
use Rattle.krill_top.specs.inner.Handlers.{timed}
use Rattle.krill_top.proofs.Moving.{stay_timed}
use Rattle.krill_top.proofs.handler.Handler.answer_await.Goals as goal

pub returns-clause-ok : goal.returns-clause-ok
returns-clause-ok g c =
    let text = awaited_text c.args.asked c.serial.result in (
      text,
      c.append_awaited.ensures ∙ ap (λ (l : List ℕ). l ++ text ++ 10 ∷ []) c.in_ok-reserve.ensures.items,
      stay_timed g.D.Disk g.O.Outlet (λ b a. IsTold (await_text c.args.asked b.state) b text false a) (timed g.C.Clock c.args.self.now)
          (λ before stands. record { text_is = ap (awaited_text c.args.asked) (c.serial.ensures before stands); unchanged = refl; same = refl }),
    )
