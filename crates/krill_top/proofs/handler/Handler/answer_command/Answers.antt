use Rattle.std.proofs.Common.{◌∙◌, ap, [], ◌∷◌, ◌++◌, List, ℕ, refl}
use Rattle.json_api.specs.Reply.{accepted_spelling}
use Rattle.krill_top.specs.inner.Handlers.{timed}
use Rattle.krill_top.proofs.Answering.{accepted_text, fault_text}
use Rattle.krill_top.proofs.handler.Handler.answer_command.Goals as goal

pub returns-in-Ok-clause-ok : goal.returns-in-Ok-clause-ok
returns-in-Ok-clause-ok g c =
    let text = accepted_spelling c.args.name.now c.in-Ok.count in (
      text,
      c.append_accepted.ensures ∙ ap (λ (l : List ℕ). l ++ text ++ 10 ∷ []) c.in_ok-reserve.ensures.items,
      accepted_text g.D.Disk g.O.Outlet c.args.name.now c.args.command text (timed g.C.Clock c.args.self.now) (record { instance = c.command.new.self; clock = g.C.Clock.readings c.args.self.now.clock; kept = c.args.self.now.kept }) refl c.in-Ok.count refl refl
          c.in-Ok.ensures,
    )

pub returns-in-Err-clause-ok : goal.returns-in-Err-clause-ok
returns-in-Err-clause-ok g c =
    let said = c.append_fault.ensures in (
      said.0,
      said.1 ∙ ap (λ (l : List ℕ). l ++ said.0 ++ 10 ∷ []) c.in_ok-reserve.ensures.items,
      fault_text g.D.Disk g.O.Outlet c.args.name.now c.args.command said.0 (timed g.C.Clock c.args.self.now) (record { instance = c.command.new.self; clock = g.C.Clock.readings c.args.self.now.clock; kept = c.keep_command.new.kept }) refl c.in-Err.fault
          c.leaves_doubt-in_doubt.result c.append_fault.result c.keep_command.ensures said.2 c.leaves_doubt-in_doubt.ensures c.in-Err.ensures,
    )
