use Rattle.std.proofs.Common.{◌≡◌, refl}
use Rattle.json_api.specs.declared.line.Line.TheVariants as line
use Rattle.krill_top.specs.Reads.{list_reply, history_reply}
use Rattle.krill_top.specs.Sheets.{IsShowText, IsRoasText}
use Rattle.krill_top.specs.Replies.{IsTold, CommandText, PublishText, serial_text, await_text}
use Rattle.krill_top.specs.inner.Handlers.{timed}
use Rattle.krill_top.proofs.Answering.{if_ok_so, read_said, kind_said, surely}
use Rattle.krill_top.proofs.handler.Handler.answer_said.Goals as goal

pub returns-in-Command-clause-ok : goal.returns-in-Command-clause-ok
returns-in-Command-clause-ok g c = if_ok_so c.answer_command.result _ _ c.answer_command.ensures.ok
    (λ changed t. (
      t.0,
      t.1,
      kind_said g.D.Disk g.O.Outlet (CommandText c.in-Command.name c.in-Command.command) c.args.said (line.Command c.in-Command.name c.in-Command.command) _ _ t.0 changed changed
          c.in-Command.is refl (λ before after is. is) t.2,
    ))

pub returns-in-Publish-clause-ok : goal.returns-in-Publish-clause-ok
returns-in-Publish-clause-ok g c = if_ok_so c.answer_publish.result _ _ c.answer_publish.ensures.ok
    (λ changed t. (
      t.0,
      t.1,
      kind_said g.D.Disk g.O.Outlet PublishText c.args.said line.Publish _ _ t.0 changed changed
          c.in-Publish.is refl (λ before after is. is) (surely g.D.Disk g.O.Outlet PublishText _ _ t.0 changed t.2),
    ))

pub returns-in-Serial-clause-ok : goal.returns-in-Serial-clause-ok
returns-in-Serial-clause-ok g c = if_ok_so c.answer_serial.result _ _ c.answer_serial.ensures.ok
    (λ changed t. (
      t.0,
      t.1,
      kind_said g.D.Disk g.O.Outlet (λ b text changed a. IsTold (serial_text b.state) b text changed a) c.args.said line.Serial _ _ t.0 changed changed
          c.in-Serial.is refl (λ before after is. is)
          (surely g.D.Disk g.O.Outlet (λ b text changed a. IsTold (serial_text b.state) b text changed a) _ _ t.0 changed t.2),
    ))

pub returns-in-Await-clause-ok : goal.returns-in-Await-clause-ok
returns-in-Await-clause-ok g c = if_ok_so c.answer_await.result _ _ c.answer_await.ensures.ok
    (λ changed t. (
      t.0,
      t.1,
      kind_said g.D.Disk g.O.Outlet (λ b text changed a. IsTold (await_text c.in-Await.serial b.state) b text changed a) c.args.said _ _ _ t.0 changed changed
          c.in-Await.is refl (λ before after is. is)
          (surely g.D.Disk g.O.Outlet (λ b text changed a. IsTold (await_text c.in-Await.serial b.state) b text changed a) _ _ t.0 changed t.2),
    ))

pub returns-in-List-clause-ok : goal.returns-in-List-clause-ok
returns-in-List-clause-ok g c = if_ok_so c.append_told.result _ _ c.append_told.ensures.ok
    (λ changed t. (
      t.1.0,
      t.1.1,
      read_said g.D.Disk g.O.Outlet c.args.said line.List (λ state text. text ≡ list_reply state.desk_states) (timed g.C.Clock c.args.self.now) c.list.result t.1.0 changed
          c.in-List.is t.0 (λ before after is. is) c.list.ensures t.1.2,
    ))

pub returns-in-Show-clause-ok : goal.returns-in-Show-clause-ok
returns-in-Show-clause-ok g c = if_ok_so c.append_told-in-Show.result _ _ c.append_told-in-Show.ensures.ok
    (λ changed t. (
      t.1.0,
      t.1.1,
      read_said g.D.Disk g.O.Outlet c.args.said (line.Show c.in-Show.name) (λ state. IsShowText state c.in-Show.name) (timed g.C.Clock c.args.self.now) c.show.result t.1.0 changed
          c.in-Show.is t.0 (λ before after is. is) c.show.ensures t.1.2,
    ))

pub returns-in-Roas-clause-ok : goal.returns-in-Roas-clause-ok
returns-in-Roas-clause-ok g c = if_ok_so c.append_told-in-Roas.result _ _ c.append_told-in-Roas.ensures.ok
    (λ changed t. (
      t.1.0,
      t.1.1,
      read_said g.D.Disk g.O.Outlet c.args.said (line.Roas c.in-Roas.name) (λ state. IsRoasText state c.in-Roas.name) (timed g.C.Clock c.args.self.now) c.roas.result t.1.0 changed
          c.in-Roas.is t.0 (λ before after is. is) c.roas.ensures t.1.2,
    ))

pub returns-in-History-clause-ok : goal.returns-in-History-clause-ok
returns-in-History-clause-ok g c = if_ok_so c.append_told-in-History.result _ _ c.append_told-in-History.ensures.ok
    (λ changed t. (
      t.1.0,
      t.1.1,
      read_said g.D.Disk g.O.Outlet c.args.said (line.History c.in-History.name) (λ state text. text ≡ history_reply state.desk_states c.in-History.name) (timed g.C.Clock c.args.self.now) c.history.result t.1.0 changed
          c.in-History.is t.0 (λ before after is. is) c.history.ensures t.1.2,
    ))
