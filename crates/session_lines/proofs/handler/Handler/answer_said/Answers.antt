use Rattle.std.proofs.Common.{length, inl}
use Rattle.json_api.specs.declared.line.Line.TheVariants as line
use Rattle.session_lines.specs.Sessions.{state_of}
use Rattle.session_lines.proofs.Answering.{if_ok_so, kind_said}
use Rattle.session_lines.proofs.handler.Handler.answer_said.Goals as goal

pub returns-in-Command-clause-ok : goal.returns-in-Command-clause-ok
returns-in-Command-clause-ok g c = if_ok_so c.answer_command.result _ _ c.answer_command.ensures.ok
    (λ changed t. (
      t.0,
      t.1,
      kind_said g.row.O.Denot g.D.Disk (length g.N.Names.named.signers) c.args.said (line.Command c.in-Command.name c.in-Command.command) (state_of g.C.Clock c.args.self.now) t.0 changed (state_of g.C.Clock c.answer_command.new.self) c.in-Command.is t.2,
    ))

pub returns-in-Publish-clause-ok : goal.returns-in-Publish-clause-ok
returns-in-Publish-clause-ok g c = if_ok_so c.answer_publish.result _ _ c.answer_publish.ensures.ok
    (λ changed t. (
      t.0,
      t.1,
      kind_said g.row.O.Denot g.D.Disk (length g.N.Names.named.signers) c.args.said line.Publish (state_of g.C.Clock c.args.self.now) t.0 changed (state_of g.C.Clock c.answer_publish.new.self) c.in-Publish.is (inl t.2),
    ))

pub returns-in-Serial-clause-ok : goal.returns-in-Serial-clause-ok
returns-in-Serial-clause-ok g c = if_ok_so c.answer_serial.result _ _ c.answer_serial.ensures.ok
    (λ changed t. (
      t.0,
      t.1,
      kind_said g.row.O.Denot g.D.Disk (length g.N.Names.named.signers) c.args.said line.Serial (state_of g.C.Clock c.args.self.now) t.0 changed (state_of g.C.Clock c.answer_serial.new.self) c.in-Serial.is (inl t.2),
    ))

pub returns-in-Await-clause-ok : goal.returns-in-Await-clause-ok
returns-in-Await-clause-ok g c = if_ok_so c.answer_await.result _ _ c.answer_await.ensures.ok
    (λ changed t. (
      t.0,
      t.1,
      kind_said g.row.O.Denot g.D.Disk (length g.N.Names.named.signers) c.args.said (line.Await c.in-Await.serial c.in-Await.looks) (state_of g.C.Clock c.args.self.now) t.0 changed (state_of g.C.Clock c.answer_await.new.self) c.in-Await.is (inl t.2),
    ))

pub returns-in-List-clause-ok : goal.returns-in-List-clause-ok
returns-in-List-clause-ok g c = if_ok_so c.answer_list.result _ _ c.answer_list.ensures.ok
    (λ changed t. (
      t.0,
      t.1,
      kind_said g.row.O.Denot g.D.Disk (length g.N.Names.named.signers) c.args.said line.List (state_of g.C.Clock c.args.self.now) t.0 changed (state_of g.C.Clock c.answer_list.new.self) c.in-List.is t.2,
    ))

pub returns-in-Show-clause-ok : goal.returns-in-Show-clause-ok
returns-in-Show-clause-ok g c = if_ok_so c.answer_show.result _ _ c.answer_show.ensures.ok
    (λ changed t. (
      t.0,
      t.1,
      kind_said g.row.O.Denot g.D.Disk (length g.N.Names.named.signers) c.args.said (line.Show c.in-Show.name) (state_of g.C.Clock c.args.self.now) t.0 changed (state_of g.C.Clock c.answer_show.new.self) c.in-Show.is t.2,
    ))

pub returns-in-Roas-clause-ok : goal.returns-in-Roas-clause-ok
returns-in-Roas-clause-ok g c = if_ok_so c.answer_roas.result _ _ c.answer_roas.ensures.ok
    (λ changed t. (
      t.0,
      t.1,
      kind_said g.row.O.Denot g.D.Disk (length g.N.Names.named.signers) c.args.said (line.Roas c.in-Roas.name) (state_of g.C.Clock c.args.self.now) t.0 changed (state_of g.C.Clock c.answer_roas.new.self) c.in-Roas.is t.2,
    ))

pub returns-in-History-clause-ok : goal.returns-in-History-clause-ok
returns-in-History-clause-ok g c = if_ok_so c.answer_history.result _ _ c.answer_history.ensures.ok
    (λ changed t. (
      t.0,
      t.1,
      kind_said g.row.O.Denot g.D.Disk (length g.N.Names.named.signers) c.args.said (line.History c.in-History.name) (state_of g.C.Clock c.args.self.now) t.0 changed (state_of g.C.Clock c.answer_history.new.self) c.in-History.is t.2,
    ))
