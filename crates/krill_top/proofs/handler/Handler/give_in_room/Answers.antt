use Rattle.std.proofs.Common.{◌∙◌, ◌++◌, ◌∷◌, [], ℕ, List, refl, sym, ap, subst}
use Rattle.std.specs.Prelude.{Option, Err}
use Rattle.krill_top.specs.declared.faults.RunFault.{RunFault}
use Rattle.krill_top.specs.Working.{Gives}
use Rattle.krill_top.specs.inner.Handlers.{timed}
use Rattle.krill_top.specs.inner.Instances.{TimedInstance, MovesTimed}
use Rattle.krill_top.proofs.Workloads.{given_accepted, given_refused}
use Rattle.krill_top.proofs.handler.Handler.give_in_room.Goals as goal

pub returns-in-Ok-clause-gives : goal.returns-in-Ok-clause-gives
returns-in-Ok-clause-gives g c =
    given_accepted g.D.Disk g.O.Outlet {T = Unit {0}} c.args.name.now c.args.command c.args.out.now.items tt c.in-Ok.field-0 (timed g.C.Clock c.args.self.now)
    (record { instance = c.command.new.self; clock = g.C.Clock.readings c.args.self.now.clock; kept = c.args.self.now.kept }) refl refl c.in-Ok.ensures

pub returns-in-Err-clause-gives : goal.returns-in-Err-clause-gives
returns-in-Err-clause-gives g c =
    let said = c.append_fault-is_wanting.ensures in
    let old : TimedInstance g.row.D.Denot g.row.O.Denot = timed g.C.Clock c.args.self.now in
    let new : TimedInstance g.row.D.Denot g.row.O.Denot = record { instance = c.command.new.self; clock = g.C.Clock.readings c.args.self.now.clock; kept = c.keep_command.new.kept } in
    subst (λ (f : Option RunFault). MovesTimed g.D.Disk g.O.Outlet (λ b a. Gives {T = Unit {0}} c.args.name.now c.args.command c.append_fault-is_wanting.new.out.items (Err f) b a) old new) (sym c.wanting_fault.ensures)
    (given_refused g.D.Disk g.O.Outlet (Unit {0}) c.args.name.now c.args.command said.0 c.append_fault-is_wanting.new.out.items c.in-Err.fault c.append_fault-is_wanting.result old new refl c.keep_command.ensures
    (said.1 ∙ ap (λ (l : List ℕ). l ++ said.0 ++ 10 ∷ []) c.requires.empty) said.2 c.in-Err.ensures)
