use Rattle.std.proofs.Common.{subst}
use Rattle.krill_top.specs.Outcomes.{outcome_of}
use Rattle.krill_top.specs.Replies.{CommandedIn}
use Rattle.krill_top.specs.inner.Instances.{InstanceValue, Moves}
use Rattle.krill_top.proofs.Publishing.{commanded_moves, instance_on}
use Rattle.krill_top.proofs.instance.Instance.command.Goals as goal

pub invariant_of-self : goal.invariant_of-self
invariant_of-self g c =
    let old : InstanceValue g.row.D.Denot g.row.O.Denot = record { desks = c.self.inside.desks; press = c.self.inside.press.press; journal = c.self.inside.press.journal; sheet = c.self.inside.sheet; signers = c.self.inside.signers; outlet = c.self.inside.outlet } in
    instance_on g.O.Outlet g.D.Disk (λ b a. CommandedIn c.args.name.now c.args.command (outcome_of c.command.result) b a) old (record old { desks = c.command.new.self })
    (commanded_moves g.O.Outlet g.D.Disk c.args.name.now c.args.command (outcome_of c.command.result) old c.command.new.self c.more_commands_stand.ensures.left c.more_commands_stand.ensures.stands c.command.ensures) c.self.invariant

pub returns : goal.returns
returns g c =
    let D : Type 0 = g.row.D.Denot in
    let old : InstanceValue D g.row.O.Denot = record { desks = c.self.inside.desks; press = c.self.inside.press.press; journal = c.self.inside.press.journal; sheet = c.self.inside.sheet; signers = c.self.inside.signers; outlet = c.self.inside.outlet } in
    let moves = commanded_moves g.O.Outlet g.D.Disk c.args.name.now c.args.command (outcome_of c.command.result) old c.command.new.self c.more_commands_stand.ensures.left c.more_commands_stand.ensures.stands c.command.ensures in
    subst (λ (o : InstanceValue D g.row.O.Denot). Moves g.D.Disk g.O.Outlet (λ b a. CommandedIn c.args.name.now c.args.command (outcome_of c.command.result) b a) o (record old { desks = c.command.new.self })) c.self.view_is moves
