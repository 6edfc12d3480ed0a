use Rattle.std.proofs.Common.{subst}
use Rattle.std.specs.Prelude.{Ok, Err}
use Rattle.krill_top.specs.Publishing.{MakesOrNot}
use Rattle.krill_top.specs.inner.Instances.{InstanceValue, Moves}
use Rattle.krill_top.proofs.Publishing.{published, unpublished, pressed_serial, instance_on, gathered_right, accepted_right, live_signers_right, name_signers_right, cut_long, within_right}
use Rattle.krill_top.proofs.instance.Instance.make_edition.Goals as goal

pub press_all-requires-clause-cut : goal.press_all-requires-clause-cut
press_all-requires-clause-cut g c = λ lifetimes lives. cut_long g.O.Outlet _ c.self.invariant

pub press_all-requires-clause-within : goal.press_all-requires-clause-within
press_all-requires-clause-within g c = λ lifetimes lives. within_right g.O.Outlet _ c.self.invariant

pub press_all-requires-clause-gathered : goal.press_all-requires-clause-gathered
press_all-requires-clause-gathered g c lifetimes lives groups since =
    let old : InstanceValue g.row.D.Denot g.row.O.Denot = record { desks = c.self.inside.desks; press = c.self.inside.press.press; journal = c.self.inside.press.journal; sheet = c.self.inside.sheet; signers = c.self.inside.signers; outlet = c.self.inside.outlet } in
    gathered_right g.O.Outlet old groups since

pub press_all-requires-clause-accepted : goal.press_all-requires-clause-accepted
press_all-requires-clause-accepted g c lifetimes lives groups since = accepted_right g.O.Outlet _ groups c.self.invariant since

pub press_all-requires-clause-live_signers : goal.press_all-requires-clause-live_signers
press_all-requires-clause-live_signers g c = λ lifetimes lives. live_signers_right g.O.Outlet _ c.self.invariant

pub press_all-requires-clause-name_signers : goal.press_all-requires-clause-name_signers
press_all-requires-clause-name_signers g c lifetimes lives groups since = name_signers_right g.O.Outlet _ groups c.gathered_commands_go_on.ensures.configs c.self.invariant since

pub invariant_of-self-in-Err : goal.invariant_of-self-in-Err
invariant_of-self-in-Err g c =
    let old : InstanceValue g.row.D.Denot g.row.O.Denot = record { desks = c.self.inside.desks; press = c.self.inside.press.press; journal = c.self.inside.press.journal; sheet = c.self.inside.sheet; signers = c.self.inside.signers; outlet = c.self.inside.outlet } in
    instance_on g.O.Outlet g.D.Disk (λ b a. MakesOrNot c.args.now (Err c.in-Err.fault) b a) old (record old { press = c.press_all.new.press.press; journal = c.press_all.new.press.journal })
    (unpublished g.O.Outlet c.vouching_signers_vouch_for_editions.ensures g.D.Disk c.args.now old c.press_all.new.press c.in-Err.fault c.in-Err.ensures.refused) c.self.invariant

pub returns-in-Err-clause-moves : goal.returns-in-Err-clause-moves
returns-in-Err-clause-moves g c =
    let D : Type 0 = g.row.D.Denot in
    let old : InstanceValue D g.row.O.Denot = record { desks = c.self.inside.desks; press = c.self.inside.press.press; journal = c.self.inside.press.journal; sheet = c.self.inside.sheet; signers = c.self.inside.signers; outlet = c.self.inside.outlet } in
    subst (λ (o : InstanceValue D g.row.O.Denot). Moves g.D.Disk g.O.Outlet (λ b a. MakesOrNot c.args.now (Err c.in-Err.fault) b a) o (record old { press = c.press_all.new.press.press; journal = c.press_all.new.press.journal })) c.self.view_is
    (unpublished g.O.Outlet c.vouching_signers_vouch_for_editions.ensures g.D.Disk c.args.now old c.press_all.new.press c.in-Err.fault c.in-Err.ensures.refused)

pub invariant_of-self : goal.invariant_of-self
invariant_of-self g c =
    let old : InstanceValue g.row.D.Denot g.row.O.Denot = record { desks = c.self.inside.desks; press = c.self.inside.press.press; journal = c.self.inside.press.journal; sheet = c.self.inside.sheet; signers = c.self.inside.signers; outlet = c.self.inside.outlet } in
    let done = c.in-Ok.field-0 in
    instance_on g.O.Outlet g.D.Disk (λ b a. MakesOrNot {D = g.row.D.Denot} c.args.now (Ok done.published) b a) old (record old { press = c.press_all.new.press.press; journal = c.press_all.new.press.journal; sheet = done.sheet })
    (published g.O.Outlet c.vouching_signers_vouch_for_editions.ensures c.more_editions_stay_shown.ensures.coherent c.more_editions_stay_shown.ensures.shown g.D.Disk c.args.now old c.press_all.new.press done.published done.sheet c.in-Ok.ensures.pressed) c.self.invariant

pub returns-in-Ok-clause-moves : goal.returns-in-Ok-clause-moves
returns-in-Ok-clause-moves g c =
    let D : Type 0 = g.row.D.Denot in
    let old : InstanceValue D g.row.O.Denot = record { desks = c.self.inside.desks; press = c.self.inside.press.press; journal = c.self.inside.press.journal; sheet = c.self.inside.sheet; signers = c.self.inside.signers; outlet = c.self.inside.outlet } in
    let done = c.in-Ok.field-0 in
    subst (λ (o : InstanceValue D g.row.O.Denot). Moves g.D.Disk g.O.Outlet (λ b a. MakesOrNot {D = g.row.D.Denot} c.args.now (Ok done.published) b a) o (record old { press = c.press_all.new.press.press; journal = c.press_all.new.press.journal; sheet = done.sheet })) c.self.view_is
    (published g.O.Outlet c.vouching_signers_vouch_for_editions.ensures c.more_editions_stay_shown.ensures.coherent c.more_editions_stay_shown.ensures.shown g.D.Disk c.args.now old c.press_all.new.press done.published done.sheet c.in-Ok.ensures.pressed)

pub returns-in-Ok-clause-serial : goal.returns-in-Ok-clause-serial
returns-in-Ok-clause-serial g c =
    let old : InstanceValue g.row.D.Denot g.row.O.Denot = record { desks = c.self.inside.desks; press = c.self.inside.press.press; journal = c.self.inside.press.journal; sheet = c.self.inside.sheet; signers = c.self.inside.signers; outlet = c.self.inside.outlet } in
    let done = c.in-Ok.field-0 in
    (pressed_serial g.O.Outlet g.D.Disk c.args.now old c.press_all.new.press done.published done.sheet c.in-Ok.ensures.pressed).0

pub returns-in-Ok-clause-some : goal.returns-in-Ok-clause-some
returns-in-Ok-clause-some g c =
    let old : InstanceValue g.row.D.Denot g.row.O.Denot = record { desks = c.self.inside.desks; press = c.self.inside.press.press; journal = c.self.inside.press.journal; sheet = c.self.inside.sheet; signers = c.self.inside.signers; outlet = c.self.inside.outlet } in
    let done = c.in-Ok.field-0 in
    (pressed_serial g.O.Outlet g.D.Disk c.args.now old c.press_all.new.press done.published done.sheet c.in-Ok.ensures.pressed).1
