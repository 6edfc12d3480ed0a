use Rattle.std.proofs.Common.{◌<◌, List, length, sym, subst}
use Rattle.commit_word.specs.Seats.{FollowerSeat}
use Rattle.manager.specs.Locked.{LockedValue, IsLocked}
use Rattle.manager.proofs.Kept.{lock}
use Rattle.manager.proofs.Learned.{learned}
use Rattle.manager.proofs.locked_press.LockedPress.learn.Goals as goal

pub invariant_of-self : goal.invariant_of-self
invariant_of-self g c =
    let inside = c.self.inside in
    let within : c.args.place < length {A = FollowerSeat} inside.followers = subst (λ (l : LockedValue _ _). c.args.place < length l.seats) (sym c.self.view_is) c.requires.place in (
      subst (λ (s : List FollowerSeat). IsLocked g.O.Outlet g.N.Names.named (lock inside.press s inside.board inside.outlet)) (sym c.learn.ensures.set)
          (learned g.O.Outlet g.N.Names.named inside.press inside.followers inside.board inside.outlet c.args.place within c.self.invariant.0
          c.commands_are_determined.ensures c.more_commands_stand.ensures.left c.more_commands_stand.ensures.stands c.more_commands_stay_published.ensures
          c.args.desk.now.desk c.requires.desk c.learn.ensures.listed c.learn.ensures.grows),
      c.self.invariant.1,
    )
