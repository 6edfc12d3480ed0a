use Rattle.std.proofs.Common.{◌∙◌, ap, subst}
use mathlib.Core.List.{IsPrefix}
use Rattle.commit_word.specs.Seats.{FollowerSeat}
use Rattle.manager.proofs.Making.{learned_counted}
use Rattle.manager.proofs.passes_seats.DeskSeat.learn.Goals as goal

pub tell-requires-clause-follower : goal.tell-requires-clause-follower
tell-requires-clause-follower g c = ap (λ (f : FollowerSeat). f.word) c.self.view_is ∙ c.requires.seat

pub invariant_of-self : goal.invariant_of-self
invariant_of-self g c =
    learned_counted c.self.inside.recovered c.self.inside.made c.self.inside.follower c.tell.new.follower c.args.desk.now.desk.records c.tell.ensures.told
    (subst (λ (f : FollowerSeat). IsPrefix c.self.inside.follower.seen f.seen) c.tell.ensures.told c.tell.ensures.grows) c.self.invariant

pub returns-clause-told : goal.returns-clause-told
returns-clause-told g c = c.tell.ensures.told ∙ ap (λ (f : FollowerSeat). record f { seen = c.args.desk.now.desk.records }) c.self.view_is

pub returns-clause-grows : goal.returns-clause-grows
returns-clause-grows g c =
    subst (λ (f : FollowerSeat). IsPrefix f.seen c.args.desk.now.desk.records) c.self.view_is
    (subst (λ (f : FollowerSeat). IsPrefix c.self.inside.follower.seen f.seen) c.tell.ensures.told c.tell.ensures.grows)
