use Rattle.std.proofs.Common.{◌∙◌, ap, subst}
use Rattle.commit_word.specs.Seats.{FollowerSeat}
use Rattle.manager.specs.Commanding.{IsTaken, IsRefusedAt}
use Rattle.manager.proofs.Making.{learned_counted, taken_kept}
use Rattle.manager.proofs.passes_seats.DeskSeat.commit.Goals as goal

pub commit-requires-clause-follower : goal.commit-requires-clause-follower
commit-requires-clause-follower g c = ap (λ (f : FollowerSeat). f.word) c.self.view_is ∙ c.requires.seat

pub invariant_of-self : goal.invariant_of-self
invariant_of-self g c =
    let refused = c.in-Err.ensures.refused in
    learned_counted c.self.inside.recovered c.self.inside.made c.self.inside.follower c.commit.new.follower c.commit.new.follower.seen refused.more.rest refused.more.grows c.self.invariant

pub invariant_of-self-2 : goal.invariant_of-self-2
invariant_of-self-2 g c =
    taken_kept c.self.inside.recovered c.self.inside.made c.saturating_add-self-inside.result c.args.desk.now.desk.number c.args.command c.args.signers c.in-Ok.count c.self.inside.follower c.commit.new.follower
    c.in-Ok.ensures.taken c.saturating_add-self-inside.ensures c.self.invariant

pub returns-clause-taken : goal.returns-clause-taken
returns-clause-taken g c =
    subst (λ (f : FollowerSeat). IsTaken c.args.desk.now.desk.number c.args.command c.args.signers c.in-Ok.count f c.commit.new.follower) c.self.view_is c.in-Ok.ensures.taken

pub returns-in-Err-clause-refused : goal.returns-in-Err-clause-refused
returns-in-Err-clause-refused g c =
    subst (λ (f : FollowerSeat). IsRefusedAt c.args.desk.now.desk.number c.args.command c.args.signers c.in-Err.fault f c.commit.new.follower) c.self.view_is c.in-Err.ensures.refused

pub returns-clause-kept : goal.returns-clause-kept
returns-clause-kept g c =
    (c.commit.ensures.seat.0 ∙ ap (λ (f : FollowerSeat). f.word) c.self.view_is, c.commit.ensures.seat.1 ∙ ap (λ (f : FollowerSeat). f.recovered) c.self.view_is)

pub returns-in-Err-clause-kept : goal.returns-in-Err-clause-kept
returns-in-Err-clause-kept g c =
    (c.commit.ensures.seat.0 ∙ ap (λ (f : FollowerSeat). f.word) c.self.view_is, c.commit.ensures.seat.1 ∙ ap (λ (f : FollowerSeat). f.recovered) c.self.view_is)
