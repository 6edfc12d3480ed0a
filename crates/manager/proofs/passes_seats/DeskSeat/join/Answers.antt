use Rattle.std.proofs.Common.{◌∙◌, ap, subst}
use Rattle.commit_word.specs.Seats.{FollowerSeat}
use Rattle.manager.specs.Passes.{IsJoinedSeat}
use Rattle.manager.proofs.Making.{joined_counted}
use Rattle.manager.proofs.passes_seats.DeskSeat.join.Goals as goal

pub join-requires-clause-word : goal.join-requires-clause-word
join-requires-clause-word c = ap (λ (f : FollowerSeat). f.word) c.self.view_is ∙ c.requires.seat

pub join-requires-clause-other : goal.join-requires-clause-other
join-requires-clause-other c = ap (λ (f : FollowerSeat). f.word) c.other.view_is ∙ c.requires.other

pub invariant_of-self : goal.invariant_of-self
invariant_of-self c =
    joined_counted (λ xs ys place entry. (c.joined_has_both.ensures.both xs ys place entry).0) c.joined_has_both.ensures.count
    c.self.inside.recovered c.self.inside.made c.other.inside.recovered c.other.inside.made c.saturating_add-self-inside.result
    c.self.inside.follower c.other.inside.follower c.join.new.self c.join.ensures.both c.join.ensures.grows c.join.ensures.begins c.saturating_add-self-inside.ensures c.self.invariant c.other.invariant

pub returns : goal.returns
returns c =
    subst (λ (f : FollowerSeat). IsJoinedSeat f c.args.other c.join.new.self) c.self.view_is
    (subst (λ (f : FollowerSeat). IsJoinedSeat c.self.inside.follower f c.join.new.self) c.other.view_is
    (record { both = c.join.ensures.both; grows = c.join.ensures.grows; begins = c.join.ensures.begins; apart = c.join.ensures.apart }))
