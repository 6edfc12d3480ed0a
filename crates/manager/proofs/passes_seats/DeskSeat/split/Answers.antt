use Rattle.std.proofs.Common.{◌∙◌, ap, sym, subst}
use Rattle.commit_word.specs.Seats.{FollowerSeat}
use Rattle.manager.specs.Passes.{unmade}
use Rattle.manager.proofs.Making.{IsCounted, none_counted}
use Rattle.manager.proofs.passes_seats.DeskSeat.split.Goals as goal

pub split-requires : goal.split-requires
split-requires c = ap (λ (f : FollowerSeat). f.word) c.self.view_is ∙ c.requires

pub invariant_of-self : goal.invariant_of-self
invariant_of-self c = subst (λ (f : FollowerSeat). IsCounted c.self.inside.recovered c.self.inside.made f) (sym c.split.ensures.same) c.self.invariant

pub invariant_of-result : goal.invariant_of-result
invariant_of-result c =
    none_counted c.self.inside.recovered c.in-Ok.follower (c.self.invariant.0 ∙ sym (ap (λ (f : FollowerSeat). f.recovered) c.in-Ok.ensures.given)) (ap (λ (f : FollowerSeat). f.mine) c.in-Ok.ensures.given)

pub returns-clause-same : goal.returns-clause-same
returns-clause-same c = c.split.ensures.same ∙ c.self.view_is

pub returns-clause-given : goal.returns-clause-given
returns-clause-given c = c.in-Ok.ensures.given ∙ ap unmade c.self.view_is
