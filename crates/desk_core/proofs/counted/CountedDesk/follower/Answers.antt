use Rattle.std.proofs.Common.{◌≡◌, [], ℕ, List, ap, ◌∙◌, subst}
use Rattle.std.specs.Prelude.{IfOk}
use Rattle.commit_word.specs.Seats.{FollowerSeat, OwnerSeat}
use Rattle.desk_core.specs.Counted.{CountedView, follower_seat_of}
use Rattle.desk_core.proofs.counted.CountedDesk.follower.Goals as goal

pub returns-clause-same : goal.returns-clause-same
returns-clause-same g c = ap (λ (o : OwnerSeat). record { desk = c.self.inside.desk; word = o.word; recovered = o.recovered }) c.split.ensures.same ∙ c.self.view_is

pub returns-clause-given : goal.returns-clause-given
returns-clause-given g c =
    let owner : OwnerSeat = c.self.inside.owner in
    subst (λ (s : FollowerSeat). IfOk c.split.result (λ follower. follower ≡ s))
    (ap (λ (l : List (List ℕ)). record { word = owner.word; recovered = owner.recovered; seen = l; mine = [] }) c.self.invariant.0
    ∙ ap (λ (v : CountedView _). follower_seat_of v []) c.self.view_is)
    c.split.ensures.given
