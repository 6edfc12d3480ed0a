use Rattle.std.proofs.Common.{ℕ, List, ap, ◌∙◌, sym, subst}
use mathlib.Core.List.{IsPrefix}
use Rattle.commit_word.specs.Seats.{FollowerSeat, OwnerSeat}
use Rattle.desk_core.specs.Counted.{CountedView}
use Rattle.desk_core.proofs.counted.CountedDesk.tell.Goals as goal

pub returns-clause-same : goal.returns-clause-same
returns-clause-same g c = ap (λ (o : OwnerSeat). record { desk = c.self.inside.desk; word = o.word; recovered = o.recovered }) c.tell_whole.ensures.same ∙ c.self.view_is

pub returns-clause-told : goal.returns-clause-told
returns-clause-told g c =
    c.tell_whole.ensures.told
    ∙ ap (λ (l : List (List ℕ)). record c.args.follower.now { seen = l }) (c.self.invariant.0 ∙ ap (λ (v : CountedView _). v.desk.records) c.self.view_is)

pub returns-clause-grows : goal.returns-clause-grows
returns-clause-grows g c = subst (λ (f : FollowerSeat). IsPrefix c.args.follower.now.seen f.seen) (sym c.tell_whole.ensures.told) c.tell_whole.ensures.grows
