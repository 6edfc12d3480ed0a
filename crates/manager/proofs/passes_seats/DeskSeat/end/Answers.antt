use Rattle.std.proofs.Common.{◌≡◌, ◌∙◌, ◌+◌, ℕ, List, length, ap, sym, subst}
use Rattle.commit_word.specs.Seats.{FollowerSeat}
use Rattle.desk_core.specs.Counted.{CountedView}
use Rattle.manager.specs.inner.AtPlaces.{AreWithin, counted_up}
use Rattle.manager.specs.Ended.{IsAllMade}
use Rattle.manager.proofs.Making.{all_made, all_counted}
use Rattle.manager.proofs.passes_seats.DeskSeat.end.Goals as goal

pub returns-then-are_all-clause-made : goal.returns-then-are_all-clause-made
returns-then-are_all-clause-made g c =
    let records = c.args.desk.now.desk.records in
    let was = c.self.inside.follower in
    let loaded = c.load.new.self in
    let next = c.self-2.inside.follower in
    let placed = c.load.ensures.placed in
    let mine : loaded.mine ≡ was.mine = ap (λ (s : FollowerSeat). s.mine) c.load.ensures.rest in
    let same : next ≡ record loaded { seen = records } = c.self-2.view_is ∙ c.learn.ensures.told in
    let all = c.are_all.ensures c.if-are_all.true in
    let count : length loaded.mine + loaded.recovered ≡ length records =
    all_counted c.self-2.inside.made c.self-2.inside.recovered (length records) (length loaded.mine) loaded.recovered
    (subst (λ (s : FollowerSeat). c.self-2.inside.made ≡ counted_up (length s.mine)) same c.self-2.invariant.1)
    (c.self-2.invariant.0 ∙ ap (λ (s : FollowerSeat). s.recovered) same)
    (all.0 ∙ (c.len.ensures ∙ ap (λ (v : CountedView _). length v.desk.records) c.learn.ensures.same)) all.1 in
    subst (λ (s : FollowerSeat). IsAllMade s.recovered s.mine records) (c.load.ensures.rest ∙ ap (λ (s : FollowerSeat). record s { seen = loaded.seen }) c.self.view_is)
    (all_made c.as_many_as_places_are_all.ensures loaded.recovered loaded.mine was.seen loaded.seen records placed.rises placed.past placed.stands
    (subst (λ (m : List (ℕ × List ℕ)). AreWithin m (length was.seen)) (sym mine) c.self.invariant.2) c.load.ensures.grows c.learn.ensures.grows count)
