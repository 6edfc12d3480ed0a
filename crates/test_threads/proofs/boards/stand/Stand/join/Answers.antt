use Rattle.std.proofs.Common.{◌≡◌, ◌∙◌, rules}
use Rattle.std.proofs.lemmas.List.Elements.{All-pop, All-set}
use Rattle.notice_board.specs.Seats.{ViewerSeat}
use Rattle.test_threads.proofs.boards.stand.Stand.join.Goals as goal

pub invariant_of-self-2 : goal.invariant_of-self-2
invariant_of-self-2 c =
    let list = c.self.inside.board.list in
    let parts = All-pop (λ (viewer : ViewerSeat). viewer.list ≡ list) c.self.inside.viewers.items c.pop.new.self.items c.pop.result c.pop.ensures.items c.self.invariant in
    let was : c.index_mut.result.now.list ≡ list = search rules in
    All-set (λ (viewer : ViewerSeat). viewer.list ≡ list) c.pop.new.self.items c.in_ok-place.place c.join.new.self (c.join.ensures.list ∙ was) parts.0
