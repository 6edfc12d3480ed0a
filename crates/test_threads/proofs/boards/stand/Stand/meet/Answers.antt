use Rattle.std.proofs.Common.{◌≡◌, ◌∙◌, ◌++◌, ◌∷◌, [], rules, subst}
use Rattle.std.specs.Prelude.{IfSome, Option, slice_set}
use Rattle.std.proofs.lemmas.List.Elements.{All-pop, All-push, All-same, All-set}
use Rattle.notice_board.specs.Seats.{ViewerSeat}
use Rattle.test_threads.proofs.boards.stand.Stand.meet.Goals as goal

pub invariant_of-self-in_err-meet : goal.invariant_of-self-in_err-meet
invariant_of-self-in_err-meet c =
    let list = c.self.inside.board.list in
    let parts = All-pop (λ (viewer : ViewerSeat). viewer.list ≡ list) c.self.inside.viewers.items c.pop.new.self.items c.pop.result c.pop.ensures.items c.self.invariant in
    let was : c.index_mut.result.now.list ≡ list = search rules in
    All-set (λ (viewer : ViewerSeat). viewer.list ≡ list) c.pop.new.self.items c.in_ok-place.place c.meet.new.self (c.meet.ensures.list ∙ was) parts.0

pub invariant_of-self-2 : goal.invariant_of-self-2
invariant_of-self-2 c =
    let list = c.self.inside.board.list in
    let parts = All-pop (λ (viewer : ViewerSeat). viewer.list ≡ list) c.self.inside.viewers.items c.pop.new.self.items c.pop.result c.pop.ensures.items c.self.invariant in
    let was : c.index_mut.result.now.list ≡ list = search rules in
    let all = All-set (λ (viewer : ViewerSeat). viewer.list ≡ list) c.pop.new.self.items c.in_ok-place.place c.meet.new.self (c.meet.ensures.list ∙ was) parts.0 in
    let own : c.in-Some.last.list ≡ list =
    subst (λ (popped : Option ViewerSeat). IfSome popped (λ viewer. viewer.list ≡ list)) c.in-Some.is parts.1 in
    let kept = slice_set c.pop.new.self.items c.in_ok-place.place c.meet.new.self in
    All-same (λ (viewer : ViewerSeat). viewer.list ≡ list) c.push.new.self.items (kept ++ c.in-Some.last ∷ []) c.in_ok-push.ensures.items
    (All-push (λ (viewer : ViewerSeat). viewer.list ≡ list) kept c.in-Some.last all own)
