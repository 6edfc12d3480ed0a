use Rattle.std.proofs.Common.{◌≡◌, ◌∙◌, ◌+◌, List, All, length, ap, sym, subst, arith, length-append}
use Rattle.std.proofs.lemmas.List.{length_push}
use Rattle.std.proofs.lemmas.List.Elements.{All-append, All-push}
use Rattle.notice_board.specs.Seats.{ViewerSeat}
use Rattle.manager.specs.Passes.{PassValue, IsJoined}
use Rattle.manager.proofs.Seating.{joined_seats_of}
use Rattle.manager.proofs.passes.Pass.join.Goals as goal

pub join_seats-requires-clause-words : goal.join_seats-requires-clause-words
join_seats-requires-clause-words g c = c.requires ∙ sym c.self.invariant.0

pub join_seats-requires-clause-count : goal.join_seats-requires-clause-count
join_seats-requires-clause-count g c = c.other.invariant.0 ∙ sym c.self.invariant.0

pub join-left-requires : goal.join-left-requires
join-left-requires g c = c.other.invariant.2 ∙ sym c.self.invariant.2

pub invariant_of-self : goal.invariant_of-self
invariant_of-self g c =
    let P = λ (viewer : ViewerSeat). viewer.list ≡ g.N.Names.named.list in
    let spare = c.self.inside.spare.items in
    let left = All-push P spare c.join-left.result c.self.invariant.3 (c.join-left.ensures.left ∙ c.self.invariant.2) in
    let put : All P c.put.new.spare.items = subst (λ (l : List ViewerSeat). All P l) (sym c.put.ensures) left in (
      c.join_seats.ensures.count ∙ c.self.invariant.0,
      joined_seats_of g.N.Names.words g.N.Names.named c.self.inside.seats.items c.other.inside.seats.items c.join_seats.new.own.items c.self.invariant.1 c.other.invariant.1
          (c.other.invariant.0 ∙ sym c.self.invariant.0) c.join_seats.ensures,
      c.join-left.ensures.list ∙ c.self.invariant.2,
      subst (λ (l : List ViewerSeat). All P l) (sym c.put_all.ensures) (All-append P c.put.new.spare.items c.other.inside.spare.items put c.other.invariant.3),
    )

pub returns : goal.returns
returns g c =
    let spare = c.self.inside.spare.items in
    let more = c.other.inside.spare.items in
    let one : length c.put.new.spare.items ≡ length spare + 1 = ap length c.put.ensures ∙ length_push spare c.join-left.result in
    let all : length c.put_all.new.spare.items ≡ length c.put.new.spare.items + length more = ap length c.put_all.ensures ∙ length-append c.put.new.spare.items more in
    let new : PassValue = record { seats = c.join_seats.new.own.items; shown = c.join-left.new.self.seen; places = length c.put_all.new.spare.items } in
    subst (λ (p : PassValue). IsJoined p c.args.other new) c.self.view_is
    (subst (λ (p : PassValue). IsJoined (record { seats = c.self.inside.seats.items; shown = c.self.inside.viewer.seen; places = length spare }) p new) c.other.view_is
    (record { seats = c.join_seats.ensures; grows = c.join-left.ensures.seen; begins = c.join-left.ensures.begins; places = omega (arith, one, all) }))
