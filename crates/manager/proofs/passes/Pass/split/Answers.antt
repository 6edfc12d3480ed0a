use Rattle.std.proofs.Common.{◌≡◌, ◌∙◌, ◌<◌, ◌-◌, ℕ, List, All, map, length, ap, sym, subst, arith}
use Rattle.std.proofs.lemmas.List.{length-map, length-take-le}
use Rattle.std.proofs.lemmas.List.Elements.{All-nil}
use Rattle.std.proofs.lemmas.Result.{err_from_is_err_and}
use mathlib.Core.List.{IsPrefix}
use Rattle.commit_word.specs.Seats.{FollowerSeat}
use Rattle.notice_board.specs.Seats.{ViewerSeat}
use Rattle.manager.specs.Passes.{PassValue, unmade, AreSeatsOf}
use Rattle.manager.proofs.Seating.{split_seats_of}
use Rattle.manager.proofs.passes.Pass.split.Goals as goal

pub next_viewer-requires-clause-some : goal.next_viewer-requires-clause-some
next_viewer-requires-clause-some g c = subst (λ (p : PassValue). 0 < p.places) (sym c.self.view_is) c.requires.place

pub next_viewer-requires-clause-list : goal.next_viewer-requires-clause-list
next_viewer-requires-clause-list g c k d within = c.self.invariant.3 k d within ∙ sym c.self.invariant.2

pub split_seats-requires-clause-words : goal.split_seats-requires-clause-words
split_seats-requires-clause-words g c = c.requires.words ∙ sym c.self.invariant.0

pub returns-in_err-next-clause-same : goal.returns-in_err-next-clause-same
returns-in_err-next-clause-same g c =
    let p = err_from_is_err_and c.from_residual-in_err-next.result c.from_residual-in_err-next.ensures.1 in
    let same : record { seats = c.self.inside.seats.items; shown = c.self.inside.viewer.seen; places = length c.next_viewer.new.spare.items } ≡ c.args.self.now =
    ap (λ (l : List ViewerSeat). record { seats = c.self.inside.seats.items; shown = c.self.inside.viewer.seen; places = length l }) c.in_err-next.ensures.same ∙ c.self.view_is in
    rw p.1 same

pub returns-clause-taken : goal.returns-clause-taken
returns-clause-taken g c =
    let spare = c.self.inside.spare.items in
    let some : 0 < length spare = subst (λ (p : PassValue). 0 < p.places) (sym c.self.view_is) c.requires.place in
    let one : length c.next_viewer.new.spare.items ≡ length spare - 1 = ap length c.in_ok-next.ensures.taken ∙ length-take-le (length spare - 1) spare (omega (arith, some)) in
    ap (λ (l : List FollowerSeat). record { seats = l; shown = c.self.inside.viewer.seen; places = length c.next_viewer.new.spare.items }) c.split_seats.ensures.same
    ∙ (ap (λ (n : ℕ). record { seats = c.self.inside.seats.items; shown = c.self.inside.viewer.seen; places = n }) one
    ∙ ap (λ (p : PassValue). record p { places = p.places - 1 }) c.self.view_is)

pub returns-clause-given : goal.returns-clause-given
returns-clause-given g c = record {
  seats = c.split_seats.ensures.given ∙ ap (λ (p : PassValue). map unmade p.seats) c.self.view_is;
  shown = subst (λ (p : PassValue). IsPrefix p.shown c.in_ok-next.next.seen) c.self.view_is c.in_ok-next.ensures.next.1;
  places = ap length c.in_ok-room.ensures.items;
}

pub invariant_of-result : goal.invariant_of-result
invariant_of-result g c = (
  ap length c.split_seats.ensures.given ∙ (length-map c.self.inside.seats.items unmade ∙ c.self.invariant.0),
  subst (λ (l : List FollowerSeat). AreSeatsOf g.N.Names.words g.N.Names.named l) (sym c.split_seats.ensures.given)
      (split_seats_of g.N.Names.words g.N.Names.named c.self.inside.seats.items c.self.invariant.1),
  c.in_ok-next.ensures.next.0 ∙ c.self.invariant.2,
  subst (λ (l : List ViewerSeat). All (λ viewer. viewer.list ≡ g.N.Names.named.list) l) (sym c.in_ok-room.ensures.items) (All-nil (λ (viewer : ViewerSeat). viewer.list ≡ g.N.Names.named.list)),
)
