use Rattle.std.proofs.Common.{◌≡◌, ◌∙◌, List, length, ap, sym, subst, arith}
use Rattle.std.proofs.lemmas.List.{length-map, length_push}
use Rattle.atomic_table.specs.Seated.{TableId}
use Rattle.commit_word.specs.Seats.{FollowerSeat}
use Rattle.notice_board.specs.Seats.{ViewerSeat}
use Rattle.manager.specs.Lists.{AreOf}
use Rattle.manager.specs.Passes.{PassValue, AreSeatsOf}
use Rattle.manager.specs.Starting.{first_seat}
use Rattle.manager.specs.inner.AtPlaces.{AreWords}
use Rattle.manager.proofs.Starting.{words_are, seats_are, followers_are, first_pass, last_is, rest_are}
use Rattle.manager.proofs.locked_desks.LockedDesks.start.Goals as goal

pub new-words-requires : goal.new-words-requires
new-words-requires g c =
    subst (λ (l : List TableId). AreWords g.N.Names.words l) (sym c.put_all.ensures.words) (words_are g.N.Names.words g.N.Names.named c.args.desks.items c.requires.desks.1)

pub new-pass-requires-clause-seats : goal.new-pass-requires-clause-seats
new-pass-requires-clause-seats g c = (
  ap length c.put_all.ensures.seats ∙ (length-map c.args.desks.items first_seat ∙ c.requires.desks.0),
  subst (λ (l : List FollowerSeat). AreSeatsOf g.N.Names.words g.N.Names.named l) (sym c.put_all.ensures.seats) (seats_are g.N.Names.words g.N.Names.named c.args.desks.items c.requires.desks.1),
)

pub new-pass-requires-clause-viewer : goal.new-pass-requires-clause-viewer
new-pass-requires-clause-viewer g c =
    last_is (λ (v : ViewerSeat). v.list ≡ g.N.Names.named.list) c.args.viewers.items c.pop.new.self.items c.in-Some.viewer c.in-Some.ensures.items c.requires.viewers.1

pub new-pass-requires-clause-spare : goal.new-pass-requires-clause-spare
new-pass-requires-clause-spare g c =
    rest_are (λ (v : ViewerSeat). v.list ≡ g.N.Names.named.list) c.args.viewers.items c.pop.new.self.items c.in-Some.viewer c.in-Some.ensures.items c.requires.viewers.1

pub new-followers-requires : goal.new-followers-requires
new-followers-requires g c =
    subst (λ (l : List FollowerSeat). AreOf g.N.Names.words l) (sym c.put_all.ensures.followers) (followers_are g.N.Names.words g.N.Names.named c.args.desks.items c.requires.desks.1)

pub returns-clause-first : goal.returns-clause-first
returns-clause-first g c =
    let long = ap length c.in-Some.ensures.items ∙ length_push c.pop.new.self.items c.in-Some.viewer in
    let left : length c.pop.new.self.items ≡ 8 = omega (arith, long, c.requires.viewers.0) in
    first_pass g.N.Names.words g.N.Names.named c.args.desks.items c.new-pass.result c.requires.desks.1 c.requires.desks.0
    (ap (λ (p : PassValue). p.seats) c.new-pass.ensures ∙ c.put_all.ensures.seats)
    (ap (λ (p : PassValue). p.places) c.new-pass.ensures ∙ left)

pub returns-clause-shown : goal.returns-clause-shown
returns-clause-shown g c shown all =
    ap (λ (p : PassValue). p.shown) c.new-pass.ensures
    ∙ last_is (λ (v : ViewerSeat). v.seen ≡ shown) c.args.viewers.items c.pop.new.self.items c.in-Some.viewer c.in-Some.ensures.items all
