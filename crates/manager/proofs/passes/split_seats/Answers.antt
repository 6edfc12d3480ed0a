use Rattle.std.proofs.Common.{◌≡◌, ◌∙◌, ◌++◌, ◌∷◌, [], ◌<◌, List, map, length, take, ap, sym, subst, arith}
use Rattle.std.specs.Prelude.{slice_set}
use Rattle.std.proofs.lemmas.List.{take_all, take_more, map_push, length-map, length-take-le}
use Rattle.commit_word.specs.Seats.{FollowerSeat}
use Rattle.manager.specs.Lists.{seat_at, no_seat}
use Rattle.manager.specs.Passes.{unmade}
use Rattle.manager.proofs.Knowing.{read_seat}
use Rattle.manager.proofs.Seating.{set_same}
use Rattle.manager.proofs.passes.split_seats.Goals as goal

pub split-seat-requires : goal.split-seat-requires
split-seat-requires g c =
    let place = c.loop-place.place in
    let within : place < length c.args.own.now.items = omega (arith, c.loop-place-test.true, c.loop-place.auto.place-end) in
    let inside : place < length c.loop-place.own.items = subst (λ (l : List FollowerSeat). place < length l) (sym c.loop-place.invariant.0) within in
    let was = read_seat c.loop-place.own.items place c.index_mut.result.now inside c.index_mut.ensures.value ∙ ap (λ (l : List FollowerSeat). seat_at l place) c.loop-place.invariant.0 in
    ap (λ (s : FollowerSeat). s.word) was ∙ ((c.requires.seats place within).word ∙ sym c.at.ensures)

pub push_reserved-requires : goal.push_reserved-requires
push_reserved-requires g c =
    let own = c.args.own.now.items in
    let place = c.loop-place.place in
    let within : place < length own = omega (arith, c.loop-place-test.true, c.loop-place.auto.place-end) in
    let long : length c.loop-place.into.items ≡ place = ap length c.loop-place.invariant.1 ∙ (length-map (take place own) unmade ∙ length-take-le place own (omega (arith, within))) in
    omega (arith, long, within, c.requires.room, c.loop-place.invariant.2, c.loop-place.into.ok.0)

pub loop-place-preserved : goal.loop-place-preserved
loop-place-preserved g c =
    let own = c.args.own.now.items in
    let place = c.loop-place.place in
    let items = c.loop-place.invariant.0 in
    let within : place < length own = omega (arith, c.loop-place-test.true, c.loop-place.auto.place-end) in
    let inside : place < length c.loop-place.own.items = subst (λ (l : List FollowerSeat). place < length l) (sym items) within in
    let was = read_seat c.loop-place.own.items place c.index_mut.result.now inside c.index_mut.ensures.value ∙ ap (λ (l : List FollowerSeat). seat_at l place) items in (
      ap (λ (s : FollowerSeat). slice_set c.loop-place.own.items place s) c.split-seat.ensures.same
          ∙ (set_same c.loop-place.own.items place c.index_mut.result.now inside c.index_mut.ensures.value ∙ items),
      c.push_reserved.ensures.items
          ∙ (ap (λ (l : List FollowerSeat). l ++ c.split-seat.result ∷ []) c.loop-place.invariant.1
          ∙ (ap (λ (s : FollowerSeat). map unmade (take place own) ++ s ∷ []) (c.split-seat.ensures.given ∙ ap unmade was)
          ∙ (sym (map_push unmade (take place own) (seat_at own place)) ∙ ap (map unmade) (sym (take_more own place no_seat within))))),
      c.push_reserved.ensures.capacity ∙ c.loop-place.invariant.2,
    )

pub returns-clause-given : goal.returns-clause-given
returns-clause-given g c =
    c.loop-place.invariant.1 ∙ ap (map unmade) (take_all c.loop-place.place c.args.own.now.items (omega (arith, c.loop-place-test.false, c.loop-place.auto.place-end)))
