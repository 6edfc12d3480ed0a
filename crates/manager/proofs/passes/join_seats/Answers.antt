use Rattle.std.proofs.Common.{◌≡◌, ◌∙◌, ◌<◌, ℕ, length, ap, sym, subst, arith}
use Rattle.std.proofs.lemmas.List.{take_all}
use Rattle.commit_word.specs.Seats.{FollowerSeat}
use Rattle.manager.specs.Lists.{seat_at, no_seat}
use Rattle.manager.proofs.Knowing.{read_seat}
use Rattle.manager.proofs.Seating.{popped, JoinedFrom, joined_popped, joined_start, joined_all}
use Rattle.manager.proofs.passes.join_seats.Goals as goal

pub loop-init : goal.loop-init
loop-init g c = (
  omega (arith, c.requires.count),
  sym (take_all (length c.args.others.items) c.args.others.items (omega arith)),
  subst (λ (n : ℕ). JoinedFrom n c.args.own.now.items c.args.others.items c.args.own.now.items) (sym c.requires.count)
      (joined_start c.args.own.now.items c.args.others.items c.requires.count),
)

pub loop-preserved : goal.loop-preserved
loop-preserved g c =
    let one = c.args.own.now.items in
    let others = c.args.others.items in
    let old = c.loop.others.items in
    let new = c.pop.new.self.items in
    let last = popped others old new c.in-Some.other c.loop.invariant.1 c.in-Some.ensures.items in
    let here : c.len-place.result ≡ length new = c.len-place.ensures ∙ c.pop.new.self.ok.0 in
    let within : c.len-place.result < length one = omega (arith, here, last.2, c.requires.count) in
    let inside : c.len-place.result < length c.loop.own.items = omega (arith, within, c.loop.invariant.2.count) in (
      omega (arith, last.3, c.loop.invariant.0),
      last.0,
      joined_popped one others old new c.loop.own.items c.in-Some.other c.index_mut.result.now c.join.new.self c.len-place.result c.loop.invariant.1 c.in-Some.ensures.items here within c.loop.invariant.2
          (read_seat c.loop.own.items c.len-place.result c.index_mut.result.now inside c.index_mut.ensures.value) c.join.ensures,
    )

pub returns : goal.returns
returns g c =
    let none : length c.loop.others.items ≡ 0 = omega (arith, c.loop.invariant.0, c.loop-test.false) in
    joined_all c.args.own.now.items c.args.others.items c.loop.own.items
    (subst (λ (n : ℕ). JoinedFrom n c.args.own.now.items c.args.others.items c.loop.own.items) none c.loop.invariant.2)

pub join-requires-clause-seat : goal.join-requires-clause-seat
join-requires-clause-seat g c =
    let last = popped c.args.others.items c.loop.others.items c.pop.new.self.items c.in-Some.other c.loop.invariant.1 c.in-Some.ensures.items in
    let here : c.len-place.result ≡ length c.pop.new.self.items = c.len-place.ensures ∙ c.pop.new.self.ok.0 in
    let within : c.len-place.result < length c.args.own.now.items = omega (arith, here, last.2, c.requires.count) in
    let inside : c.len-place.result < length c.loop.own.items = omega (arith, within, c.loop.invariant.2.count) in
    ap (λ (s : FollowerSeat). s.word) (read_seat c.loop.own.items c.len-place.result c.index_mut.result.now inside c.index_mut.ensures.value
    ∙ c.loop.invariant.2.before c.len-place.result (omega (arith, here, last.3)))
    ∙ ((c.requires.seats c.len-place.result within).word ∙ sym c.at.ensures)

pub join-requires-clause-other : goal.join-requires-clause-other
join-requires-clause-other g c =
    let last = popped c.args.others.items c.loop.others.items c.pop.new.self.items c.in-Some.other c.loop.invariant.1 c.in-Some.ensures.items in
    let here : c.len-place.result ≡ length c.pop.new.self.items = c.len-place.ensures ∙ c.pop.new.self.ok.0 in
    ap (λ (s : FollowerSeat). s.word) (last.1 no_seat ∙ ap (λ (n : ℕ). seat_at c.args.others.items n) (sym here))
    ∙ ((c.requires.others c.len-place.result (omega (arith, here, last.2))).word ∙ sym c.at.ensures)
