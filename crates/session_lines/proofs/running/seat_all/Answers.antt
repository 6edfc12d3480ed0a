use Rattle.std.proofs.Common.{◌≡◌, ◌≤◌, ◌∙◌, [], List, ℕ, length, drop, reverse, refl, ap, sym, subst, arith}
use Rattle.std.proofs.lemmas.List.{take_all, length_push, nil_from_length}
use Rattle.session_lines.specs.inner.Seats.{AreSeated}
use Rattle.session_lines.proofs.Seating.{popped, seated_none, seated_popped}
use Rattle.session_lines.proofs.running.seat_all.Goals as goal

pub loop-init : goal.loop-init
loop-init g c =
    let passes = c.args.passes.now.items in
    let sessions = c.args.sessions.now.items in record {
      long = omega arith;
      same = c.requires.count;
      passes = sym (take_all (length passes) passes (omega arith));
      passes_room = refl;
      sessions = sym (take_all (length sessions) sessions (omega arith));
      sessions_room = refl;
      seats = ap length c.requires.seats.0;
      seats_room = refl;
      sit = seated_none passes sessions c.args.seats.now.items c.requires.seats.0 c.requires.count;
    }

pub loop-preserved : goal.loop-preserved
loop-preserved g c =
    let so = c.loop.invariant in
    let less = ap length c.in-Some.ensures.items ∙ length_push c.pop.new.self.items c.in-Some.ends in
    let fewer = ap length c.in-Some-pop.ensures.items ∙ length_push c.pop-in-loop.new.self.items c.in-Some-pop.pass in
    let more = ap length c.push_reserved.ensures.items ∙ length_push c.loop.seats.items c.seated.result in record {
      long = omega (arith, less, so.long);
      same = omega (arith, less, fewer, so.same);
      passes = (popped c.args.passes.now.items c.loop.passes.items c.pop-in-loop.new.self.items c.in-Some-pop.pass so.passes c.in-Some-pop.ensures.items).0;
      passes_room = c.in-Some-pop.ensures.capacity ∙ so.passes_room;
      sessions = (popped c.args.sessions.now.items c.loop.sessions.items c.pop.new.self.items c.in-Some.ends so.sessions c.in-Some.ensures.items).0;
      sessions_room = c.in-Some.ensures.capacity ∙ so.sessions_room;
      seats = omega (arith, more, so.seats);
      seats_room = c.push_reserved.ensures.capacity ∙ so.seats_room;
      sit = subst (λ (l : List _). AreSeated (drop (length c.pop.new.self.items) c.args.passes.now.items) (drop (length c.pop.new.self.items) c.args.sessions.now.items) (reverse l)) (sym c.push_reserved.ensures.items)
          (seated_popped c.args.passes.now.items c.loop.passes.items c.pop-in-loop.new.self.items c.args.sessions.now.items c.loop.sessions.items c.pop.new.self.items c.in-Some-pop.pass c.in-Some.ends c.seated.result
          c.loop.seats.items so.passes c.in-Some-pop.ensures.items so.sessions c.in-Some.ensures.items so.same so.sit c.seated.ensures);
    }

pub returns : goal.returns
returns g c =
    let so = c.loop.invariant in
    let none : length c.loop.sessions.items ≡ 0 = omega (arith, so.long, c.loop-test.false, c.loop.auto.counter-end, c.args.sessions.now.ok.0) in
    let passes = c.args.passes.now.items in
    let sessions = c.args.sessions.now.items in record {
      passes = (nil_from_length c.loop.passes.items (omega (arith, none, so.same)), omega (arith, so.passes_room, c.args.passes.now.ok.0));
      sessions = (nil_from_length c.loop.sessions.items none, omega (arith, so.sessions_room, c.args.sessions.now.ok.0));
      seats = subst (λ (n : ℕ). AreSeated (drop n passes) (drop n sessions) (reverse c.loop.seats.items)) none so.sit;
      each = omega (arith, so.seats, so.long, none);
    }
