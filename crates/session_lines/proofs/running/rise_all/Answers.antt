use Rattle.std.proofs.Common.{◌≡◌, ◌∙◌, [], List, ℕ, length, reverse, refl, ap, sym, subst, arith}
use Rattle.std.proofs.lemmas.List.{length_push, nil_from_length}
use Rattle.session_lines.proofs.Seating.{RisenSoFar, risen_start, risen_more_as, risen_all}
use Rattle.session_lines.proofs.running.rise_all.Goals as goal

pub loop-init : goal.loop-init
loop-init g c = record {
  long = omega arith;
  passes = ap length c.requires.passes.0;
  passes_room = refl;
  sessions = ap length c.requires.sessions.0;
  sessions_room = refl;
  outcomes = ap length c.requires.outcomes.0;
  outcomes_room = refl;
  risen = risen_start (reverse c.args.seats.items) c.args.passes.now.items c.args.sessions.now.items c.args.outcomes.now.items c.requires.passes.0 c.requires.sessions.0 c.requires.outcomes.0;
}

pub loop-preserved : goal.loop-preserved
loop-preserved g c =
    let so = c.loop.invariant in
    let less = ap length c.in-Some.ensures.items ∙ length_push c.pop.new.self.items c.in-Some.seat in
    let one = ap length c.push_reserved.ensures.items ∙ length_push c.loop.passes.items c.rise-risen.result.pass in
    let two = ap length c.push_reserved-in-loop.ensures.items ∙ length_push c.loop.sessions.items c.rise-risen.result.ends in
    let three = ap length c.push_reserved-in-loop-2.ensures.items ∙ length_push c.loop.outcomes.items c.rise-risen.result.outcome in record {
      long = omega (arith, less, so.long);
      passes = omega (arith, one, so.passes);
      passes_room = c.push_reserved.ensures.capacity ∙ so.passes_room;
      sessions = omega (arith, two, so.sessions);
      sessions_room = c.push_reserved-in-loop.ensures.capacity ∙ so.sessions_room;
      outcomes = omega (arith, three, so.outcomes);
      outcomes_room = c.push_reserved-in-loop-2.ensures.capacity ∙ so.outcomes_room;
      risen = risen_more_as (reverse c.args.seats.items) c.loop.seats.items c.pop.new.self.items c.loop.passes.items c.push_reserved.new.self.items c.loop.sessions.items c.push_reserved-in-loop.new.self.items
          c.loop.outcomes.items c.push_reserved-in-loop-2.new.self.items c.in-Some.seat c.rise-risen.result.pass c.rise-risen.result.ends c.rise-risen.result.outcome
          c.in-Some.ensures.items c.push_reserved.ensures.items c.push_reserved-in-loop.ensures.items c.push_reserved-in-loop-2.ensures.items so.risen c.rise-risen.ensures;
    }

pub returns : goal.returns
returns g c =
    let so = c.loop.invariant in
    let none : c.loop.seats.items ≡ [] = nil_from_length c.loop.seats.items (omega (arith, so.long, c.loop-test.false, c.loop.auto.counter-end, c.args.seats.ok.0)) in
    risen_all (reverse c.args.seats.items) c.loop.seats.items c.loop.passes.items c.loop.sessions.items c.loop.outcomes.items none so.risen
