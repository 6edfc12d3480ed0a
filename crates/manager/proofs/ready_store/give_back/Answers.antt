use Rattle.std.proofs.Common.{◌≡◌, ◌∙◌, ◌++◌, [], length, refl, ap, sym, arith, append-nil}
use Rattle.std.proofs.lemmas.List.{length_push, nil_from_length}
use Rattle.manager.proofs.Counting.{unworded, back_popped}
use Rattle.manager.proofs.ready_store.give_back.Goals as goal

pub loop-init : goal.loop-init
loop-init g c = record {
  long = omega arith;
  room = omega (arith, c.requires, c.args.desks.now.ok.0, c.args.opened.ok.0);
  back = refl;
}

pub loop-preserved : goal.loop-preserved
loop-preserved g c =
    let so = c.loop.invariant in
    let less = ap length c.in-Some.ensures.items ∙ length_push c.pop.new.self.items c.in-Some.counted in
    let more = ap length c.push_reserved.ensures.items ∙ length_push c.loop.desks.items c.into_desk.result in
    record {
      long = omega (arith, less, so.long);
      room = omega (arith, less, more, so.room, c.push_reserved.ensures.capacity);
      back = back_popped c.loop.desks.items _ c.push_reserved.new.self.items c.loop.opened.items c.pop.new.self.items c.in-Some.counted c.into_desk.result
          c.in-Some.ensures.items c.into_desk.ensures c.push_reserved.ensures.items so.back;
    }

pub returns : goal.returns
returns g c =
    let so = c.loop.invariant in
    let none : c.loop.opened.items ≡ [] = nil_from_length c.loop.opened.items (omega (arith, so.long, c.loop-test.false, c.loop.auto.counter-end, c.args.opened.ok.0)) in
    sym (append-nil c.loop.desks.items) ∙ (ap (λ (l : _). c.loop.desks.items ++ unworded l) (sym none) ∙ so.back)
