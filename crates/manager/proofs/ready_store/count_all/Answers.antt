use Rattle.std.proofs.Common.{◌≡◌, ◌∙◌, ◌++◌, ◌∷◌, [], ℕ, List, length, drop, reverse, ap, sym, subst, arith}
use Rattle.std.proofs.lemmas.List.{take_all, length_push, nil_from_length}
use Rattle.desk_core.specs.View.{View}
use Rattle.desk_core.specs.Counted.{CountedView}
use Rattle.manager.specs.Starting.{IsCounted, AreCounted}
use Rattle.manager.proofs.Seating.{popped}
use Rattle.manager.proofs.Counting.{counted_none, counted_popped, given_back}
use Rattle.manager.proofs.ready_store.count_all.Goals as goal

pub loop-init : goal.loop-init
loop-init g c = record {
  long = omega arith;
  front = sym (take_all (length c.args.desks.items) c.args.desks.items (omega arith));
  room = omega (arith, c.args.desks.ok.0, c.args.desks.ok.1);
  made = ap length c.in-Ok.ensures.items;
  made_room = omega (arith, c.args.desks.ok.0, c.len.ensures, c.in-Ok.ensures.capacity);
  counted = subst (λ (l : List (CountedView _)). AreCounted (drop (length c.args.desks.items) c.args.desks.items) (reverse l)) (sym c.in-Ok.ensures.items)
      (counted_none c.args.desks.items);
}

pub loop-preserved : goal.loop-preserved
loop-preserved g c =
    let so = c.loop.invariant in
    let all = c.args.desks.items in
    let new = c.pop.new.self.items in
    let desk = c.in-Some.desk in
    let one = c.in-Ok-new.counted in
    let front = c.in-Some.ensures.items in
    let pushed = c.push_reserved.ensures.items in
    let less = ap length front ∙ length_push new desk in
    let more = ap length pushed ∙ length_push c.loop.opened.items one in
    let is : IsCounted desk one = record {
      desk_is = ap (λ (v : CountedView _). v.desk) c.in-Ok-new.ensures.counted;
      recovered = ap (λ (v : CountedView _). v.recovered) c.in-Ok-new.ensures.counted;
    } in record {
      long = omega (arith, less, so.long);
      front = (popped all c.loop.desks.items new desk so.front front).0;
      room = omega (arith, so.room, c.in-Some.ensures.capacity);
      made = omega (arith, more, so.made);
      made_room = omega (arith, so.made_room, c.push_reserved.ensures.capacity);
      counted = subst (λ (l : List (CountedView _)). AreCounted (drop (length new) all) (reverse l)) (sym pushed)
          (counted_popped all c.loop.desks.items new desk c.loop.opened.items one so.front front so.counted is);
    }

pub returns-clause-counted : goal.returns-clause-counted
returns-clause-counted g c =
    let so = c.loop.invariant in
    let all = c.args.desks.items in
    let none : length c.loop.desks.items ≡ 0 = omega (arith, so.long, c.loop-test.false, c.loop.auto.counter-end, c.args.desks.ok.0) in
    subst (λ (l : List (CountedView _)). AreCounted all l) (sym c.reverse.ensures.items)
    (subst (λ (n : ℕ). AreCounted (drop n all) (reverse c.loop.opened.items)) none so.counted)

pub returns-in-Err-new-clause-refused : goal.returns-in-Err-new-clause-refused
returns-in-Err-new-clause-refused g c =
    let so = c.loop.invariant in
    let new = c.pop.new.self.items in
    given_back c.args.desks.items c.loop.desks.items new c.push_reserved-in-Err-new.new.self.items c.give_back.new.desks.items c.in-Some.desk c.loop.opened.items
    so.front c.in-Some.ensures.items so.counted (c.push_reserved-in-Err-new.ensures.items ∙ ap (λ (d : View _). new ++ d ∷ []) c.in-Err-new.ensures.refused) c.give_back.ensures

pub returns-clause-room : goal.returns-clause-room
returns-clause-room g c =
    let so = c.loop.invariant in
    let none : length c.loop.desks.items ≡ 0 = omega (arith, so.long, c.loop-test.false, c.loop.auto.counter-end, c.args.desks.ok.0) in
    (nil_from_length c.loop.desks.items none, so.room)
