use Rattle.std.proofs.Common.{◌≡◌, false, ◌∙◌, ap, sym, arith}
use Rattle.authority_book.specs.Origins.{is_there, with_one}
use Rattle.authority_book.proofs.Ascending.{with_each-next, next_not_there, ascending-with_one}
use Rattle.authority_book.proofs.sorted_origins.SortedOrigins.insert_each.Goals as goal

pub insert_one-requires-clause-absent : goal.insert_one-requires-clause-absent
insert_one-requires-clause-absent c =
    let i = c.loop-origin.origin-index in
    let o = c.origin-item.result in
    ap (λ xs. is_there xs o) c.loop-origin.invariant.items
    ∙ next_not_there c.args.self.now.items c.args.added.now i o c.requires.distinct c.loop-origin-test.true c.origin-item.is

pub loop-origin-preserved : goal.loop-origin-preserved
loop-origin-preserved c =
    let i = c.loop-origin.origin-index in
    let o = c.origin-item.result in
    let xs = c.loop-origin.self.items in
    let absent : is_there xs o ≡ false = ap (λ l. is_there l o) c.loop-origin.invariant.items
    ∙ next_not_there c.args.self.now.items c.args.added.now i o c.requires.distinct c.loop-origin-test.true c.origin-item.is in
    record {
      ascending = rw c.insert_one.ensures.items (ascending-with_one xs o c.loop-origin.invariant.ascending absent);
      items = c.insert_one.ensures.items ∙ (ap (λ l. with_one l o) c.loop-origin.invariant.items
          ∙ sym (with_each-next c.args.self.now.items c.args.added.now i o c.loop-origin-test.true c.origin-item.is));
      room = omega arith;
    }
