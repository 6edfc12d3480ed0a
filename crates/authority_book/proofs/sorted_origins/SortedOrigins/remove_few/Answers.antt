use Rattle.std.proofs.Common.{◌∙◌, ap, sym, arith, [], ◌∷◌}
use Rattle.authority_book.specs.Origins.{without}
use Rattle.authority_book.proofs.Changes.{ascending-without}
use Rattle.authority_book.proofs.Removed.{without-next, without_none}
use Rattle.authority_book.proofs.sorted_origins.SortedOrigins.remove_few.Goals as goal

pub loop-origin-init : goal.loop-origin-init
loop-origin-init c = record {
  ascending = c.requires.ascending;
  items = sym (without_none c.args.self.now.items);
  room = omega arith;
}

pub loop-origin-preserved : goal.loop-origin-preserved
loop-origin-preserved c =
    let i = c.loop-origin.origin-index in
    let o = c.origin-item.result in
    let xs = c.loop-origin.self.items in
    record {
      ascending = rw c.remove_one.ensures.items (ascending-without xs (o ∷ []) c.loop-origin.invariant.ascending);
      items = c.remove_one.ensures.items ∙ (ap (λ l. without l (o ∷ [])) c.loop-origin.invariant.items
          ∙ sym (without-next c.args.self.now.items c.args.removed.now i o c.loop-origin-test.true c.origin-item.is));
      room = omega arith;
    }
