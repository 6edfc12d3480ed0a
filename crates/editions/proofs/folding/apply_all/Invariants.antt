use Rattle.std.proofs.Common.{◌≡◌, length}
use Rattle.std.specs.Vec.Iter.{into_iter_items, into_iter_len}
use Rattle.authority_book.specs.Fold.{after_all, AcceptedInTurn}
use Rattle.editions.proofs.folding.apply_all.Given as goal

abbrev pub invariant-loop-command : goal.invariant-loop-command
invariant-loop-command l = record {
  rest : after_all l.config.settings (into_iter_items l.command-iterator) ≡ after_all l.fn.config.settings l.fn.commands.items;
  accepted : AcceptedInTurn l.config.settings (into_iter_items l.command-iterator);
  left : into_iter_len l.command-iterator ≡ length (into_iter_items l.command-iterator);
}
