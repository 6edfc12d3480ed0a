use Rattle.std.proofs.Common.{◌≡◌}
use Rattle.authority_book.specs.Fold.{after_all, AcceptedInTurn}
use Rattle.test_press.proofs.publications.gathering.in_turn.Given as goal

abbrev pub invariant-loop-command : goal.invariant-loop-command
invariant-loop-command l = record {
  is : l.after.settings ≡ after_all l.config.settings l.taken.items;
  accepted : AcceptedInTurn l.config.settings l.taken.items;
}
