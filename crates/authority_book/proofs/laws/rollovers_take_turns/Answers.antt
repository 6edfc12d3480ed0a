use Rattle.authority_book.proofs.Rollovers.{in_turn}
use Rattle.authority_book.proofs.laws.rollovers_take_turns.Goals as goal

pub returns : goal.returns
returns c = in_turn
