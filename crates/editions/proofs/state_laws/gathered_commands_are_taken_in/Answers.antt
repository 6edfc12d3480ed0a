use Rattle.editions.proofs.StateLemmas.Going.{taken-further}
use Rattle.editions.proofs.state_laws.gathered_commands_are_taken_in.Goals as goal

pub returns : goal.returns
returns c = taken-further
