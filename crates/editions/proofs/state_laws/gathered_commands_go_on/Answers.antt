use Rattle.editions.proofs.StateLemmas.Going.{configs-further, cut-further}
use Rattle.editions.proofs.state_laws.gathered_commands_go_on.Goals as goal

pub returns-clause-configs : goal.returns-clause-configs
returns-clause-configs c = configs-further

pub returns-clause-cut : goal.returns-clause-cut
returns-clause-cut c = cut-further
