use Rattle.commit_word.proofs.SetAside.{noted, made}
use Rattle.commit_word.proofs.laws.one_entry_is_set_aside.Goals as goal

pub returns-clause-noted : goal.returns-clause-noted
returns-clause-noted c = noted

pub returns-clause-made : goal.returns-clause-made
returns-clause-made c = made
