use Rattle.editions.proofs.ObjectLemmas.Left.{was-made}
use Rattle.editions.proofs.lasting_laws.what_stands_was_made.Goals as goal

pub returns : goal.returns
returns c = λ premises editions uri bytes steps stands. was-made premises editions steps uri bytes stands
