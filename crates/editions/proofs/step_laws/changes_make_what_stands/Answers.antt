use Rattle.pub_set.specs.laws.CarriedLaws.{carried_out}
use Rattle.editions.proofs.step_laws.changes_make_what_stands.Goals as goal

pub returns : goal.returns
returns c = λ old new changes is uri. carried_out changes old new is.ascending is.each uri
