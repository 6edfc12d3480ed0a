use Rattle.editions.proofs.ObjectLemmas.Lives.{one-key}
use Rattle.editions.proofs.lasting_laws.lives_are_of_one_key.Goals as goal

pub returns : goal.returns
returns c = λ premises editions id from to first last one other steps life start end live then named so.
    one-key premises editions steps to from id life first last start end one other live then named so
