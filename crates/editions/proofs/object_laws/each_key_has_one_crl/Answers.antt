use Rattle.editions.proofs.ObjectLemmas.Crls.{some-crl, one-crl}
use Rattle.editions.proofs.object_laws.each_key_has_one_crl.Goals as goal

pub returns-clause-some : goal.returns-clause-some
returns-clause-some c = λ premises editions edition steps row among.
    some-crl premises editions edition steps row among

pub returns-clause-one : goal.returns-clause-one
returns-clause-one c = λ premises editions edition id one other steps is and.
    one-crl premises editions edition steps id one other is and
