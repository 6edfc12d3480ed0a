use Rattle.editions.proofs.ObjectLemmas.NewCrls.{new-crl}
use Rattle.editions.proofs.object_laws.new_crls_list_what_is_superseded.Goals as goal

pub returns : goal.returns
returns c = λ premises editions edition uri bytes crl steps stands new read.
    let said = new-crl premises editions edition steps uri bytes crl stands new read in
    record { entries = said.0; lists = said.1; superseded = said.2 }
