use Rattle.editions.proofs.ObjectLemmas.OneKind.{with-certificate, with-crl, with-object}
use Rattle.editions.proofs.object_laws.objects_are_of_one_kind.Goals as goal

pub returns-clause-certificates : goal.returns-clause-certificates
returns-clause-certificates c = λ bytes certificate read. with-certificate bytes certificate read

pub returns-clause-lists : goal.returns-clause-lists
returns-clause-lists c = λ bytes crl read. with-crl bytes crl read

pub returns-clause-objects : goal.returns-clause-objects
returns-clause-objects c = λ bytes object read. with-object bytes object read
