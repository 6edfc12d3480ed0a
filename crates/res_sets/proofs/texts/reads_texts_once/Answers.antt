use Rattle.res_sets.proofs.Once.{spells_once, spells_no_fault, one_fault}
use Rattle.res_sets.proofs.texts.reads_texts_once.Goals as goal

pub returns-clause-one : goal.returns-clause-one
returns-clause-one c = spells_once (record { asn = c.reads_as_number_once.ensures; v4 = c.reads_ipv4_once.ensures; v6 = c.reads_ipv6_once.ensures })

pub returns-clause-no_fault : goal.returns-clause-no_fault
returns-clause-no_fault c = spells_no_fault (record { asn = c.reads_as_number_once.ensures; v4 = c.reads_ipv4_once.ensures; v6 = c.reads_ipv6_once.ensures })

pub returns-clause-one_fault : goal.returns-clause-one_fault
returns-clause-one_fault c = one_fault (record { asn = c.reads_as_number_once.ensures; v4 = c.reads_ipv4_once.ensures; v6 = c.reads_ipv6_once.ensures })
