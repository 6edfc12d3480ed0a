use Rattle.origins.proofs.Read.{reads, alone}
use Rattle.origins.proofs.reading.read_any.Goals as goal

pub returns-in_default-clause-spelled : goal.returns-in_default-clause-spelled
returns-in_default-clause-spelled c = λ origin (parts, is, _). absurd (c.in_default.ensures parts is)

pub returns-clause-reads : goal.returns-clause-reads
returns-clause-reads c = reads c.args.text.now c.in-Some.prefix c.in-Some.asn c.make_origin.result c.in-Some.ensures c.make_origin.ensures

pub returns-clause-spelled : goal.returns-clause-spelled
returns-clause-spelled c = alone c.args.text.now c.in-Some.prefix c.in-Some.asn c.make_origin.result c.in-Some.ensures c.make_origin.ensures
