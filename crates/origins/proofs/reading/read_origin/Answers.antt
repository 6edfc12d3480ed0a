use Rattle.origins.proofs.Read.{reads, alone}
use Rattle.origins.proofs.reading.read_origin.Goals as goal

pub returns-in-Some-clause-reads : goal.returns-in-Some-clause-reads
returns-in-Some-clause-reads c =
    reads c.args.text.now c.in-Some.prefix c.in-Some.asn c.make_origin.result (rw (← c.as_bytes-text.ensures.value) c.in-Some.ensures) c.make_origin.ensures

pub returns-in-Some-clause-spelled : goal.returns-in-Some-clause-spelled
returns-in-Some-clause-spelled c =
    alone c.args.text.now c.in-Some.prefix c.in-Some.asn c.make_origin.result (rw (← c.as_bytes-text.ensures.value) c.in-Some.ensures) c.make_origin.ensures

pub returns-in-None-clause-spelled : goal.returns-in-None-clause-spelled
returns-in-None-clause-spelled c = λ origin is. c.read_any.ensures.spelled origin (rw c.as_bytes-text.ensures.value is)
