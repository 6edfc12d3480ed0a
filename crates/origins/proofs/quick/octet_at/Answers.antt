use Rattle.std.proofs.Common.{arith}
use Rattle.origins.proofs.Begun.{octet_begins}
use Rattle.origins.proofs.quick.octet_at.Goals as goal

pub returns-clause-reads : goal.returns-clause-reads
returns-clause-reads c =
    octet_begins _ c.in_ok-value.rest.now _ c.in_ok-value.value _ c.args.mark (omega arith) c.in_ok-value.ensures c.in_ok-behind.ensures
