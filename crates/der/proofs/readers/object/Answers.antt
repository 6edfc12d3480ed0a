use Rattle.std.proofs.Common.{arith, rules}
use Rattle.der.specs.laws.ObjectLaws.{fault_from}
use Rattle.der.proofs.readers.object.Goals as goal

pub returns-in-Some-clause-fault : goal.returns-in-Some-clause-fault
returns-in-Some-clause-fault g c =
    fault_from g.R.WholeReader.view (g.R.WholeReader.format c.args.reader.now) ((g.met.R.WholeReader c.lifetimes (search rules)).is_whole c.args.reader.now) c.args.bytes.now (λ i. omega (arith, c.type_inv.bytes i)) c.read_whole.result (search rules)
