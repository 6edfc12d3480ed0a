use Rattle.cms_obj.proofs.Found.{found-by, only-by, fault-by}
use Rattle.cms_obj.proofs.reading.read.Goals as goal

pub returns-clause-found : goal.returns-clause-found
returns-clause-found c = found-by c.args.bytes.now c.read_bytes.ensures.bytes c.read_bytes.result c.read_bytes.ensures.exact

pub returns-clause-only : goal.returns-clause-only
returns-clause-only c = only-by c.args.bytes.now c.read_bytes.ensures.bytes c.read_bytes.result c.read_bytes.ensures.exact

pub returns-clause-fault : goal.returns-clause-fault
returns-clause-fault c = fault-by c.args.bytes.now c.read_bytes.ensures.bytes c.read_bytes.result c.read_bytes.ensures.exact
