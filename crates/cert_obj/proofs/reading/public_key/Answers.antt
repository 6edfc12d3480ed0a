use Rattle.cert_obj.proofs.Leaves.{key-told}
use Rattle.cert_obj.proofs.reading.public_key.Goals as goal

pub returns : goal.returns
returns c = key-told c.args.bytes.now c.read.result c.told-bytes c.read.ensures.found c.read.ensures.value
