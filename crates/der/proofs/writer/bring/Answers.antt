use Rattle.der.proofs.Moves.{brought}
use Rattle.der.proofs.writer.bring.Goals as goal

pub returns : goal.returns
returns c = brought c.args.bytes.now c.turn.new.bytes c.args.from c.args.count c.requires c.turn.ensures
