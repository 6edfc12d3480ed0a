use Rattle.std.proofs.Common.{codes, decimal}
use Rattle.json_api.proofs.Written.{pieces-last}
use Rattle.json_api.proofs.reply.reached_into.Goals as goal

pub returns-clause-text : goal.returns-clause-text
returns-clause-text c =
    let e = pieces-last c.args.out.now.items (codes "{\"reply\":\"reached\",\"serial\":") (decimal c.args.serial) in
    cc
