use Rattle.std.proofs.Common.{decimal}
use Rattle.json_api.proofs.Written.{pieces-published}
use Rattle.json_api.proofs.reply.published_into.Goals as goal

pub returns-clause-text : goal.returns-clause-text
returns-clause-text c =
    let told = c.args.published.now in
    let e = pieces-published c.args.out.now.items (decimal told.moment) (decimal told.objects) (decimal told.origins) (decimal told.serial) in
    cc
