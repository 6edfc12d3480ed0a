use Rattle.pub_set.proofs.Splits.{skipped}
use Rattle.pub_set.proofs.merging.skip_at.Goals as goal

pub returns-clause-skipped : goal.returns-clause-skipped
returns-clause-skipped c =
    skipped c.args.rest.now.items c.pop_if.new.rest.items c.args.uri.now c.pop_if.result c.requires.ascending c.requires.starts c.pop_if.ensures
