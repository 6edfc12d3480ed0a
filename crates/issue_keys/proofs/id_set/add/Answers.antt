use Rattle.issue_keys.proofs.Ids.{added}
use Rattle.issue_keys.specs.inner.IdSet.{has}
use Rattle.issue_keys.proofs.id_set.add.Goals as goal

pub returns-clause-has : goal.returns-clause-has
returns-clause-has c =
    λ other. added c.args.id.now other (has c.args.id_set.now other) (has c.insert.new.self other) (c.in_ok-added.ensures.updates.0 other)
