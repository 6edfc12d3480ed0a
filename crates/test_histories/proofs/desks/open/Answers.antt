use Rattle.std.proofs.Common.{ap, ◌∙◌}
use Rattle.gate_journal.specs.Format.{recovered}
use Rattle.test_histories.proofs.desks.open.Goals as goal

pub returns-clause-found : goal.returns-clause-found
returns-clause-found c = c.in-Ok.ensures.records ∙ ap recovered c.disk_over.ensures
