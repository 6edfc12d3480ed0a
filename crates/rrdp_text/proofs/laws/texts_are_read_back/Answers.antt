use Rattle.rrdp_text.proofs.Wholes.{snapshot_exact, delta_exact}
use Rattle.rrdp_text.proofs.laws.texts_are_read_back.Goals as goal

pub returns-clause-snapshots : goal.returns-clause-snapshots
returns-clause-snapshots c = snapshot_exact.again

pub returns-clause-deltas : goal.returns-clause-deltas
returns-clause-deltas c = delta_exact.again
