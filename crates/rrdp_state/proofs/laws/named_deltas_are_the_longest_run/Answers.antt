use Rattle.rrdp_state.proofs.Runs.{run_is, run_fits, run_longest}
use Rattle.rrdp_state.proofs.laws.named_deltas_are_the_longest_run.Goals as goal

pub returns-clause-run : goal.returns-clause-run
returns-clause-run c = run_is

pub returns-clause-fits : goal.returns-clause-fits
returns-clause-fits c = run_fits

pub returns-clause-longest : goal.returns-clause-longest
returns-clause-longest c = run_longest
