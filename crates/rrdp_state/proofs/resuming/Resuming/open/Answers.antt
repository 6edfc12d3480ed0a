use Rattle.std.proofs.Common.{subst, sym}
use Rattle.rrdp_state.specs.State.{StandsFor}
use Rattle.rrdp_state.proofs.Reopened.{told_all}
use Rattle.rrdp_state.proofs.resuming.Resuming.open.Goals as goal

pub returns-clause-stands : goal.returns-clause-stands
returns-clause-stands c = λ repository told editions by enough.
    subst (StandsFor repository editions) (sym c.self.view_is) (told_all repository told editions c.args.self by enough)
