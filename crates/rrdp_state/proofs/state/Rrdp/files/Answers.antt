use Rattle.std.proofs.Common.{◌∙◌}
use Rattle.rrdp_state.proofs.Keeping.{stands_puts, stands_removals}
use Rattle.rrdp_state.proofs.state.Rrdp.files.Goals as goal

pub returns-clause-puts : goal.returns-clause-puts
returns-clause-puts c = λ repository editions stands same.
    c.in_ok-puts.ensures ∙ stands_puts repository editions c.args.self.now c.args.set.now c.args.all stands same

pub returns-clause-removes : goal.returns-clause-removes
returns-clause-removes c = λ repository editions stands. c.in_ok-removes.ensures ∙ stands_removals repository editions c.args.self.now c.args.all stands
