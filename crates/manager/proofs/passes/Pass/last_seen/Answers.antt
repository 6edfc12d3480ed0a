use Rattle.std.proofs.Common.{◌∙◌, ap, sym}
use Rattle.notice_board.specs.Lists.{last_serial, rises}
use Rattle.manager.specs.Passes.{PassValue}
use Rattle.manager.proofs.passes.Pass.last_seen.Goals as goal

pub returns-clause-serial : goal.returns-clause-serial
returns-clause-serial g c = c.last_seen.ensures.serial ∙ ap (λ (p : PassValue). last_serial p.shown) c.self.view_is

pub returns-clause-rises : goal.returns-clause-rises
returns-clause-rises g c = sym (ap (λ (p : PassValue). rises p.shown) c.self.view_is) ∙ c.last_seen.ensures.rises
