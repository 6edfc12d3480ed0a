use Rattle.std.proofs.Common.{◌≤◌, ◌∙◌, ap, subst}
use mathlib.Core.List.{IsPrefix}
use Rattle.notice_board.specs.Lists.{last_serial}
use Rattle.manager.specs.Passes.{PassValue}
use Rattle.manager.proofs.passes.Pass.tell.Goals as goal

pub invariant_of-self : goal.invariant_of-self
invariant_of-self g c = (c.self.invariant.0, c.self.invariant.1, c.tell.ensures.list ∙ c.self.invariant.2, c.self.invariant.3)

pub returns-clause-rest : goal.returns-clause-rest
returns-clause-rest g c = ap (λ (p : PassValue). record p { shown = c.tell.new.viewer.seen }) c.self.view_is

pub returns-clause-grows : goal.returns-clause-grows
returns-clause-grows g c = subst (λ (p : PassValue). IsPrefix p.shown c.tell.new.viewer.seen) c.self.view_is c.tell.ensures.grows

pub returns-clause-not_past : goal.returns-clause-not_past
returns-clause-not_past g c = subst (λ (p : PassValue). last_serial p.shown ≤ c.args.press.now.press.press.at.serial) c.self.view_is c.tell.ensures.not_past
