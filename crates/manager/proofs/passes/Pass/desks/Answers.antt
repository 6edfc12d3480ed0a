use Rattle.std.proofs.Common.{◌∙◌, ◌<◌, ℕ, length, ap, sym, subst}
use Rattle.manager.specs.Passes.{PassValue, Knows}
use Rattle.manager.proofs.passes.Pass.desks.Goals as goal

pub returns-clause-all : goal.returns-clause-all
returns-clause-all g c = ap (λ (p : PassValue). length p.seats) (sym c.self.view_is) ∙ c.self.invariant.0

pub returns-clause-known : goal.returns-clause-known
returns-clause-known g c desk below =
    let is = c.self.invariant.1 desk (subst (λ (n : ℕ). desk < n) (sym c.self.invariant.0) below) in
    (is.commands, subst (λ (p : PassValue). Knows p.seats desk is.commands) c.self.view_is is.listed.are)
