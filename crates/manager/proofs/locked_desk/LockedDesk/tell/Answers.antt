use Rattle.std.proofs.Common.{◌≡◌, ◌∙◌, length, sym, ap, subst}
use Rattle.desk_core.specs.Counted.{CountedView}
use Rattle.manager.specs.Lists.{IsListed, IsDoubted}
use Rattle.manager.specs.Risen.{IsRisenDesk}
use Rattle.manager.specs.Limits.{IsWithinLimit}
use Rattle.manager.proofs.locked_desk.LockedDesk.tell.Goals as goal

pub tell-requires-clause-word : goal.tell-requires-clause-word
tell-requires-clause-word g c =
    c.requires.word ∙ (ap (λ (v : CountedView _). g.N.Names.words v.desk.number) (sym c.self.view_is) ∙ sym c.self.invariant.0)

pub invariant_of-self : goal.invariant_of-self
invariant_of-self g c =
    subst (λ (v : CountedView _). (v.word ≡ g.N.Names.words v.desk.number) × IsListed (length g.N.Names.named.signers) v.desk
    × IsRisenDesk g.D.Disk g.N.Names.named v.desk × IsDoubted v.desk × IsWithinLimit g.N.Names.named v.desk) (sym c.tell.ensures.same) c.self.invariant

pub returns-clause-same : goal.returns-clause-same
returns-clause-same g c = c.tell.ensures.same ∙ c.self.view_is

pub returns-clause-told : goal.returns-clause-told
returns-clause-told g c = c.tell.ensures.told ∙ ap (λ (v : CountedView _). record c.args.follower.now { seen = v.desk.records }) c.self.view_is

pub returns-clause-listed : goal.returns-clause-listed
returns-clause-listed g c = subst (λ (v : CountedView _). IsListed (length g.N.Names.named.signers) v.desk) c.self.view_is c.self.invariant.1
