use Rattle.std.proofs.Common.{◌∙◌, sym, subst}
use Rattle.std.specs.Prelude.{Option, IfOk, IfSome}
use Rattle.std.specs.Arc.{arc_value}
use Rattle.pub_set.specs.Changes.{IsApplied}
use Rattle.editions.specs.declared.spare.Spare.{Spare}
use Rattle.editions.specs.declared.spare.SetWithTable.{SetWithTable}
use Rattle.editions.specs.Standing.{IsTableAfter}
use Rattle.editions.specs.Spares.{IsSpareOf}
use Rattle.editions.specs.PublishedState.{PublishedStateValue}
use Rattle.editions.proofs.spare.CurrentState.standing_after.Goals as goal

pub standing_of-requires-clause-spare : goal.standing_of-requires-clause-spare
standing_of-requires-clause-spare c =
    subst (λ (at : PublishedStateValue). IfSome c.take-spare.result (IsSpareOf at)) (sym c.deref.ensures)
    (subst (λ (spare : Option Spare). IfSome spare (IsSpareOf (arc_value c.self.inside.state))) (sym c.take-spare.ensures.value) c.self.invariant)

pub returns-clause-set : goal.returns-clause-set
returns-clause-set c =
    subst (λ (at : PublishedStateValue). IfOk c.standing_of.result (λ (next : SetWithTable). IsApplied at.set c.args.changes.now next.set))
    (c.deref.ensures ∙ c.self.view_is) c.standing_of.ensures.set

pub returns-clause-table : goal.returns-clause-table
returns-clause-table c =
    subst (λ (at : PublishedStateValue). IfOk c.standing_of.result (λ (next : SetWithTable). IsTableAfter at.issued c.args.changes.now c.args.issued.now next.table))
    (c.deref.ensures ∙ c.self.view_is) c.standing_of.ensures.table
