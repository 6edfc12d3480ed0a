use Rattle.std.proofs.Common.{length, sym, subst}
use Rattle.desk_core.specs.View.{View}
use Rattle.manager.specs.Ended.{IsLeftDesk}
use Rattle.manager.proofs.locked_desks_ending.end.Goals as goal

pub returns-clause-left : goal.returns-clause-left
returns-clause-left g c =
    subst (λ (v : View _). IsLeftDesk (length g.N.Names.named.signers) v) (sym c.into_desk.ensures)
    (record { listed = c.into_inner-counted.ensures.listed; doubted = c.into_inner-counted.ensures.doubted })
