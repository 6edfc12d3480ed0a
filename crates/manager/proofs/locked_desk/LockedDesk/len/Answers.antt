use Rattle.std.proofs.Common.{◌∙◌, ap, length}
use Rattle.desk_core.specs.View.{View}
use Rattle.desk_core.specs.Counted.{CountedView}
use Rattle.manager.proofs.locked_desk.LockedDesk.len.Goals as goal

pub returns : goal.returns
returns g c = c.len.ensures.records ∙ (ap (λ (v : View _). length v.records) c.desk.ensures ∙ ap (λ (v : CountedView _). length v.desk.records) c.self.view_is)
