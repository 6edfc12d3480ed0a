use Rattle.std.proofs.Common.{◌∙◌, ap}
use Rattle.desk_core.specs.View.{View}
use Rattle.desk_core.specs.Counted.{CountedView}
use Rattle.manager.proofs.locked_desk.LockedDesk.number.Goals as goal

pub returns : goal.returns
returns g c = c.number.ensures ∙ (ap (λ (v : View _). v.number) c.desk.ensures ∙ ap (λ (v : CountedView _). v.desk.number) c.self.view_is)
