use Rattle.std.proofs.Common.{◌∙◌, ap}
use Rattle.desk_core.specs.View.{View}
use Rattle.desk_core.specs.Counted.{CountedView}
use Rattle.manager.proofs.locked_desk.LockedDesk.config.Goals as goal

pub returns : goal.returns
returns g c = c.config.ensures ∙ (ap (λ (v : View _). v.settings) c.desk.ensures ∙ ap (λ (v : CountedView _). v.desk.settings) c.self.view_is)
