use Rattle.std.proofs.Common.{◌≡◌, ◌∙◌, ◌↔◌, ap, subst, IsTrue, []}
use Rattle.desk_core.specs.View.{View}
use Rattle.desk_core.specs.Counted.{CountedView}
use Rattle.manager.proofs.locked_desk.LockedDesk.is_empty.Goals as goal

pub returns : goal.returns
returns g c =
    subst (λ (v : View _). IsTrue c.is_empty.result ↔ (v.records ≡ [])) (c.desk.ensures ∙ ap (λ (v : CountedView _). v.desk) c.self.view_is) c.is_empty.ensures
