use Rattle.gate_journal.proofs.Laid.{shown_sizes}
use Rattle.std.proofs.Common.{◌∙◌, ap}
use Rattle.gate_journal.specs.Format.{held_for}
use Rattle.gate_journal.specs.View.{View}
use Rattle.gate_journal.proofs.journal.Journal.held.Goals as goal

pub returns-clause-held : goal.returns-clause-held
returns-clause-held g c = c.self.invariant.0.measured.held_is ∙ ap (λ (v : View _). held_for v.sizes) c.self.view_is

pub returns-clause-sizes : goal.returns-clause-sizes
returns-clause-sizes g c =
    let j = c.self.inside in
    rw (← c.self.view_is) (shown_sizes (g.D.Disk.content j.disk) (g.D.Disk.may_leave j.disk) j.count j.held j.places.items j.shut c.self.invariant.0)
