use Rattle.gate_journal.proofs.Laid.{shown_sizes}
use Rattle.gate_journal.proofs.Sizes.{length-sizes_of}
use Rattle.std.proofs.Common.{◌∙◌, length, sym, ap}
use Rattle.gate_journal.specs.View.{View}
use Rattle.gate_journal.proofs.journal.Journal.count.Goals as goal

pub returns-clause-count : goal.returns-clause-count
returns-clause-count g c =
    let j = c.self.inside in
    sym (length-sizes_of j.count j.places.items c.self.invariant.0.measured.counted) ∙ ap (λ (v : View _). length v.sizes) c.self.view_is

pub returns-clause-sizes : goal.returns-clause-sizes
returns-clause-sizes g c =
    let j = c.self.inside in
    rw (← c.self.view_is) (shown_sizes (g.D.Disk.content j.disk) (g.D.Disk.may_leave j.disk) j.count j.held j.places.items j.shut c.self.invariant.0)
