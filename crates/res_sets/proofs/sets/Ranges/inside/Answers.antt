use Rattle.res_sets.proofs.sets.Ranges.inside.Goals as goal

pub returns : goal.returns
returns c = rw (← c.self.view_is, ← c.other.view_is, ← c.deref.ensures.value, ← c.deref-2.ensures.value) c.is_inside.ensures
