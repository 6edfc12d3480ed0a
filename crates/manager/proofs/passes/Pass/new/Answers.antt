use Rattle.manager.proofs.passes.Pass.new.Goals as goal

pub invariant_of-result : goal.invariant_of-result
invariant_of-result g c = (c.requires.seats.0, c.requires.seats.1, c.requires.viewer, c.requires.spare)
