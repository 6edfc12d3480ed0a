use Rattle.std.proofs.Common.{◌-◌}
use Rattle.entitle.specs.Certified.{settings_of, names_of}
use Rattle.entitle.specs.inner.Steps.{AreAfter}
use Rattle.entitle.proofs.certifying.certified.Given as goal

abbrev pub invariant-loop-parents : goal.invariant-loop-parents
invariant-loop-parents l = AreAfter (settings_of l.configs) (names_of (settings_of l.configs)) (l.parents - 1) l.sets.items
