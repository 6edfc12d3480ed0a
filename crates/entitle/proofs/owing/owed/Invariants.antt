use Rattle.entitle.specs.Certified.{settings_of}
use Rattle.entitle.specs.Owed.{AreOwedByFirst}
use Rattle.entitle.proofs.owing.owed.Given as goal

abbrev pub invariant-loop-desk : goal.invariant-loop-desk
invariant-loop-desk l = AreOwedByFirst (settings_of l.configs) l.desk l.owed.items
