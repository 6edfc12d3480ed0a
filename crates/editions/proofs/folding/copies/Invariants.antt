use Rattle.std.proofs.Common.{◌≡◌, take}
use Rattle.entitle.specs.Certified.{settings_of}
use Rattle.editions.proofs.folding.copies.Given as goal

abbrev pub invariant-loop-config : goal.invariant-loop-config
invariant-loop-config l = settings_of l.copies.items ≡ settings_of (take l.config-index l.configs)
