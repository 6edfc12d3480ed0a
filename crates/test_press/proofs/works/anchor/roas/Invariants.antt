use Rattle.std.proofs.Common.{◌≡◌, map, take}
use Rattle.test_press.specs.Anchor.{roa_under}
use Rattle.test_press.proofs.works.anchor.roas.Given as goal

abbrev pub invariant-loop-origin : goal.invariant-loop-origin
invariant-loop-origin l = l.roas.items ≡ map roa_under (take l.origin-index l.origins)
