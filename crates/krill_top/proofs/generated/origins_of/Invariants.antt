use Rattle.std.proofs.Common.{◌≡◌, length}
use Rattle.krill_top.specs.Generated.{AreOriginsFrom}
use Rattle.krill_top.proofs.generated.origins_of.Given as goal

abbrev pub invariant-loop-place : goal.invariant-loop-place
invariant-loop-place l = (length l.origins.items ≡ l.place) × AreOriginsFrom l.authority 0 l.origins.items
