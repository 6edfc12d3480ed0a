use Rattle.std.proofs.Common.{◌≡◌, map, take}
use Rattle.issue_make.proofs.objects.hashes_of.Given as goal

abbrev pub invariant-loop-object : goal.invariant-loop-object
invariant-loop-object l = l.hashes.items ≡ map (λ o. o.hash) (take l.object-index l.objects)
