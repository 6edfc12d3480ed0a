use Rattle.std.proofs.Common.{◌≡◌, ℕ, List, drop}
use Rattle.rp_audit.specs.inner.Noted.{Sees}
use Rattle.rp_audit.proofs.Lists.{unseen}
use Rattle.rp_audit.proofs.walking.first_unseen.Given as goal

abbrev pub invariant-loop-object : goal.invariant-loop-object
invariant-loop-object l = (uris : List (List ℕ)) → Sees uris l.visited_uris → unseen uris l.objects ≡ unseen uris (drop l.object-index l.objects)
