use Rattle.std.proofs.Common.{◌≡◌, ℕ, ◌+◌, ◌<◌, false, get_or}
use Rattle.origins.specs.declared.Origin.{Origin}
use Rattle.authority_book.specs.Origins.{is_same}
use Rattle.authority_book.proofs.origin_lists.is_ascending.Given as goal

abbrev pub invariant-loop-place : goal.invariant-loop-place
invariant-loop-place l = (k : ℕ) (d : Origin) → k + 1 < l.place → is_same (get_or l.sorted k d) (get_or l.sorted (k + 1) d) ≡ false
