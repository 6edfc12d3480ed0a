use Rattle.std.proofs.Common.{◌≡◌, ℕ, ◌+◌, ◌<◌, true, get_or}
use Rattle.std.specs.Ordering.{is_lt}
use Rattle.origins.specs.declared.Origin.{Origin}
use Rattle.authority_book.specs.Origins.{origin_cmp}
use Rattle.authority_book.proofs.origin_lists.is_rising.Given as goal

abbrev pub invariant-loop-place : goal.invariant-loop-place
invariant-loop-place l = (k : ℕ) (d : Origin) → k + 1 < l.place → is_lt (origin_cmp (get_or l.items k d) (get_or l.items (k + 1) d)) ≡ true
