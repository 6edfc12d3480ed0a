use Rattle.std.proofs.Common.{◌≡◌, ℕ, ◌+◌, ◌≤◌, ◌++◌, length, List}
use Rattle.std.specs.List.{AllByRecursion}
use Rattle.std.specs.Vec.{vec_capacity, vec_len}
use Rattle.std.specs.VecDeque.{deque_len}
use Rattle.pub_set.specs.Objects.{content_at, IsAscending, IsBehind, Rise}
use Rattle.pub_set.specs.inner.Overlays.{Entry, entry_uri, overlaid}
use Rattle.pub_set.proofs.merging.merge.Given as goal

abbrev pub invariant-loop-uri : goal.invariant-loop-uri
invariant-loop-uri l = record {
  ascending : IsAscending (l.merged.items ++ l.rest.items);
  behind : AllByRecursion (λ (e : Entry). IsBehind l.merged.items (entry_uri e)) l.uri-iterator;
  contents : (at : List ℕ) → overlaid (content_at (l.merged.items ++ l.rest.items)) l.uri-iterator at ≡ overlaid (content_at l.fn.rest.items) l.fn.overlay.entries at;
  rise : Rise entry_uri l.uri-iterator;
  room : vec_len l.merged + deque_len l.rest + length l.uri-iterator ≤ vec_capacity l.merged;
}
