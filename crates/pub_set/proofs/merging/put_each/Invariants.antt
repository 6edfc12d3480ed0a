use Rattle.std.proofs.Common.{◌≡◌, ℕ, ◌+◌, ◌≤◌, length, List}
use Rattle.std.specs.Vec.{vec_capacity, vec_len}
use Rattle.pub_set.specs.Objects.{content_at, IsAscending, Rise}
use Rattle.pub_set.specs.inner.Overlays.{entry_uri, overlaid}
use Rattle.pub_set.proofs.merging.put_each.Given as goal

abbrev pub invariant-loop-uri : goal.invariant-loop-uri
invariant-loop-uri l = record {
  ascending : IsAscending l.objects.items;
  contents : (at : List ℕ) → overlaid (content_at l.objects.items) l.uri-iterator at ≡ overlaid (content_at l.fn.objects.items) l.fn.overlay.entries at;
  rise : Rise entry_uri l.uri-iterator;
  room : vec_len l.objects + length l.uri-iterator ≤ vec_capacity l.objects;
}
