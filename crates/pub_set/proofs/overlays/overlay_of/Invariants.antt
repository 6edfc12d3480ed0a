use Rattle.std.proofs.Common.{◌≡◌, ℕ, length, List}
use Rattle.std.specs.Vec.Iter.{into_iter_items, into_iter_len}
use Rattle.pub_set.specs.Objects.{content_at}
use Rattle.pub_set.specs.Changes.{after_all}
use Rattle.pub_set.specs.inner.Overlays.{overlaid}
use Rattle.pub_set.proofs.overlays.overlay_of.Given as goal

abbrev pub invariant-loop-change : goal.invariant-loop-change
invariant-loop-change l = record {
  applied : (at : List ℕ) → after_all (overlaid (content_at l.objects) l.overlay.entries) (into_iter_items l.change-iterator) at ≡ after_all (content_at l.objects) l.fn.changes.items at;
  left : into_iter_len l.change-iterator ≡ length (into_iter_items l.change-iterator);
}
