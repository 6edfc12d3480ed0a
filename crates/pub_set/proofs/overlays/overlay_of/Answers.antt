use Rattle.std.proofs.Common.{◌≡◌, ℕ, List, ◌∷◌, refl, ap, length, arith, rules}
use Rattle.std.specs.Vec.Iter.{into_iter_items}
use Rattle.pub_set.specs.Objects.{content_at}
use Rattle.pub_set.specs.Changes.{Contents, after}
use Rattle.pub_set.specs.inner.Overlays.{overlaid}
use Rattle.pub_set.proofs.Drafting.{overlaid-change, applied_kept}
use Rattle.pub_set.proofs.overlays.overlay_of.Goals as goal

pub loop-change-init : goal.loop-change-init
loop-change-init c =
    let all = c.into_iter-change-iterator.ensures.into_iter_gives in
    rw (c.new-overlay.ensures.empty, all.0) (record { applied = λ at. refl; left = search (rules, all.1) })

pub loop-change-preserved : goal.loop-change-preserved
loop-change-preserved c =
    let before = c.loop-change.invariant in
    let change = c.in-Some.change in
    let rest = into_iter_items c.next.new.self in
    let left = into_iter_items c.loop-change.change-iterator in
    let held : Contents = overlaid (content_at c.args.objects.now) c.loop-change.overlay.entries in
    let next : Contents = overlaid (content_at c.args.objects.now) c.note.new.overlay.entries in
    let step : left ≡ change ∷ rest = c.in-Some.ensures.steps.0 in
    let end = c.into_end-uri in
    let is : next ≡ after held change = overlaid-change (content_at c.args.objects.now) c.loop-change.overlay.entries c.note.new.overlay.entries end.result.0 end.result.1 change c.in_ok-note.ensures end.ensures.uri end.ensures.left in record {
      applied = λ at. applied_kept held next change rest left at _ is step (before.applied at);
      left = let shorter = ap length step in omega (arith, c.in-Some.ensures.steps.1);
    }
