use Rattle.std.proofs.Common.{◌≡◌, List, ◌∷◌, ◌∙◌, sym, ap, length, arith}
use Rattle.pub_set.specs.Objects.{content_at, Rise}
use Rattle.pub_set.specs.inner.Overlays.{Entry, entry_uri, overlaid}
use Rattle.pub_set.specs.laws.LookupLaws.{rise-tail}
use Rattle.pub_set.proofs.Drafting.{rise_from_keys, overlaid_next}
use Rattle.pub_set.proofs.merging.put_each.Goals as goal

pub loop-uri-init : goal.loop-uri-init
loop-uri-init c =
    let all = c.into_iter-uri-iterator.ensures.into_iter_gives in record {
      ascending = c.requires.ascending;
      contents = λ at. ap (λ (es : List Entry). overlaid (content_at c.args.objects.now.items) es at) all.0;
      rise = rw all.0 (rise_from_keys c.args.overlay.entries all.5);
      room = omega (arith, ap length all.0, c.requires.room);
    }

pub loop-uri-preserved : goal.loop-uri-preserved
loop-uri-preserved c =
    let before = c.loop-uri.invariant in
    let entry : Entry = (c.in-Some.uri, c.in-Some.left) in
    let step : c.loop-uri.uri-iterator ≡ entry ∷ c.next.new.self = c.in-Some.ensures.steps in
    let rise : Rise entry_uri (entry ∷ c.next.new.self) = rw (← step) before.rise in
    let shorter = ap length step in record {
      ascending = c.put.ensures.put.ascending;
      contents = λ at.
          overlaid_next (content_at c.loop-uri.objects.items) (content_at c.put.new.objects.items) entry c.next.new.self rise c.put.ensures.put.contents at
          ∙ (ap (λ (es : List Entry). overlaid (content_at c.loop-uri.objects.items) es at) (sym step) ∙ before.contents at);
      rise = rise-tail entry_uri entry c.next.new.self rise;
      room = omega arith;
    }
