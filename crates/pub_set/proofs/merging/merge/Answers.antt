use Rattle.std.proofs.Common.{◌≡◌, List, [], ◌∷◌, ◌++◌, ◌∙◌, sym, ap, length, arith}
use Rattle.std.specs.List.{AllByRecursion}
use Rattle.std.specs.declared.cmp.Ordering.TheVariants.{Less}
use Rattle.pub_set.specs.Objects.{uri_cmp, content_at, IsBehind, Rise}
use Rattle.pub_set.specs.inner.Overlays.{Entry, entry_uri, overlaid}
use Rattle.pub_set.specs.laws.LookupLaws.{all_weaken, rise-head, rise-tail}
use Rattle.pub_set.proofs.Drafting.{rise_from_keys, overlaid_next}
use Rattle.pub_set.proofs.merging.merge.Goals as goal

-- The empty list is behind nothing.
none_behind : (es : List Entry) → AllByRecursion (λ (e : Entry). IsBehind [] (entry_uri e)) es
none_behind [] = tt
none_behind (e ∷ es) = (tt, none_behind es)

pub loop-uri-init : goal.loop-uri-init
loop-uri-init c =
    let all = c.into_iter-uri-iterator.ensures.into_iter_gives in
    let empty = c.requires.empty in record {
      ascending = rw empty c.requires.ascending;
      behind = rw empty (none_behind c.into_iter-uri-iterator.result);
      contents = λ at. rw empty (ap (λ (es : List Entry). overlaid (content_at c.args.rest.items) es at) all.0);
      rise = rw all.0 (rise_from_keys c.args.overlay.entries all.5);
      room = omega (arith, ap length all.0, ap length empty, c.requires.room);
    }

pub loop-uri-preserved : goal.loop-uri-preserved
loop-uri-preserved c =
    let before = c.loop-uri.invariant in
    let entry : Entry = (c.in-Some.uri, c.in-Some.left) in
    let later = c.next.new.self in
    let step : c.loop-uri.uri-iterator ≡ entry ∷ later = c.in-Some.ensures.steps in
    let rise : Rise entry_uri (entry ∷ later) = rw (← step) before.rise in
    let merged = c.merge_one.new.merged.items in
    let shorter = ap length step in record {
      ascending = c.merge_one.ensures.put.ascending;
      behind = all_weaken (λ (e : Entry). uri_cmp (entry_uri entry) (entry_uri e) ≡ Less) (λ (e : Entry). IsBehind merged (entry_uri e))
          (λ e less. c.merge_one.ensures.behind (entry_uri e) less) later (rise-head entry_uri entry later rise);
      contents = λ at.
          overlaid_next (content_at (c.loop-uri.merged.items ++ c.loop-uri.rest.items)) (content_at (merged ++ c.merge_one.new.rest.items)) entry later rise c.merge_one.ensures.put.contents at
          ∙ (ap (λ (es : List Entry). overlaid (content_at (c.loop-uri.merged.items ++ c.loop-uri.rest.items)) es at) (sym step) ∙ before.contents at);
      rise = rise-tail entry_uri entry later rise;
      room = omega arith;
    }
