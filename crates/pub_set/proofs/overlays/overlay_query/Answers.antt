use Rattle.std.proofs.Common.{◌≡◌, ℕ, List, ◌∷◌, ◌∙◌, Some, None, refl, sym, ap, length, arith, rules}
use Rattle.std.specs.Option.{option_copied}
use Rattle.std.specs.Vec.Iter.{into_iter_items}
use Rattle.pub_set.specs.Objects.{content_at}
use Rattle.pub_set.specs.Changes.{Contents, uri_of, after}
use Rattle.pub_set.specs.Queries.{code_of, first_refusal}
use Rattle.pub_set.specs.inner.Overlays.{overlaid}
use Rattle.pub_set.proofs.Drafting.{overlaid-change, refusal_here, refusal_kept, applied_kept}
use Rattle.pub_set.proofs.overlays.overlay_query.Goals as goal

pub loop-change-init : goal.loop-change-init
loop-change-init c =
    let all = c.into_iter-change-iterator.ensures.into_iter_gives in
    rw (c.new-overlay.ensures.empty, all.0) (record { refusal = refl; applied = λ at. refl; left = search (rules, all.1) })

pub loop-change-preserved : goal.loop-change-preserved
loop-change-preserved c =
    let before = c.loop-change.invariant in
    let base = c.args.base.now in
    let change = c.in-Some.change in
    let rest = into_iter_items c.next.new.self in
    let left = into_iter_items c.loop-change.change-iterator in
    let held : Contents = overlaid (content_at c.args.objects.now) c.loop-change.overlay.entries in
    let next : Contents = overlaid (content_at c.args.objects.now) c.note.new.overlay.entries in
    let step : left ≡ change ∷ rest = c.in-Some.ensures.steps.0 in
    let there : option_copied c.overlaid_at-held.result ≡ held (uri_of change) = c.overlaid_at-held.ensures ∙ ap held (c.as_str.ensures ∙ c.uri.ensures) in
    let none : code_of base (held (uri_of change)) change ≡ None = ap (λ h. code_of base h change) (sym there) ∙ sym c.in_default.ensures in
    let end = c.into_end-uri-in-loop-change in
    let is : next ≡ after held change = overlaid-change (content_at c.args.objects.now) c.loop-change.overlay.entries c.note.new.overlay.entries end.result.0 end.result.1 change c.in_ok-note.ensures end.ensures.uri end.ensures.left in record {
      refusal = refusal_kept base held next change rest left _ none is step before.refusal;
      applied = λ at. applied_kept held next change rest left at _ is step (before.applied at);
      left = let shorter = ap length step in omega (arith, c.in-Some.ensures.steps.1);
    }

pub returns-in-Some-refusal_code-clause-refused : goal.returns-in-Some-refusal_code-clause-refused
returns-in-Some-refusal_code-clause-refused c =
    let base = c.args.base.now in
    let change = c.in-Some.change in
    let rest = into_iter_items c.next.new.self in
    let held : Contents = overlaid (content_at c.args.objects.now) c.loop-change.overlay.entries in
    let there : option_copied c.overlaid_at-held.result ≡ held (uri_of change) = c.overlaid_at-held.ensures ∙ ap held (c.as_str.ensures ∙ c.uri.ensures) in
    let code : Some c.in-Some-refusal_code.code ≡ code_of base (held (uri_of change)) change = c.in-Some-refusal_code.ensures ∙ ap (λ h. code_of base h change) there in
    sym c.loop-change.invariant.refusal
    ∙ (ap (first_refusal base held) c.in-Some.ensures.steps.0
    ∙ (refusal_here base held change rest c.in-Some-refusal_code.code code ∙ ap (λ (u : List ℕ). Some (c.in-Some-refusal_code.code, u)) (sym c.into_end-uri.ensures.uri)))
