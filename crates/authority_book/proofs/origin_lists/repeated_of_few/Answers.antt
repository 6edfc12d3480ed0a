use Rattle.std.proofs.Common.{◌≡◌, ◌+◌, ◌++◌, ◌∷◌, [], sym, ◌∙◌, ap, ap₂, take, drop, cond}
use Rattle.std.specs.Prelude.{Option, Some, None}
use Rattle.std.specs.Option.{option_or}
use Rattle.std.proofs.lemmas.List.{take_more, take-append-drop}
use Rattle.origins.specs.declared.Origin.{Origin}
use Rattle.authority_book.specs.Origins.{first_repeated}
use Rattle.authority_book.proofs.Repeats.{first_repeated-push, first_repeated-front}
use Rattle.authority_book.proofs.origin_lists.repeated_of_few.Goals as goal

pub returns-then-is_in : goal.returns-then-is_in
returns-then-is_in c =
    let o = c.index-items-place.result in
    let items = c.args.items.now in
    let xs = take c.loop-place.place items in
    let longer : take (c.loop-place.place + 1) items ≡ xs ++ o ∷ [] =
    take_more items c.loop-place.place o c.loop-place-test.true ∙ ap (λ (x : Origin). xs ++ x ∷ []) (sym c.index-items-place.is) in
    let here : first_repeated (take (c.loop-place.place + 1) items) ≡ Some o =
    ap first_repeated longer ∙ (first_repeated-push xs o
    ∙ ap₂ (λ (r : Option Origin) b. option_or r (cond b (Some o) None)) c.loop-place.invariant (sym c.is_in.ensures ∙ c.if-is_in.true)) in
    sym (ap first_repeated (sym (take-append-drop (c.loop-place.place + 1) items)) ∙ first_repeated-front _ (drop (c.loop-place.place + 1) items) o here)

pub loop-place-preserved : goal.loop-place-preserved
loop-place-preserved c =
    let o = c.index-items-place.result in
    let xs = take c.loop-place.place c.args.items.now in
    let longer : take (c.loop-place.place + 1) c.args.items.now ≡ xs ++ o ∷ [] =
    take_more c.args.items.now c.loop-place.place o c.loop-place-test.true ∙ ap (λ (x : Origin). xs ++ x ∷ []) (sym c.index-items-place.is) in
    ap first_repeated longer ∙ (first_repeated-push xs o
    ∙ ap₂ (λ (r : Option Origin) b. option_or r (cond b (Some o) None)) c.loop-place.invariant (sym c.is_in.ensures ∙ c.if-is_in.false))
