use Rattle.std.proofs.Common.{◌≡◌, ◌+◌, ◌++◌, ◌∷◌, [], true, false, sym, ◌∙◌, ap, ap₂, take, drop, cond}
use Rattle.std.specs.Prelude.{Option, Some, None}
use Rattle.std.specs.Option.{option_or}
use Rattle.std.specs.BTreeSet.{contains}
use Rattle.std.proofs.lemmas.List.{take_more, take-append-drop}
use Rattle.origins.specs.declared.Origin.{Origin}
use Rattle.authority_book.specs.Origins.{origin_cmp, is_there, first_repeated}
use Rattle.authority_book.proofs.Indexed.{members_more, fresh_from, known_from}
use Rattle.authority_book.proofs.Repeats.{first_repeated-push, first_repeated-front}
use Rattle.authority_book.proofs.origin_lists.repeated_of_many.Goals as goal

pub returns-then-not-is_new : goal.returns-then-not-is_new
unfolding origin_cmp
returns-then-not-is_new c =
    let o = c.origin-item.result in
    let items = c.args.items.now in
    let xs = take c.loop-origin.origin-index items in
    let known : is_there xs o ≡ true =
    sym (c.loop-origin.invariant.members o)
    ∙ known_from (contains origin_cmp c.loop-origin.members o) (sym c.if-not-is_new.true ∙ c.in_ok-is_new.ensures.added) in
    let longer : take (c.loop-origin.origin-index + 1) items ≡ xs ++ o ∷ [] =
    take_more items c.loop-origin.origin-index o c.loop-origin-test.true ∙ ap (λ (x : Origin). xs ++ x ∷ []) (sym c.origin-item.is) in
    let here : first_repeated (take (c.loop-origin.origin-index + 1) items) ≡ Some o =
    ap first_repeated longer ∙ (first_repeated-push xs o
    ∙ ap₂ (λ (r : Option Origin) b. option_or r (cond b (Some o) None)) c.loop-origin.invariant.first known) in
    sym (ap first_repeated (sym (take-append-drop (c.loop-origin.origin-index + 1) items))
    ∙ first_repeated-front (take (c.loop-origin.origin-index + 1) items) (drop (c.loop-origin.origin-index + 1) items) o here)

pub loop-origin-preserved : goal.loop-origin-preserved
unfolding origin_cmp
loop-origin-preserved c =
    let o = c.origin-item.result in
    let items = c.args.items.now in
    let xs = take c.loop-origin.origin-index items in
    let fresh : is_there xs o ≡ false =
    sym (c.loop-origin.invariant.members o)
    ∙ fresh_from (contains origin_cmp c.loop-origin.members o) (sym c.if-not-is_new.false ∙ c.in_ok-is_new.ensures.added) in
    let longer : take (c.loop-origin.origin-index + 1) items ≡ xs ++ o ∷ [] =
    take_more items c.loop-origin.origin-index o c.loop-origin-test.true ∙ ap (λ (x : Origin). xs ++ x ∷ []) (sym c.origin-item.is) in
    record {
      members = λ q. members_more xs o c.loop-origin.members c.insert.new.self c.loop-origin.invariant.members c.in_ok-is_new.ensures.updates q
          ∙ ap (λ l. is_there l q) (sym longer);
      first = ap first_repeated longer ∙ (first_repeated-push xs o
          ∙ ap₂ (λ (r : Option Origin) b. option_or r (cond b (Some o) None)) c.loop-origin.invariant.first fresh);
    }
