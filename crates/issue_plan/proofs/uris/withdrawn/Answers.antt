use Rattle.std.proofs.Common.{◌≡◌, ℕ, Bool, List, ◌++◌, length, refl, sym, ap, subst, ◌∙◌}
use Rattle.std.specs.List.{filter_map}
use Rattle.std.proofs.lemmas.List.Elements.{filter_map-append}
use Rattle.issue_plan.specs.inner.Positions.{AreMarks, position_in}
use Rattle.issue_plan.proofs.PositionLemmas.{withdrawn-are}
use Rattle.issue_plan.proofs.uris.withdrawn.Goals as goal

pub unmarked_uris-requires : goal.unmarked_uris-requires
unmarked_uris-requires c =
    ap length c.deref-2.ensures.value
    ∙ (c.mark_found.ensures (length c.args.issued.now) c.deref.result.now c.in_ok-marks.ensures).long

pub returns : goal.returns
returns c = λ others same.
    let issued = c.args.issued.now in
    let wanted = c.args.wanted.now in
    let all : c.deref.result.now ++ filter_map (λ p. p) c.args.found.now ≡ filter_map (position_in issued) (wanted ++ others) =
    ap (λ (l : List ℕ). l ++ filter_map (λ p. p) c.args.found.now) (c.deref.ensures.value ∙ c.in_ok-positions.ensures)
    ∙ (ap (λ (l : List ℕ). filter_map (position_in issued) wanted ++ l) same
    ∙ sym (filter_map-append (position_in issued) wanted others)) in
    withdrawn-are issued (wanted ++ others) (length issued)
    (c.deref.result.now ++ filter_map (λ p. p) c.args.found.now) c.deref-2.result.now c.in_ok-uris.uris.items
    c.requires refl all
    (subst (λ (l : List Bool). AreMarks (length issued) (c.deref.result.now ++ filter_map (λ p. p) c.args.found.now) l) (sym c.deref-2.ensures.value)
    (c.mark_found.ensures (length issued) c.deref.result.now c.in_ok-marks.ensures))
    c.in_ok-uris.ensures
