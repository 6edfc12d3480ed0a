use Rattle.std.proofs.Common.{◌≡◌, ◌∙◌, ◌+◌, ◌++◌, ◌∷◌, [], List, refl, sym, ap, subst, take, arith, rules}
use Rattle.std.proofs.lemmas.List.{take_all, take_more}
use Rattle.origins.specs.declared.Origin.{Origin}
use Rattle.manager.specs.Reading.{AreShownRoas}
use Rattle.manager.specs.declared.locked_desks_answers.ShownRoa.{ShownRoa}
use Rattle.manager.proofs.Reading.{roas_push}
use Rattle.manager.proofs.locked_desks_reads.shown_roas.Goals as goal

pub loop-origin-preserved : goal.loop-origin-preserved
loop-origin-preserved c =
    let i = c.loop-origin.origin-index in
    let all = c.args.origins.now in
    let o = c.origin-item.result in
    let row = c.args.row.now in
    let roas = c.loop-origin.roas.items in
    let roa : ShownRoa = record { origin = o; state = c.state_in.result } in
    let longer : take (i + 1) all ≡ take i all ++ o ∷ [] = take_more all i o c.loop-origin-test.true ∙ ap (λ (x : Origin). take i all ++ x ∷ []) (sym c.origin-item.is) in
    let pushed : c.push.new.self.items ≡ roas ++ roa ∷ [] = search rules in
    subst (λ (l : List ShownRoa). AreShownRoas row (take (i + 1) all) l) (sym pushed)
    (subst (λ (l : List Origin). AreShownRoas row l (roas ++ roa ∷ [])) (sym longer)
    (roas_push row (take i all) roas o roa c.loop-origin.invariant refl c.state_in.ensures))

pub returns : goal.returns
returns c =
    let i = c.loop-origin.origin-index in
    let all = c.args.origins.now in
    subst (λ (l : List Origin). AreShownRoas c.args.row.now l c.loop-origin.roas.items)
    (take_all i all (omega (arith, c.loop-origin-test.false))) c.loop-origin.invariant
