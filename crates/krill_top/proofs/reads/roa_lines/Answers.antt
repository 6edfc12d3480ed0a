use Rattle.std.proofs.Common.{◌≡◌, ◌∙◌, ◌+◌, ◌++◌, ◌∷◌, [], List, refl, sym, ap, subst, take, arith, rules}
use Rattle.std.proofs.lemmas.List.{take_all, take_more}
use Rattle.std.specs.Prelude.{option_copied}
use Rattle.origins.specs.declared.Origin.{Origin}
use Rattle.json_api.specs.declared.texts.RoaLine.{RoaLine}
use Rattle.krill_top.specs.Reads.{AreRoaLines}
use Rattle.krill_top.proofs.Reading.{roa_lines_push}
use Rattle.krill_top.proofs.reads.roa_lines.Goals as goal

pub loop-origin-preserved : goal.loop-origin-preserved
loop-origin-preserved c =
    let i = c.loop-origin.origin-index in
    let all = c.args.origins.now in
    let o = c.origin-item.result in
    let row = option_copied c.args.row in
    let lines = c.loop-origin.lines.items in
    let line : RoaLine = record { origin = o; state = c.state_by.result } in
    let longer : take (i + 1) all ≡ take i all ++ o ∷ [] = take_more all i o c.loop-origin-test.true ∙ ap (λ (x : Origin). take i all ++ x ∷ []) (sym c.origin-item.is) in
    let pushed : c.push.new.self.items ≡ lines ++ line ∷ [] = search rules in
    subst (λ (l : List RoaLine). AreRoaLines row (take (i + 1) all) l) (sym pushed)
    (subst (λ (l : List Origin). AreRoaLines row l (lines ++ line ∷ [])) (sym longer)
    (roa_lines_push row (take i all) lines o line c.loop-origin.invariant refl c.state_by.ensures))

pub returns : goal.returns
returns c =
    let i = c.loop-origin.origin-index in
    let all = c.args.origins.now in
    subst (λ (l : List Origin). AreRoaLines (option_copied c.args.row) l c.loop-origin.lines.items)
    (take_all i all (omega (arith, c.loop-origin-test.false))) c.loop-origin.invariant
