use Rattle.std.proofs.Common.{◌≡◌, ◌+◌, ◌∷◌, [], ◌++◌, take, ap, sym, ◌∙◌, arith}
use Rattle.std.proofs.lemmas.List.{take_more}
use Rattle.origins.specs.declared.Origin.{Origin}
use Rattle.json_api.specs.Texts.{origin_member}
use Rattle.json_api.proofs.Commas.{turn}
use Rattle.json_api.proofs.history.push_origin_texts.Goals as goal

pub loop-origin-preserved : goal.loop-origin-preserved
loop-origin-preserved c =
    let i = c.loop-origin.origin-index in
    let list = c.args.origins.now in
    let x = c.origin-item.result in
    let longer : take (i + 1) list ≡ take i list ++ x ∷ []
    = take_more list i x (omega arith) ∙ ap (λ (w : Origin). take i list ++ w ∷ []) (sym c.origin-item.is) in
    turn origin_member list i x c.args.out.now.items c.loop-origin.out.items c.loop-origin.between.now c.extend_from_slice.new.self.items c.push_origin.new.out.items longer
    c.loop-origin.invariant c.in_ok-extend_from_slice.ensures.items c.in_ok-push_origin.ensures
