use Rattle.std.proofs.Common.{◌≡◌, ◌+◌, ◌∷◌, [], ◌++◌, take, ap, sym, ◌∙◌, arith}
use Rattle.std.proofs.lemmas.List.{take_more}
use Rattle.json_api.specs.declared.texts.ListLine.{ListLine}
use Rattle.json_api.specs.Texts.{list_line}
use Rattle.json_api.proofs.Commas.{turn}
use Rattle.json_api.proofs.texts.push_list_lines.Goals as goal

pub loop-line-preserved : goal.loop-line-preserved
loop-line-preserved c =
    let i = c.loop-line.line-index in
    let list = c.args.lines.now in
    let x = c.line-item.result in
    let longer : take (i + 1) list ≡ take i list ++ x ∷ []
    = take_more list i x (omega arith) ∙ ap (λ (w : ListLine). take i list ++ w ∷ []) (sym c.line-item.is) in
    turn list_line list i x c.args.out.now.items c.loop-line.out.items c.loop-line.between.now c.extend_from_slice.new.self.items c.push_list_line.new.out.items longer
    c.loop-line.invariant c.in_ok-extend_from_slice.ensures.items c.in_ok-push_list_line.ensures
