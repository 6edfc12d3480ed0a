use Rattle.std.proofs.Common.{◌≡◌, ◌+◌, ◌∷◌, [], ◌++◌, take, ap, sym, ◌∙◌, arith}
use Rattle.std.proofs.lemmas.List.{take_more}
use Rattle.authority_book.specs.declared.rows.Child.{Child}
use Rattle.json_api.specs.Texts.{child_line}
use Rattle.json_api.proofs.Commas.{turn}
use Rattle.json_api.proofs.texts.push_children.Goals as goal

pub loop-child-preserved : goal.loop-child-preserved
loop-child-preserved c =
    let i = c.loop-child.child-index in
    let list = c.args.children.now in
    let x = c.child-item.result in
    let longer : take (i + 1) list ≡ take i list ++ x ∷ []
    = take_more list i x (omega arith) ∙ ap (λ (w : Child). take i list ++ w ∷ []) (sym c.child-item.is) in
    turn child_line list i x c.args.out.now.items c.loop-child.out.items c.loop-child.between.now c.extend_from_slice.new.self.items c.push_child.new.out.items longer
    c.loop-child.invariant c.in_ok-extend_from_slice.ensures.items c.in_ok-push_child.ensures
