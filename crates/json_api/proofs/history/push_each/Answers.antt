use Rattle.std.proofs.Common.{◌≡◌, ◌+◌, ◌∷◌, [], ◌++◌, take, ap, sym, ◌∙◌, arith}
use Rattle.std.proofs.lemmas.List.{take_more}
use Rattle.json_api.specs.declared.history.Member.{Member}
use Rattle.json_api.specs.inner.Members.{member_line}
use Rattle.json_api.proofs.Commas.{turn}
use Rattle.json_api.proofs.history.push_each.Goals as goal

pub loop-member-preserved : goal.loop-member-preserved
loop-member-preserved c =
    let i = c.loop-member.member-index in
    let list = c.args.members.now in
    let x = c.member-item.result in
    let longer : take (i + 1) list ≡ take i list ++ x ∷ []
    = take_more list i x (omega arith) ∙ ap (λ (w : Member). take i list ++ w ∷ []) (sym c.member-item.is) in
    turn member_line list i x c.args.out.now.items c.loop-member.out.items c.loop-member.between.now c.extend_from_slice.new.self.items c.push_member.new.out.items longer
    c.loop-member.invariant c.in_ok-extend_from_slice.ensures.items c.in_ok-push_member.ensures
