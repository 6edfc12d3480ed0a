use Rattle.std.proofs.Common.{◌≡◌, List, [], ◌∷◌, sym, subst, ◌∙◌}
use Rattle.json.specs.Token.{Token}
use Rattle.json_api.specs.inner.Passes.{ReadsMembers}
use Rattle.json_api.proofs.Passes.{object_read}
use Rattle.json_api.proofs.tokens.read_slots.Goals as goal

pub returns : goal.returns
returns c good =
    let opened : c.new-reader.result ≡ Token.begin_object ∷ c.begins_object.new.self = c.if-not-begins_object.ensures.taken in
    let members = c.in_ok-read_members.ensures c.if-not-branch.false in
    let over : c.read_members.new.reader ≡ [] = c.is_over.ensures good in (
      members.0,
      object_read c.args.text.now c.begins_object.new.self members.0 (sym c.new-reader.ensures ∙ opened)
          (subst (λ (r : List Token). ReadsMembers c.begins_object.new.self members.0 r) over members.1),
      members.2,
    )
