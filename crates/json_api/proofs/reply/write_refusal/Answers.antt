use Rattle.std.proofs.Common.{ℕ, List, [], ◌∷◌, ◌++◌, ◌∙◌, ap, codes}
use Rattle.json.specs.Token.{Token, begin_object, end_object}
use Rattle.json_api.specs.inner.Tokens.{text_member, number_member}
use Rattle.json_api.proofs.Written.{appended-members}
use Rattle.json_api.proofs.reply.write_refusal.Goals as goal

pub returns-clause-ok : goal.returns-clause-ok
returns-clause-ok c =
    c.in_ok-end_object.ensures.ok
    ∙ ap (λ (t : List Token). t ++ end_object ∷ []) (c.in_ok-write_text-2.ensures.ok
    ∙ ap (λ (t : List Token). t ++ text_member (codes "refused") c.args.refused.now) (c.in_ok-write_text.ensures.ok
    ∙ ap (λ (t : List Token). t ++ text_member (codes "detail") c.args.detail.now) (c.in_ok-write_number.ensures.ok
    ∙ (ap (λ (n : ℕ). c.begin_object.new.self.tokens ++ number_member (codes "code") n) c.from.ensures
    ∙ ap (λ (t : List Token). t ++ number_member (codes "code") c.args.code) c.in_ok-begin_object.ensures.ok))))
    ∙ appended-members c.args.out.now.tokens begin_object (number_member (codes "code") c.args.code)
    (text_member (codes "detail") c.args.detail.now) (text_member (codes "refused") c.args.refused.now) end_object
