use Rattle.std.proofs.Common.{◌≡◌, ℕ, List, [], ◌++◌, ◌∙◌, ap}
use Rattle.json.specs.Token.{Token}
use Rattle.json.specs.Print.{print}
use Rattle.json_api.specs.Reply.{refusal_spelling}
use Rattle.json_api.specs.inner.Tokens.{refusal_tokens}
use Rattle.json_api.proofs.Written.{print-refusal}
use Rattle.json_api.proofs.reply.refusal_bytes.Goals as goal

pub returns : goal.returns
returns c =
    let tokens : c.write_refusal.new.out.tokens ≡ refusal_tokens c.args.code c.args.detail.now c.args.refused.now
    = c.in_ok-write_refusal.ensures.ok
    ∙ ap (λ (t : List Token). t ++ refusal_tokens c.args.code c.args.detail.now c.args.refused.now) c.new-writer.ensures.tokens in
    let text : print c.write_refusal.new.out.tokens ≡ refusal_spelling c.args.code c.args.detail.now c.args.refused.now
    = ap print tokens ∙ print-refusal c.args.code c.args.detail.now c.args.refused.now in
    let before : c.write_refusal.new.out.before ≡ []
    = c.write_refusal.ensures.before ∙ c.new-writer.ensures.before ∙ c.in_ok-with_capacity.ensures.items in
    c.into_inner.ensures.items
    ∙ ap (λ (b : List ℕ). b ++ print c.write_refusal.new.out.tokens) before
    ∙ text
