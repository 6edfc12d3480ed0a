use Rattle.std.proofs.Common.{◌≡◌, ℕ, List, [], ◌∷◌, ◌++◌, ap, ◌∙◌}
use Rattle.json.specs.Token.{Token}
use Rattle.json.specs.Print.{print}
use Rattle.json_api.proofs.Written.{print-string}
use Rattle.json_api.proofs.texts.quoted_bytes.Goals as goal

pub returns : goal.returns
returns c =
    let text = c.args.text.now in
    let tokens : c.string.new.self.tokens ≡ Token.string text ∷ []
    = c.in_ok-string.ensures.ok ∙ ap (λ (t : List Token). t ++ Token.string text ∷ []) c.new-writer.ensures.tokens in
    let before : c.string.new.self.before ≡ [] = c.string.ensures.room.0 ∙ c.new-writer.ensures.before ∙ c.new.ensures.items in
    c.into_inner.ensures.items ∙ ap (λ (b : List ℕ). b ++ print c.string.new.self.tokens) before ∙ ap print tokens ∙ print-string text
