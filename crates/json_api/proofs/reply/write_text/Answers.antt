use Rattle.std.proofs.Common.{List, [], ◌∷◌, ◌++◌, ◌∙◌, ap}
use Rattle.json.specs.Token.{Token, key, string}
use Rattle.json_api.proofs.Written.{appended-2}
use Rattle.json_api.proofs.reply.write_text.Goals as goal

pub returns-clause-ok : goal.returns-clause-ok
returns-clause-ok c =
    c.in_ok-string.ensures.ok ∙ ap (λ (t : List Token). t ++ string c.args.text.now ∷ []) c.in_ok-key.ensures.ok
    ∙ appended-2 c.args.out.now.tokens (key c.args.name.now) (string c.args.text.now)
