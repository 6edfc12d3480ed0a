use Rattle.std.proofs.Common.{List, [], ◌∷◌, ◌++◌, ◌∙◌, ap, decimal}
use Rattle.json.specs.Token.{Token, key, number}
use Rattle.json_api.proofs.Written.{appended-2}
use Rattle.json_api.proofs.reply.write_number.Goals as goal

pub returns-clause-ok : goal.returns-clause-ok
returns-clause-ok c =
    c.in_ok-u64.ensures.ok ∙ ap (λ (t : List Token). t ++ number (decimal c.args.n) ∷ []) c.in_ok-key.ensures.ok
    ∙ appended-2 c.args.out.now.tokens (key c.args.name.now) (number (decimal c.args.n))
