use Rattle.json_api.specs.Refused.{detail_text}
use Rattle.json_api.proofs.Escapes.{escape-letters, refusal_spelling-plain}
use Rattle.json_api.proofs.refusals.refusal_into.Goals as goal

pub returns-clause-text : goal.returns-clause-text
returns-clause-text c =
    let e = refusal_spelling-plain c.args.out.now.items c.args.code (detail_text c.args.detail) c.args.name.now c.detail_into.ensures.plain
    (escape-letters c.args.name.now c.requires.letters) in
    cc
