use Rattle.std.proofs.Common.{ℕ, List, subst}
use Rattle.std.specs.List.{AllPass}
use Rattle.names.specs.Name.{is_name_byte}
use Rattle.json_api.proofs.Escapes.{accepted_spelling-name}
use Rattle.json_api.proofs.reply.accepted_into.Goals as goal

pub returns-clause-text : goal.returns-clause-text
returns-clause-text c =
    let e = accepted_spelling-name c.args.out.now.items c.args.name.now c.args.count (subst (λ (t : List ℕ). AllPass is_name_byte t) c.as_bytes.ensures.bytes c.as_bytes.ensures.rule.plain) in
    cc
