use Rattle.std.proofs.Common.{ℕ, List, subst}
use Rattle.std.specs.List.{AllPass}
use Rattle.names.specs.Name.{is_name_byte}
use Rattle.json_api.proofs.Escapes.{escape-name}
use Rattle.json_api.proofs.refusals.name_into.Goals as goal

pub returns-clause-plain : goal.returns-clause-plain
returns-clause-plain c = escape-name c.args.name.now (subst (λ (t : List ℕ). AllPass is_name_byte t) c.as_bytes.ensures.bytes c.as_bytes.ensures.rule.plain)
