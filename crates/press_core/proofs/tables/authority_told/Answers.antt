use Rattle.std.proofs.Common.{refl, sym, ap, ◌∙◌, rules}
use Rattle.cert_obj.specs.Values.{held_value}
use Rattle.press_core.proofs.tables.authority_told.Goals as goal

pub returns : goal.returns
returns c = (
  c.of.result,
  c.in-Set.resources,
  refl,
  record { home = search rules; kind = sym c.is_entity.ensures ∙ c.if-is_entity.false; subject = c.of.ensures; resources = ap held_value c.in-Set.is },
  record { issuer = refl; serial = refl; not_after = refl },
)
