use Rattle.std.proofs.Common.{refl}
use Rattle.editions.proofs.PlanLemmas.Planning.{objects-apart}
use Rattle.editions.proofs.plan_laws.wanted_objects_are_apart.Goals as goal

pub returns : goal.returns
returns c = objects-apart (record {
  anchor = c.files_are_told_apart.ensures.anchor;
  certificates = c.keys_are_told_apart.ensures.certificates;
  crls = c.keys_are_told_apart.ensures.crls;
  manifests = c.keys_are_told_apart.ensures.manifests;
  roas = c.origins_are_told_apart.ensures;
}) (record {
  anchor = c.kinds_are_told_apart.ensures.anchor;
  certificates = c.kinds_are_told_apart.ensures.certificates;
  crls = c.kinds_are_told_apart.ensures.crls;
  manifests = c.kinds_are_told_apart.ensures.manifests;
  roas = c.kinds_are_told_apart.ensures.roas;
}) (λ o. (c.membership_is_by_equality.ensures.same o o).1 refl)
