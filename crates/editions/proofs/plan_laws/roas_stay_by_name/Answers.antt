use Rattle.std.proofs.Common.{refl}
use Rattle.editions.proofs.PlanLemmas.Makings.{stay-by-name}
use Rattle.editions.proofs.plan_laws.roas_stay_by_name.Goals as goal

pub returns : goal.returns
returns c = λ at site signers basis work old new made table published_state follow is_plan making is_table stood. stay-by-name (record {
  planned = c.the_plans_keys_are_next.ensures;
  told = record {
    anchor = c.files_are_told_apart.ensures.anchor;
    certificates = c.keys_are_told_apart.ensures.certificates;
    crls = c.keys_are_told_apart.ensures.crls;
    manifests = c.keys_are_told_apart.ensures.manifests;
    roas = c.origins_are_told_apart.ensures;
  };
  ends = record {
    anchor = c.kinds_are_told_apart.ensures.anchor;
    certificates = c.kinds_are_told_apart.ensures.certificates;
    crls = c.kinds_are_told_apart.ensures.crls;
    manifests = c.kinds_are_told_apart.ensures.manifests;
    roas = c.kinds_are_told_apart.ensures.roas;
  };
  origins = λ o. (c.membership_is_by_equality.ensures.same o o).1 refl;
}) at site signers basis work old new made published_state follow is_plan making table is_table stood
