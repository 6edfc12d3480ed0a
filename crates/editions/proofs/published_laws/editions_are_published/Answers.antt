use Rattle.editions.proofs.WalkLemmas.Assembled.{published}
use Rattle.editions.proofs.published_laws.editions_are_published.Goals as goal

pub returns : goal.returns
returns c = λ premises editions edition objects steps tree plain ascending are.
    published c.certificates_have_own_serials.ensures c.files_are_told_apart.ensures.anchor
    (record {
      anchor = c.kinds_are_told_apart.ensures.anchor;
      certificates = c.kinds_are_told_apart.ensures.certificates;
      crls = c.kinds_are_told_apart.ensures.crls;
      manifests = c.kinds_are_told_apart.ensures.manifests;
      roas = c.kinds_are_told_apart.ensures.roas;
    })
    (record {
      files = c.files_are_told_apart.ensures.files;
      certificates = c.keys_are_told_apart.ensures.certificates;
      crls = c.keys_are_told_apart.ensures.crls;
      manifests = c.keys_are_told_apart.ensures.manifests;
      roas = c.origins_are_told_apart.ensures;
    }) c.spans_are_had_by_numbers.ensures c.sets_are_inside_by_numbers.ensures premises editions edition steps
    tree plain objects ascending are
