use Rattle.editions.proofs.WalkLemmas.AtHome.{at-home}
use Rattle.editions.proofs.lasting_laws.certificates_name_their_folders.Goals as goal

pub returns : goal.returns
returns c = λ premises editions edition steps tree plain. at-home
    (record {
      anchor = c.files_are_told_apart.ensures.anchor;
      certificates = c.keys_are_told_apart.ensures.certificates;
      crls = c.keys_are_told_apart.ensures.crls;
      manifests = c.keys_are_told_apart.ensures.manifests;
      roas = c.origins_are_told_apart.ensures;
    })
    (record {
      anchor = c.kinds_are_told_apart.ensures.anchor;
      certificates = c.kinds_are_told_apart.ensures.certificates;
      crls = c.kinds_are_told_apart.ensures.crls;
      manifests = c.kinds_are_told_apart.ensures.manifests;
      roas = c.kinds_are_told_apart.ensures.roas;
    }) premises editions edition steps tree plain
