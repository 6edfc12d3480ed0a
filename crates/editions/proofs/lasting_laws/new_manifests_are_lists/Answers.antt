use Rattle.editions.proofs.WalkLemmas.NewLists.{new-list}
use Rattle.editions.proofs.lasting_laws.new_manifests_are_lists.Goals as goal

pub returns : goal.returns
returns c = λ premises editions uri bytes position steps made kind tree plain authority of manifest read. new-list
    c.certificates_have_own_serials.ensures
    (record {
      anchor = c.files_are_told_apart.ensures.anchor;
      certificates = c.keys_are_told_apart.ensures.certificates;
      crls = c.keys_are_told_apart.ensures.crls;
      manifests = c.keys_are_told_apart.ensures.manifests;
      roas = c.origins_are_told_apart.ensures;
    })
    (record {
      anchor = c.kinds_are_told_apart.ensures.anchor;
      certificates = c.kinds_are_told_apart.ensures.certificates;
      crls = c.kinds_are_told_apart.ensures.crls;
      manifests = c.kinds_are_told_apart.ensures.manifests;
      roas = c.kinds_are_told_apart.ensures.roas;
    }) c.spans_are_had_by_numbers.ensures c.sets_are_inside_by_numbers.ensures
    c.accepted_objects_keep_the_rules.ensures.points premises editions steps uri bytes position made tree plain kind
    authority of manifest read
