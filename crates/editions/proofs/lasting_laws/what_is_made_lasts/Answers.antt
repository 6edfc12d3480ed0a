use Rattle.editions.proofs.WalkLemmas.Lasting.{object-lasts}
use Rattle.editions.proofs.lasting_laws.what_is_made_lasts.Goals as goal

pub returns : goal.returns
returns c = λ premises editions uri bytes position steps made tree plain s authority looks of.
    object-lasts premises editions steps (record {
      anchors = c.lasting_rules_last.ensures.anchors;
      certificates = c.lasting_rules_last.ensures.certificates;
      manifests = c.lasting_rules_last.ensures.manifests;
      crls = c.lasting_rules_last.ensures.crls;
      roas = c.lasting_rules_last.ensures.roas;
    }) uri bytes position made tree plain s looks authority of
