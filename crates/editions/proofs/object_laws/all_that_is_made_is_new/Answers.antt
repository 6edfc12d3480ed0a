use Rattle.editions.proofs.ObjectLemmas.MadeManifests.{all-made}
use Rattle.editions.proofs.object_laws.all_that_is_made_is_new.Goals as goal

pub returns : goal.returns
returns c = λ vouched plan_input work trace old new plan homes is_trace kept stand inputs spelled are contents
    lasts.
    all-made vouched plan_input work trace old new plan homes is_trace kept stand inputs spelled are contents
    lasts
