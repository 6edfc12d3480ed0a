use Rattle.editions.proofs.ObjectLemmas.MadeObjects.{objects-made}
use Rattle.editions.proofs.object_laws.issued_objects_are_new_ones.Goals as goal

pub returns : goal.returns
returns c = λ vouched plan_input work trace old new plan homes inputs spelled are.
    objects-made vouched plan_input work trace old new plan homes inputs spelled are
