use Rattle.press_core.proofs.Following.{prepared-published}
use Rattle.press_core.proofs.laws.prepared_editions_are_published.Goals as goal

pub returns : goal.returns
returns c = prepared-published c.accepted_names_are_apart.ensures c.same_objects_same_set.ensures c.editions_are_published.ensures
