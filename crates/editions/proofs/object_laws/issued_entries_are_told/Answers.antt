use Rattle.editions.proofs.ObjectLemmas.Entries.{are-listed}
use Rattle.editions.proofs.object_laws.issued_entries_are_told.Goals as goal

pub returns : goal.returns
returns c = λ plan_input work trace old changes plan is table each.
    are-listed plan_input work trace old changes plan is table each
