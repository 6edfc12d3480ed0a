use Rattle.editions.proofs.ObjectLemmas.Rows.{rows-counted}
use Rattle.editions.proofs.object_laws.issued_rows_are_counted.Goals as goal

pub returns : goal.returns
returns c = λ plan_input work trace plan rows stay moved sorted.
    rows-counted plan_input work trace plan stay rows moved sorted
