use Rattle.editions.proofs.WalkLemmas.Rows.{of-tree}
use Rattle.editions.proofs.published_laws.keys_are_of_a_tree.Goals as goal

pub returns : goal.returns
returns c = of-tree
