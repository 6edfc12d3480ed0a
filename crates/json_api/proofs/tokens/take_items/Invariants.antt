use Rattle.std.proofs.Common.{length}
use Rattle.json_api.proofs.Passes.{PassedItems}
use Rattle.json_api.proofs.tokens.take_items.Given as goal

abbrev pub invariant-items : goal.invariant-items
invariant-items l = PassedItems l.initial.reader l.reader l.origins.items

abbrev pub decreases-items : goal.decreases-items
decreases-items l = length l.reader
