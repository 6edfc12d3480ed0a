use Rattle.issue_plan.proofs.PlaceLemmas.{one-noted}
use Rattle.issue_plan.proofs.owed_places.note_position.Goals as goal

pub returns-then-index-len : goal.returns-then-index-len
returns-then-index-len c = λ s owed inside stands are.
    one-noted s owed c.args.positions.now.items c.args.index c.args.position inside stands are
