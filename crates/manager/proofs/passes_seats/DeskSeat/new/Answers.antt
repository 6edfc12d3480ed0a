use Rattle.manager.proofs.Making.{none_counted}
use Rattle.manager.proofs.passes_seats.DeskSeat.new.Goals as goal

pub invariant_of-result : goal.invariant_of-result
invariant_of-result c = none_counted c.args.recovered c.args.follower c.requires.recovered c.requires.none
