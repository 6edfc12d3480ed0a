use Rattle.std.proofs.Common.{rules}
use Rattle.issue_plan.proofs.PlaceLemmas.{none-noted}
use Rattle.issue_plan.proofs.owed_places.noted_by_name.Goals as goal

pub loop-desk-init : goal.loop-desk-init
loop-desk-init c = record {
  positions = none-noted c.args.standing.now c.args.owed.now c.in_ok-positions.positions.items
      (c.in_ok-positions.ensures.items_if_clones_equal (λ y h. search rules));
  stay = c.in_ok-stay.ensures c.args.standing.now c.args.keys.now c.args.settled.now;
}
