use Rattle.std.proofs.Common.{rules}
use Rattle.issue_plan.proofs.PlaceLemmas.{none-noted, own-position}
use Rattle.issue_plan.proofs.owed_places.noted.Goals as goal

pub loop-position-init : goal.loop-position-init
loop-position-init c = record {
  folder = tt;
  noted = none-noted c.args.standing.now c.args.owed.now c.in_ok-noted.noted.items
      (c.in_ok-noted.ensures.items_if_clones_equal (λ y h. search rules));
}

pub loop-position-preserved : goal.loop-position-preserved
loop-position-preserved c =
    let s = c.args.standing.now in
    let issued = s.issued.now in
    let row = c.index-standing-position.result in
    record {
      folder = c.in_ok-move_to.ensures;
      noted = c.in_ok-note.ensures s c.in_ok-move_to.ensures
          (own-position issued c.loop-position.position row c.requires c.loop-position-test.true)
          c.loop-position.invariant.noted;
    }
