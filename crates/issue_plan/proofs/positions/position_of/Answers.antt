use Rattle.issue_plan.proofs.PositionLemmas.{search-found, search-missing}
use Rattle.issue_plan.proofs.positions.position_of.Goals as goal

pub returns-in-Ok : goal.returns-in-Ok
returns-in-Ok c =
    search-found c.args.issued.now c.args.uri.now c.in-Ok.position c.requires c.in-Ok.ensures.bound c.in-Ok.ensures.found

pub returns-in-Err : goal.returns-in-Err
returns-in-Err c = search-missing c.args.issued.now c.args.uri.now c.in-Err.field-0 c.requires c.in-Err.ensures.found
