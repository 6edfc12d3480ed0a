use Rattle.std.proofs.Common.{◌<◌, ◌≤◌, length, rules}
use Rattle.issue_plan.proofs.PositionLemmas.{one-mark, past-mark}
use Rattle.issue_plan.proofs.positions.mark_at.Goals as goal

pub returns-then-position-len : goal.returns-then-position-len
returns-then-position-len c = λ count positions are.
    let inside : c.args.position < length c.args.marks.now.items = search rules in
    one-mark count positions c.args.marks.now.items c.args.position inside are

pub returns-else-position-len : goal.returns-else-position-len
returns-else-position-len c = λ count positions are.
    let past : length c.args.marks.now.items ≤ c.args.position = search rules in
    past-mark count positions c.args.marks.now.items c.args.position past are
