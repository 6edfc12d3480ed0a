use Rattle.manager.proofs.Knowing.{knows_on, rest_on, learned_rest}
use Rattle.manager.proofs.locked_desks.LockedDesks.list.Goals as goal

pub returns-in_err-tree-clause-learned : goal.returns-in_err-tree-clause-learned
returns-in_err-tree-clause-learned g c = learned_rest c.args.pass.now c.tree.new.pass c.tree.ensures.rest c.tree.ensures.more

pub returns-clause-learned : goal.returns-clause-learned
returns-clause-learned g c =
    learned_rest c.args.pass.now c.list_rows.new.pass (rest_on c.args.pass.now c.tree.new.pass c.list_rows.new.pass c.tree.ensures.rest c.list_rows.ensures.rest)
    (knows_on c.args.pass.now.seats c.tree.new.pass.seats c.list_rows.new.pass.seats c.tree.ensures.more c.list_rows.ensures.more)
