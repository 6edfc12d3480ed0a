use Rattle.std.proofs.Common.{ℕ, arith}
use Rattle.std.specs.Prelude.{Some}
use Rattle.std.proofs.lemmas.Result.{err_from_is_err_and}
use Rattle.manager.specs.Passes.{anchor_desk, IsNamed}
use Rattle.manager.proofs.Knowing.{knows_on, rest_on, learned_rest, named_stays}
use Rattle.manager.proofs.locked_desks.LockedDesks.history.Goals as goal

pub returns-in_default-clause-learned : goal.returns-in_default-clause-learned
returns-in_default-clause-learned g c = learned_rest c.args.pass.now c.find.new.pass c.find.ensures.rest c.find.ensures.more

pub returns-in_default-clause-unread : goal.returns-in_default-clause-unread
returns-in_default-clause-unread g c = c.in_default.ensures.named

pub returns-in_err-commands-clause-learned : goal.returns-in_err-commands-clause-learned
returns-in_err-commands-clause-learned g c =
    learned_rest c.args.pass.now c.commands-commands.new.pass (rest_on c.args.pass.now c.find.new.pass c.commands-commands.new.pass c.find.ensures.rest c.commands-commands.ensures.rest)
    (knows_on c.args.pass.now.seats c.find.new.pass.seats c.commands-commands.new.pass.seats c.find.ensures.more c.commands-commands.ensures.more)

pub returns-in_err-commands-clause-unread : goal.returns-in_err-commands-clause-unread
returns-in_err-commands-clause-unread g c =
    let p = err_from_is_err_and c.from_residual.result c.from_residual.ensures.1 in
    let is : (desk : ℕ) × IsNamed c.commands-commands.new.pass.seats c.args.name.now (Some desk) = (
      c.in-Some.desk,
      named_stays c.commands_are_determined.ensures c.find.new.pass.seats c.commands-commands.new.pass.seats c.args.name.now c.in-Some.desk
          (c.commands-commands.ensures.more.each anchor_desk).grows (c.desks.ensures.known anchor_desk (omega arith)) c.in-Some.ensures.named,
    ) in
    rw (p.1, p.2) is

pub returns-clause-learned : goal.returns-clause-learned
returns-clause-learned g c =
    learned_rest c.args.pass.now c.commands-commands.new.pass (rest_on c.args.pass.now c.find.new.pass c.commands-commands.new.pass c.find.ensures.rest c.commands-commands.ensures.rest)
    (knows_on c.args.pass.now.seats c.find.new.pass.seats c.commands-commands.new.pass.seats c.find.ensures.more c.commands-commands.ensures.more)

pub returns-clause-commands : goal.returns-clause-commands
returns-clause-commands g c = record {
  desk = c.in-Some.desk;
  named = named_stays c.commands_are_determined.ensures c.find.new.pass.seats c.commands-commands.new.pass.seats c.args.name.now c.in-Some.desk
      (c.commands-commands.ensures.more.each anchor_desk).grows (c.desks.ensures.known anchor_desk (omega arith)) c.in-Some.ensures.named;
  known = c.in_ok-commands.ensures.commands;
}
