use Rattle.std.proofs.Common.{ℕ, arith}
use Rattle.std.specs.Prelude.{Some}
use Rattle.std.proofs.lemmas.Result.{err_from_is_err_and}
use Rattle.manager.specs.Passes.{anchor_desk, IsNamed}
use Rattle.manager.proofs.Knowing.{learned_rest, named_stays}
use Rattle.manager.proofs.Reading.{read_learned, looked_learned, looked_named, shown_is}
use Rattle.manager.proofs.locked_desks.LockedDesks.show.Goals as goal

pub returns-in_default-clause-learned : goal.returns-in_default-clause-learned
returns-in_default-clause-learned g c = learned_rest c.args.pass.now c.find.new.pass c.find.ensures.rest c.find.ensures.more

pub returns-in_default-clause-unread : goal.returns-in_default-clause-unread
returns-in_default-clause-unread g c = c.in_default.ensures.named

pub returns-in_err-family-clause-learned : goal.returns-in_err-family-clause-learned
returns-in_err-family-clause-learned g c = read_learned c.args.pass.now c.find.new.pass c.family-family.new.pass c.find.ensures.rest c.find.ensures.more c.family-family.ensures.rest c.family-family.ensures.more

pub returns-in_err-family-clause-unread : goal.returns-in_err-family-clause-unread
returns-in_err-family-clause-unread g c =
    let p = err_from_is_err_and c.from_residual.result c.from_residual.ensures.1 in
    let is : (desk : ℕ) × IsNamed c.family-family.new.pass.seats c.args.name.now (Some desk) = (
      c.in-Some.desk,
      named_stays c.commands_are_determined.ensures c.find.new.pass.seats c.family-family.new.pass.seats c.args.name.now c.in-Some.desk
          (c.family-family.ensures.more.each anchor_desk).grows (c.desks.ensures.known anchor_desk (omega arith)) c.in-Some.ensures.named,
    ) in
    rw (p.1, p.2) is

pub returns-in_err-row-clause-learned : goal.returns-in_err-row-clause-learned
returns-in_err-row-clause-learned g c = looked_learned c.args.pass.now c.find.new.pass c.family-family.new.pass c.row.new.self c.find.ensures.rest c.find.ensures.more c.family-family.ensures.rest c.family-family.ensures.more c.row.ensures.rest c.row.ensures.grows

pub returns-in_err-row-clause-unread : goal.returns-in_err-row-clause-unread
returns-in_err-row-clause-unread g c =
    let p = err_from_is_err_and c.from_residual-in_err-row.result c.from_residual-in_err-row.ensures.1 in
    let is : (desk : ℕ) × IsNamed c.row.new.self.seats c.args.name.now (Some desk) = (
      c.in-Some.desk,
      looked_named c.family-family.new.pass c.row.new.self c.args.name.now c.in-Some.desk c.row.ensures.rest
          (named_stays c.commands_are_determined.ensures c.find.new.pass.seats c.family-family.new.pass.seats c.args.name.now c.in-Some.desk
          (c.family-family.ensures.more.each anchor_desk).grows (c.desks.ensures.known anchor_desk (omega arith)) c.in-Some.ensures.named),
    ) in
    rw (p.1, p.2) is

pub returns-clause-learned : goal.returns-clause-learned
returns-clause-learned g c = looked_learned c.args.pass.now c.find.new.pass c.family-family.new.pass c.row.new.self c.find.ensures.rest c.find.ensures.more c.family-family.ensures.rest c.family-family.ensures.more c.row.ensures.rest c.row.ensures.grows

pub returns-clause-shown : goal.returns-clause-shown
returns-clause-shown g c =
    shown_is c.args.name.now c.family-family.new.pass c.row.new.self _ c.in-Some.desk c.row.ensures.rest (named_stays c.commands_are_determined.ensures c.find.new.pass.seats c.family-family.new.pass.seats c.args.name.now c.in-Some.desk
    (c.family-family.ensures.more.each anchor_desk).grows (c.desks.ensures.known anchor_desk (omega arith)) c.in-Some.ensures.named) c.in_ok-family.ensures.family c.in_ok-row.ensures.row c.last_seen.ensures.serial
