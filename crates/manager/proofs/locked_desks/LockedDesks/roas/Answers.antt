use Rattle.std.proofs.Common.{ℕ, List, sym, subst, arith}
use Rattle.std.specs.Prelude.{Some}
use Rattle.std.proofs.lemmas.Result.{err_from_is_err_and}
use Rattle.manager.specs.Passes.{anchor_desk, IsNamed}
use Rattle.manager.specs.Reading.{AreShownRoas}
use Rattle.manager.specs.declared.locked_desks_answers.ShownRoa.{ShownRoa}
use Rattle.manager.specs.declared.locked_desks_answers.ShownRoas.{ShownRoas}
use Rattle.origins.specs.declared.Origin.{Origin}
use Rattle.manager.proofs.Knowing.{learned_rest, named_stays}
use Rattle.manager.proofs.Reading.{read_learned, looked_learned, looked_named, roas_are}
use Rattle.manager.proofs.locked_desks.LockedDesks.roas.Goals as goal

pub returns-in_default-clause-learned : goal.returns-in_default-clause-learned
returns-in_default-clause-learned g c = learned_rest c.args.pass.now c.find.new.pass c.find.ensures.rest c.find.ensures.more

pub returns-in_default-clause-unread : goal.returns-in_default-clause-unread
returns-in_default-clause-unread g c = c.in_default.ensures.named

pub returns-in_err-origins-clause-learned : goal.returns-in_err-origins-clause-learned
returns-in_err-origins-clause-learned g c = read_learned c.args.pass.now c.find.new.pass c.origins-origins.new.pass c.find.ensures.rest c.find.ensures.more c.origins-origins.ensures.rest c.origins-origins.ensures.more

pub returns-in_err-origins-clause-unread : goal.returns-in_err-origins-clause-unread
returns-in_err-origins-clause-unread g c =
    let p = err_from_is_err_and c.from_residual.result c.from_residual.ensures.1 in
    let is : (desk : ℕ) × IsNamed c.origins-origins.new.pass.seats c.args.name.now (Some desk) = (
      c.in-Some.desk,
      named_stays c.commands_are_determined.ensures c.find.new.pass.seats c.origins-origins.new.pass.seats c.args.name.now c.in-Some.desk
          (c.origins-origins.ensures.more.each anchor_desk).grows (c.desks.ensures.known anchor_desk (omega arith)) c.in-Some.ensures.named,
    ) in
    rw (p.1, p.2) is

pub returns-in_err-row-clause-learned : goal.returns-in_err-row-clause-learned
returns-in_err-row-clause-learned g c = looked_learned c.args.pass.now c.find.new.pass c.origins-origins.new.pass c.row.new.self c.find.ensures.rest c.find.ensures.more c.origins-origins.ensures.rest c.origins-origins.ensures.more c.row.ensures.rest c.row.ensures.grows

pub returns-in_err-row-clause-unread : goal.returns-in_err-row-clause-unread
returns-in_err-row-clause-unread g c =
    let p = err_from_is_err_and c.from_residual-in_err-row.result c.from_residual-in_err-row.ensures.1 in
    let is : (desk : ℕ) × IsNamed c.row.new.self.seats c.args.name.now (Some desk) = (
      c.in-Some.desk,
      looked_named c.origins-origins.new.pass c.row.new.self c.args.name.now c.in-Some.desk c.row.ensures.rest
          (named_stays c.commands_are_determined.ensures c.find.new.pass.seats c.origins-origins.new.pass.seats c.args.name.now c.in-Some.desk
          (c.origins-origins.ensures.more.each anchor_desk).grows (c.desks.ensures.known anchor_desk (omega arith)) c.in-Some.ensures.named),
    ) in
    rw (p.1, p.2) is

pub returns-in_err-rows-clause-learned : goal.returns-in_err-rows-clause-learned
returns-in_err-rows-clause-learned g c = looked_learned c.args.pass.now c.find.new.pass c.origins-origins.new.pass c.row.new.self c.find.ensures.rest c.find.ensures.more c.origins-origins.ensures.rest c.origins-origins.ensures.more c.row.ensures.rest c.row.ensures.grows

pub returns-in_err-rows-clause-unread : goal.returns-in_err-rows-clause-unread
returns-in_err-rows-clause-unread g c =
    let p = err_from_is_err_and c.from_residual-in_err-rows.result c.from_residual-in_err-rows.ensures.1 in
    let is : (desk : ℕ) × IsNamed c.row.new.self.seats c.args.name.now (Some desk) = (
      c.in-Some.desk,
      looked_named c.origins-origins.new.pass c.row.new.self c.args.name.now c.in-Some.desk c.row.ensures.rest
          (named_stays c.commands_are_determined.ensures c.find.new.pass.seats c.origins-origins.new.pass.seats c.args.name.now c.in-Some.desk
          (c.origins-origins.ensures.more.each anchor_desk).grows (c.desks.ensures.known anchor_desk (omega arith)) c.in-Some.ensures.named),
    ) in
    rw (p.1, p.2) is

pub returns-clause-learned : goal.returns-clause-learned
returns-clause-learned g c = looked_learned c.args.pass.now c.find.new.pass c.origins-origins.new.pass c.row.new.self c.find.ensures.rest c.find.ensures.more c.origins-origins.ensures.rest c.origins-origins.ensures.more c.row.ensures.rest c.row.ensures.grows

pub returns-clause-roas : goal.returns-clause-roas
returns-clause-roas g c =
    let roas : ShownRoas = record { rows = c.new.result; serial = c.last_seen.result } in
    let row = c.in_ok-row.row in
    let origins = c.in_ok-origins.origins.items in
    let states : AreShownRoas row origins c.new.result =
    subst (λ (l : List Origin). AreShownRoas row l c.new.result) c.as_slice.ensures.value
    (subst (λ (l : List ShownRoa). AreShownRoas row c.as_slice.result.now l) (sym c.new.ensures) c.in_ok-rows.ensures) in
    roas_are c.args.name.now c.origins-origins.new.pass c.row.new.self roas row origins c.in-Some.desk c.row.ensures.rest (named_stays c.commands_are_determined.ensures c.find.new.pass.seats c.origins-origins.new.pass.seats c.args.name.now c.in-Some.desk
    (c.origins-origins.ensures.more.each anchor_desk).grows (c.desks.ensures.known anchor_desk (omega arith)) c.in-Some.ensures.named) c.in_ok-origins.ensures.origins c.in_ok-row.ensures.row states c.last_seen.ensures.serial
