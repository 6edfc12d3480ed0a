use Rattle.std.proofs.lemmas.Result.{err_from_is_err_and}
use Rattle.cmd_codec.specs.Spelling.{part_spelling}
use Rattle.cmd_codec.specs.Spelling.Part.{TheOrigins}
use Rattle.cmd_codec.proofs.PartLemmas.{roas_read, roas_bad_added, roas_bad_removed}
use Rattle.cmd_codec.proofs.reading.update_roas.Goals as goal

pub returns-in_err-added : goal.returns-in_err-added
returns-in_err-added c =
    let p = err_from_is_err_and c.from_residual.result c.from_residual.ensures.1 in
    rw (p.1, p.2) (roas_bad_added c.args.cursor.now c.origins.new.self c.in_err-added.field-0.0 c.in_err-added.ensures)

pub returns-in_err-removed : goal.returns-in_err-removed
returns-in_err-removed c =
    let p = err_from_is_err_and c.from_residual-in_err-removed.result c.from_residual-in_err-removed.ensures.1 in
    rw (p.1, p.2) (roas_bad_removed c.args.cursor.now c.origins.new.self c.origins-2.new.self (part_spelling (TheOrigins c.in_ok-added.added)) c.in_err-removed.field-0.0 c.in_ok-added.ensures.1 c.in_err-removed.ensures)

pub returns : goal.returns
returns c =
    roas_read c.args.cursor.now c.origins.new.self c.origins-2.new.self c.in_ok-added.added c.in_ok-removed.removed c.in_ok-added.ensures.0 c.in_ok-removed.ensures.0 c.in_ok-added.ensures.1 c.in_ok-removed.ensures.1
