use Rattle.std.proofs.lemmas.Result.{err_from_is_err_and}
use Rattle.cmd_codec.specs.Spelling.{part_spelling}
use Rattle.cmd_codec.specs.Spelling.Part.{TheName}
use Rattle.cmd_codec.proofs.PartLemmas.{child_read, child_bad_name, child_bad_grant}
use Rattle.cmd_codec.proofs.reading.child_and_grant.Goals as goal

pub returns-in_err-child : goal.returns-in_err-child
returns-in_err-child c =
    let p = err_from_is_err_and c.from_residual.result c.from_residual.ensures.1 in
    rw (p.1, p.2) (child_bad_name c.args.cursor.now c.in_err-child.field-0.0 c.in_err-child.ensures)

pub returns-in_err-grant : goal.returns-in_err-grant
returns-in_err-grant c =
    let p = err_from_is_err_and c.from_residual-in_err-grant.result c.from_residual-in_err-grant.ensures.1 in
    rw (p.1, p.2) (child_bad_grant c.args.cursor.now c.name.new.self (part_spelling (TheName c.in_ok-child.child)) c.in_err-grant.field-0.0 c.in_ok-child.ensures.1 c.in_err-grant.ensures)

pub returns : goal.returns
returns c = child_read c.args.cursor.now c.name.new.self c.resources.new.self c.in_ok-child.child c.in_ok-grant.grant c.in_ok-child.ensures.0 c.in_ok-child.ensures.1 c.in_ok-grant.ensures
