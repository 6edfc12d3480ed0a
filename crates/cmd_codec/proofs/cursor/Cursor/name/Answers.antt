use Rattle.std.proofs.lemmas.Result.{err_from_is_err_and}
use Rattle.cmd_codec.proofs.PartLemmas.{bad_name, name_read}
use Rattle.cmd_codec.proofs.cursor.Cursor.name.Goals as goal

pub returns-in_err-len : goal.returns-in_err-len
returns-in_err-len c =
    let p = err_from_is_err_and c.from_residual.result c.from_residual.ensures.1 in
    rw (p.1, p.2) (bad_name c.args.self.now c.in_err-len.field-0.0 c.in_err-len.ensures)

pub returns : goal.returns
returns c =
    let (is, some, short, first) = c.in_ok-len.ensures in
    name_read c.args.self.now c.name_length.new.self c.name_of.new.self c.in_ok-len.len c.name_of.result is first c.name_of.ensures
