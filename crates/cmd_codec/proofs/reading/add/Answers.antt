use Rattle.std.proofs.lemmas.Result.{err_from_is_err_and}
use Rattle.cmd_codec.specs.Spelling.{part_spelling}
use Rattle.cmd_codec.specs.Spelling.Part.{TheName}
use Rattle.cmd_codec.proofs.PartLemmas.{add_read, add_bad_name, add_bad_signer}
use Rattle.cmd_codec.proofs.reading.add.Goals as goal

pub returns-in_err-name : goal.returns-in_err-name
returns-in_err-name c =
    let p = err_from_is_err_and c.from_residual.result c.from_residual.ensures.1 in
    rw (p.1, p.2) (add_bad_name c.args.cursor.now c.name.new.self c.in_err-name.field-0.0 c.in_err-name.ensures)

pub returns-in_err-signer : goal.returns-in_err-signer
returns-in_err-signer c =
    let p = err_from_is_err_and c.from_residual-in_err-signer.result c.from_residual-in_err-signer.ensures.1 in
    rw (p.1, p.2) (add_bad_signer c.args.cursor.now c.name.new.self c.number.new.self (part_spelling (TheName c.in_ok-name.name)) c.in_err-signer.field-0.0 c.in_ok-name.ensures.1 c.in_err-signer.ensures.reads)

pub returns : goal.returns
returns c =
    add_read c.args.cursor.now c.name.new.self c.number.new.self c.in_ok-name.name c.in_ok-signer.signer c.in_ok-name.ensures.0 c.in_ok-signer.ensures.reads.0 c.in_ok-name.ensures.1 c.in_ok-signer.ensures.reads.1
