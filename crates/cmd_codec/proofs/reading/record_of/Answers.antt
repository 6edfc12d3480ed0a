use Rattle.std.proofs.Common.{sym, subst, arith}
use Rattle.std.proofs.lemmas.Result.{err_from_is_err_and}
use Rattle.cmd_codec.specs.declared.faults.RecordFault.{RecordFault}
use Rattle.cmd_codec.specs.Outcome.{Answers}
use Rattle.std.specs.Prelude.{Err}
use Rattle.cmd_codec.proofs.Records.{no_bytes, bad_row, bad_rest, whole, some_left, none_left}
use Rattle.cmd_codec.proofs.reading.record_of.Goals as goal

pub returns-in_default : goal.returns-in_default
returns-in_default c = no_bytes c.args.bytes.now c.in_default.ensures.cases

pub returns-in_err-command : goal.returns-in_err-command
returns-in_err-command c =
    let p = err_from_is_err_and c.from_residual.result c.from_residual.ensures.1 in
    rw (p.1, p.2) (bad_row c.args.bytes.now c.in-Some.left.now c.in-Some.first.now c.behind_first-cursor.result c.behind_first-cursor.result c.in_err-command.field-0.0
    c.in-Some.ensures.cases.0 c.behind_first-cursor.ensures.at c.behind_first-cursor.ensures.left c.in_err-command.ensures)

pub returns-then-len-gt0 : goal.returns-then-len-gt0
returns-then-len-gt0 c =
    let bad = bad_rest c.args.bytes.now c.in-Some.left.now c.in-Some.first.now c.behind_first-cursor.result c.command_of.new.cursor c.in_ok-command.command
    c.in-Some.ensures.cases.0 c.behind_first-cursor.ensures.at c.behind_first-cursor.ensures.left c.in_ok-command.ensures (some_left c.command_of.new.cursor.left (omega arith)) in
    subst (λ (f : RecordFault). Answers c.args.bytes.now (Err f)) (sym c.fault.ensures) bad

pub returns : goal.returns
returns c =
    whole c.args.bytes.now c.in-Some.left.now c.in-Some.first.now c.behind_first-cursor.result c.command_of.new.cursor c.in_ok-command.command
    c.in-Some.ensures.cases.0 c.behind_first-cursor.ensures.at c.behind_first-cursor.ensures.left c.in_ok-command.ensures (none_left c.command_of.new.cursor.left (omega arith))
