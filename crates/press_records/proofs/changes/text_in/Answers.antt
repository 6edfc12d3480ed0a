use Rattle.std.proofs.Common.{ℕ, List, Some, sym, ap, ◌∙◌}
use Rattle.std.specs.Prelude.{Option}
use Rattle.press_records.proofs.Texts.{text_told, none_told}
use Rattle.press_records.proofs.changes.text_in.Goals as goal

abbrev some-text : List ℕ → Option (List ℕ)
some-text text = Some text

pub returns-in-Ok : goal.returns-in-Ok
returns-in-Ok c = ap some-text c.in-Ok.ensures.cases.0 ∙ sym (text_told c.args.bytes.now c.in-Ok.ensures.cases.1)

pub returns-in-Err : goal.returns-in-Err
returns-in-Err c = sym (none_told c.args.bytes.now c.in-Err.ensures.cases.0)
