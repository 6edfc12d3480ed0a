use Rattle.std.proofs.Common.{◌∙◌, ap, sym}
use Rattle.std.specs.Prelude.{option_copied}
use Rattle.press_records.proofs.Carrying.{rises-first, rises-last}
use Rattle.press_records.proofs.changes.rises_behind.Goals as goal

pub returns-in-Some : goal.returns-in-Some
returns-in-Some c =
    c.comes_before.ensures
    ∙ sym (rises-last c.args.changes.now c.in-Some.last.now c.args.change.now (sym c.last.ensures.value ∙ ap option_copied c.in-Some.is) c.requires)

pub returns-in-None : goal.returns-in-None
returns-in-None c =
    sym (rises-first c.args.changes.now c.args.change.now (sym c.last.ensures.value ∙ ap option_copied c.in-None.is))
