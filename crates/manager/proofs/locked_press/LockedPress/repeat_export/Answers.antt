use Rattle.std.proofs.Common.{◌∙◌, sym, ap}
use Rattle.manager.proofs.Refused.{not_exported}
use Rattle.manager.proofs.locked_press.LockedPress.repeat_export.Goals as goal

pub export-requires : goal.export-requires
export-requires g c =
    let press = c.args.self.now.press.press in
    not_exported press.last_export press.at.serial (sym c.is_exported.ensures ∙ c.if-is_exported.false)
