use Rattle.std.proofs.Common.{◌∙◌, sym}
use Rattle.std.specs.Prelude.{is_some}
use Rattle.manager.specs.Answers.{nothing_behind, is_exported}
use Rattle.manager.proofs.Refused.{known_last, behind_last, none_left, to_repeat, not_exported}
use Rattle.manager.proofs.locked_press.LockedPress.refuse.Goals as goal

-- ---- nothing is exported

pub returns-then-not-is_to_repeat-clause-refused : goal.returns-then-not-is_to_repeat-clause-refused
returns-then-not-is_to_repeat-clause-refused g c = (sym c.serial-serial.ensures, c.requires)

pub returns-then-not-is_to_repeat-clause-left : goal.returns-then-not-is_to_repeat-clause-left
returns-then-not-is_to_repeat-clause-left g c =
    let press = c.args.self.now.press.press in
    none_left (nothing_behind c.args.fault) press.last_export press.at.serial (sym c.is_to_repeat.ensures ∙ c.if-not-is_to_repeat.true)

-- ---- the last edition is exported

pub export-requires : goal.export-requires
export-requires g c =
    let press = c.args.self.now.press.press in
    not_exported press.last_export press.at.serial
    (to_repeat (is_some (nothing_behind c.args.fault)) (is_exported press.last_export press.at.serial) (sym c.is_to_repeat.ensures ∙ c.if-not-is_to_repeat.false)).1

pub returns-in-Err-clause-refused : goal.returns-in-Err-clause-refused
returns-in-Err-clause-refused g c =
    let press = c.args.self.now.press.press in
    known_last c.args.self.now.seats c.args.self.now.board.shown (nothing_behind c.args.fault) (is_exported press.last_export press.at.serial) c.serial-serial.result
    c.requires (sym c.is_to_repeat.ensures ∙ c.if-not-is_to_repeat.false) c.serial-serial.ensures

pub returns-clause-refused : goal.returns-clause-refused
returns-clause-refused g c =
    let press = c.args.self.now.press.press in
    let repeat = sym c.is_to_repeat.ensures ∙ c.if-not-is_to_repeat.false in (
      behind_last c.args.self.now.seats c.args.self.now.board.shown (nothing_behind c.args.fault) (is_exported press.last_export press.at.serial) c.serial-serial.result
          c.requires repeat c.serial-serial.ensures,
      known_last c.args.self.now.seats c.args.self.now.board.shown (nothing_behind c.args.fault) (is_exported press.last_export press.at.serial) c.serial-serial.result
          c.requires repeat c.serial-serial.ensures,
    )
