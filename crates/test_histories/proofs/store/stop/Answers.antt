use Rattle.std.proofs.Common.{List, refl, sym, ap, subst, ◌∙◌}
use Rattle.press_core.specs.Press.{PressValue}
use Rattle.test_histories.specs.declared.done.Done.{Done}
use Rattle.test_histories.specs.Told.{lists_of}
use Rattle.test_histories.specs.Standing.{IsAt}
use Rattle.test_histories.proofs.Reopened.{found_again}
use Rattle.test_histories.proofs.Published.{all_desks, signers_are}
use Rattle.test_histories.proofs.store.stop.Goals as goal

pub reopen-requires-clause-all : goal.reopen-requires-clause-all
reopen-requires-clause-all c = all_desks c.args.store.desks.items c.args.store.press c.args.done.now.items c.requires.at

pub reopen-requires-clause-signers : goal.reopen-requires-clause-signers
reopen-requires-clause-signers c = signers_are c.args.store.desks.items c.args.store.press c.args.done.now.items c.requires.at

pub returns-clause-at : goal.returns-clause-at
returns-clause-at c =
    let reopened = c.in_ok-store.field-0 in
    let is = c.in_ok-store.ensures in
    let new = reopened.store in
    let serial = c.serial-serial.ensures ∙ ap (λ (p : PressValue). p.at.serial) c.press.ensures.press in
    subst (λ (done : List Done). IsAt new.desks.items new.press done) (sym c.in_ok-note_reopening.ensures)
    (found_again c.commands_are_determined.ensures c.more_commands_stand.ensures.stands c.records_tell_one_store.ensures.one
    c.args.store.desks.items new.desks.items c.args.store.press c.args.done.now.items c.requires.at (lists_of reopened.lists) is.desks
    is.press.file is.press.editions new.press is.press.left is.press.opened (is.site ∙ sym c.requires.site) c.serial-serial.result reopened.lists refl serial)
