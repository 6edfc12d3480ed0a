use Rattle.std.proofs.Common.{◌≡◌, ◌<◌, List, Option, Some, true, sym, ap, ◌∙◌, subst}
use Rattle.std.specs.Prelude.{IfSome}
use Rattle.std.specs.Arc.{arc_value}
use Rattle.notice_board.specs.declared.lists.Entry.{Entry}
use Rattle.notice_board.specs.declared.sheets.Sheet.{Sheet}
use Rattle.notice_board.specs.declared.shown.ShownEdition.{ShownEdition}
use Rattle.notice_board.specs.Lists.{shown_of, last_sheet, last_serial, rises}
use Rattle.notice_board.specs.Seats.{BoardSeat}
use Rattle.notice_board.specs.inner.Known.{entry, editions_of}
use Rattle.notice_board.proofs.Editions.{editions_push, last_snoc, rises_snoc}
use Rattle.notice_board.proofs.board.Board.show.Goals as goal

pub of-notice-requires-clause-last : goal.of-notice-requires-clause-last
of-notice-requires-clause-last g c =
    let log : List Entry = c.self.inside.owner.log in
    let added = c.add.ensures.added in
    let e : Entry = entry (shown_of c.deref.result.now g.E.Numbers.numbers) added.0 in
    ap (λ (l : List Entry). last_sheet (editions_of l)) added.1
    ∙ (ap last_sheet (editions_push log e) ∙ (last_snoc (editions_of log) e.edition ∙ ap Some c.deref.ensures))

pub of-notice-requires-clause-rises : goal.of-notice-requires-clause-rises
of-notice-requires-clause-rises g c =
    let log : List Entry = c.self.inside.owner.log in
    let added = c.add.ensures.added in
    let e : Entry = entry (shown_of c.deref.result.now g.E.Numbers.numbers) added.0 in
    let up : rises (editions_of log) ≡ true = ap (λ (b : BoardSeat). rises b.shown) c.self.view_is ∙ c.serial.ensures.rises in
    let Above : Sheet → Type 0 = λ (s : Sheet). last_serial (editions_of log) < s.serial in
    let ready = subst (λ o. IfSome o (λ sheet. Above (arc_value sheet))) (sym c.take.ensures.value ∙ c.in-Some.is) c.self.invariant.4 in
    let above : last_serial (editions_of log) < c.deref.result.now.serial = subst Above (sym c.deref.ensures) ready in
    ap (λ (l : List Entry). rises (editions_of l)) added.1
    ∙ (ap rises (editions_push log e) ∙ rises_snoc (editions_of log) e.edition up above)
