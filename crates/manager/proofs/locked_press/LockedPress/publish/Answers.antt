use Rattle.std.proofs.Common.{◌≡◌, ◌∙◌, List, sym, ap, subst}
use Rattle.std.specs.Prelude.{IfOk, IfErr, OnOk, OnErr}
use Rattle.notice_board.specs.declared.shown.ShownEdition.{ShownEdition}
use Rattle.press_core.specs.PrepareInput.{start_of}
use Rattle.press_core.specs.declared.last_export.LastExport.TheVariants.{Done}
use Rattle.manager.specs.Locked.{LockedValue}
use Rattle.manager.specs.Made.{HasMade, MayHaveMade}
use Rattle.manager.specs.Answers.{IsAnswered, IsNextShown, IsStill, IsNotPublished, IsMetBy, IsExportLeft}
use Rattle.manager.proofs.locked_press.LockedPress.publish.Goals as goal

pub returns-clause-seats : goal.returns-clause-seats
returns-clause-seats g c = ap (λ (l : LockedValue _ _). l.seats) c.tell.ensures.same ∙ c.press_and_export-published.ensures.seats

pub returns-clause-whole : goal.returns-clause-whole
returns-clause-whole g c = c.tell.ensures.whole ∙ sym (ap (λ (l : LockedValue _ _). l.board.shown) c.tell.ensures.same)

pub returns-clause-published : goal.returns-clause-published
returns-clause-published g c =
    subst (λ (shown : List ShownEdition). IfOk c.press_and_export-published.result (λ told. IsAnswered told c.args.self.now.seats shown)) (sym c.tell.ensures.whole) c.press_and_export-published.ensures.published

pub returns-clause-refused : goal.returns-clause-refused
returns-clause-refused g c =
    subst (λ (shown : List ShownEdition). IfErr c.press_and_export-published.result (IsNotPublished c.args.self.now.seats shown)) (sym c.tell.ensures.whole) c.press_and_export-published.ensures.refused

pub returns-clause-next : goal.returns-clause-next
returns-clause-next g c =
    subst (λ (l : LockedValue _ _). IfOk c.press_and_export-published.result (λ told. IsNextShown c.args.now c.args.self.now.board.shown told l.board.shown)) (sym c.tell.ensures.same) c.press_and_export-published.ensures.next

pub returns-clause-still : goal.returns-clause-still
returns-clause-still g c =
    subst (λ (l : LockedValue _ _). IfErr c.press_and_export-published.result (IsStill c.args.now c.args.self.now.board.shown l.board.shown)) (sym c.tell.ensures.same) c.press_and_export-published.ensures.still

pub returns-clause-exported : goal.returns-clause-exported
returns-clause-exported g c =
    subst (λ (l : LockedValue _ _). OnOk c.press_and_export-published.result (l.press.press.last_export ≡ Done l.press.press.at.serial)) (sym c.tell.ensures.same) c.press_and_export-published.ensures.exported

pub returns-clause-cause : goal.returns-clause-cause
returns-clause-cause g c =
    subst (λ (l : LockedValue _ _). IfErr c.press_and_export-published.result (IsMetBy g.D.Disk (start_of c.args.self.now.press.press c.args.now c.args.gathered.items) c.args.self.now.press l.press))
    (sym c.tell.ensures.same) c.press_and_export-published.ensures.cause

pub returns-clause-left : goal.returns-clause-left
returns-clause-left g c =
    subst (λ (l : LockedValue _ _). IfErr c.press_and_export-published.result (IsExportLeft l.press.press.last_export l.press.press.at.serial)) (sym c.tell.ensures.same) c.press_and_export-published.ensures.left

pub returns-clause-made : goal.returns-clause-made
returns-clause-made g c =
    subst (λ (l : LockedValue _ _). OnOk c.press_and_export-published.result (HasMade (start_of c.args.self.now.press.press c.args.now c.args.gathered.items) c.args.self.now.press l.press))
    (sym c.tell.ensures.same) c.press_and_export-published.ensures.made

pub returns-clause-held : goal.returns-clause-held
returns-clause-held g c =
    subst (λ (l : LockedValue _ _). OnErr c.press_and_export-published.result (MayHaveMade (start_of c.args.self.now.press.press c.args.now c.args.gathered.items) c.args.self.now.press l.press))
    (sym c.tell.ensures.same) c.press_and_export-published.ensures.held
