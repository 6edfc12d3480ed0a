use Rattle.std.proofs.Common.{ℕ, List, sym, ◌∙◌, ap, subst, inl, inr}
use Rattle.std.specs.Prelude.{IfSome}
use Rattle.std.proofs.lemmas.Result.{IfOk-weaker, IfErr-weaker}
use Rattle.commit_word.specs.Seats.{FollowerSeat}
use Rattle.notice_board.specs.Seats.{BoardSeat}
use Rattle.editions.specs.declared.published_state.PublishedNumbers.{PublishedNumbers}
use Rattle.press_core.specs.PrepareInput.{start_of}
use Rattle.press_core.specs.Stored.{StoredValue}
use Rattle.manager.specs.Answers.{IsShownTo, IsAnswered, IsBehind, IsNextShown, IsNotPublished, IsExportLeft, nothing_behind}
use Rattle.manager.specs.Made.{HasMade, MayHaveMade}
use Rattle.manager.proofs.Made.{made_exported, none_exported, on_ok_so, on_err_so}
use Rattle.manager.proofs.Refused.{still_same, still_made, unexported_is, unexported_met, left_failed, met_of}
use Rattle.manager.proofs.locked_press.LockedPress.press_and_export.Goals as goal

-- ---- no edition was made

pub refuse-requires : goal.refuse-requires
refuse-requires g c =
    subst (λ (known : List FollowerSeat). IfSome (nothing_behind c.in-Err.fault) (λ (serial : ℕ). IsShownTo serial known c.press.new.self.board.shown)) (sym c.press.ensures.seats) c.in-Err.ensures.nothing

pub returns-in-Err-clause-refused : goal.returns-in-Err-clause-refused
returns-in-Err-clause-refused g c =
    subst (λ (known : List FollowerSeat). IsNotPublished known c.refuse.new.self.board.shown c.refuse.result) c.press.ensures.seats
    (subst (λ (board : BoardSeat). IsNotPublished c.press.new.self.seats board.shown c.refuse.result) (sym c.refuse.ensures.board) c.refuse.ensures.refused)

pub returns-in-Err-clause-cause : goal.returns-in-Err-clause-cause
returns-in-Err-clause-cause g c =
    met_of g.D.Disk (start_of c.args.self.now.press.press c.args.now c.args.gathered.items) c.args.self.now.press c.press.new.self.press c.refuse.new.self.press c.refuse.new.self.press.press.last_export c.in-Err.fault c.refuse.result
    c.refuse.ensures.press c.in-Err.ensures.cause c.refuse.ensures.told

pub returns-in-Err-clause-left : goal.returns-in-Err-clause-left
returns-in-Err-clause-left g c =
    subst (λ (n : ℕ). IsExportLeft c.refuse.new.self.press.press.last_export n c.refuse.result) (sym (ap (λ (s : StoredValue _). s.press.at.serial) c.refuse.ensures.press)) c.refuse.ensures.left

pub returns-in-Err-clause-held : goal.returns-in-Err-clause-held
returns-in-Err-clause-held g c =
    inr (none_exported (start_of c.args.self.now.press.press c.args.now c.args.gathered.items) c.args.self.now.press c.press.new.self.press c.refuse.new.self.press c.refuse.new.self.press.press.last_export c.refuse.ensures.press c.in-Err.ensures.held)

pub returns-in-Err-clause-still : goal.returns-in-Err-clause-still
returns-in-Err-clause-still g c =
    still_same c.args.now c.args.self.now.board.shown c.refuse.new.self.board.shown c.refuse.result (ap (λ (b : BoardSeat). b.shown) c.refuse.ensures.board ∙ c.in-Err.ensures.same)

-- ---- one was made

pub returns-clause-published : goal.returns-clause-published
returns-clause-published g c =
    let shown : IsAnswered c.in-Ok.told c.args.self.now.seats c.export_made.new.self.board.shown =
    subst (λ (board : BoardSeat). IsAnswered c.in-Ok.told c.args.self.now.seats board.shown) (sym c.export_made.ensures.board) c.in-Ok.ensures.answered in
    IfOk-weaker c.export_made.result _ _
    (λ answer is. subst (λ (told : PublishedNumbers). IsAnswered told c.args.self.now.seats c.export_made.new.self.board.shown) (sym is) shown)
    c.export_made.ensures.told

pub returns-clause-refused : goal.returns-clause-refused
returns-clause-refused g c =
    let shown : IsAnswered c.in-Ok.told c.args.self.now.seats c.export_made.new.self.board.shown =
    subst (λ (board : BoardSeat). IsAnswered c.in-Ok.told c.args.self.now.seats board.shown) (sym c.export_made.ensures.board) c.in-Ok.ensures.answered in
    IfErr-weaker c.export_made.result _ _
    (λ fault is. unexported_is c.in-Ok.told c.args.self.now.seats c.export_made.new.self.board.shown fault shown is)
    c.export_made.ensures.refused

pub returns-clause-cause : goal.returns-clause-cause
returns-clause-cause g c =
    IfErr-weaker c.export_made.result _ _
    (λ fault is. unexported_met g.D.Disk (start_of c.args.self.now.press.press c.args.now c.args.gathered.items) c.args.self.now.press c.export_made.new.self.press c.in-Ok.told.serial fault is)
    c.export_made.ensures.refused

pub returns-clause-behind : goal.returns-clause-behind
returns-clause-behind g c =
    IfOk-weaker c.export_made.result _ _ (λ answer is. subst (IsBehind c.args.now c.args.self.now.press.press.at) (sym is) c.in-Ok.ensures.behind) c.export_made.ensures.told

pub returns-clause-next : goal.returns-clause-next
returns-clause-next g c =
    let shown : IsNextShown c.args.now c.args.self.now.board.shown c.in-Ok.told c.export_made.new.self.board.shown =
    subst (λ (board : BoardSeat). IsNextShown c.args.now c.args.self.now.board.shown c.in-Ok.told board.shown) (sym c.export_made.ensures.board) c.in-Ok.ensures.next in
    IfOk-weaker c.export_made.result _ _
    (λ answer is. subst (λ (told : PublishedNumbers). IsNextShown c.args.now c.args.self.now.board.shown told c.export_made.new.self.board.shown) (sym is) shown)
    c.export_made.ensures.told

pub returns-clause-still : goal.returns-clause-still
returns-clause-still g c =
    let shown : IsNextShown c.args.now c.args.self.now.board.shown c.in-Ok.told c.export_made.new.self.board.shown =
    subst (λ (board : BoardSeat). IsNextShown c.args.now c.args.self.now.board.shown c.in-Ok.told board.shown) (sym c.export_made.ensures.board) c.in-Ok.ensures.next in
    IfErr-weaker c.export_made.result _ _
    (λ fault is. still_made c.args.now c.args.self.now.board.shown c.export_made.new.self.board.shown c.in-Ok.told fault is shown)
    c.export_made.ensures.refused

pub returns-clause-left : goal.returns-clause-left
returns-clause-left g c = left_failed c.export_made.result c.export_made.new.self.press.press.last_export c.export_made.new.self.press.press.at.serial c.in-Ok.told.serial c.export_made.ensures.refused c.export_made.ensures.failed

pub returns-clause-made : goal.returns-clause-made
returns-clause-made g c =
    on_ok_so c.export_made.result (HasMade (start_of c.args.self.now.press.press c.args.now c.args.gathered.items) c.args.self.now.press c.export_made.new.self.press)
    (made_exported (start_of c.args.self.now.press.press c.args.now c.args.gathered.items) c.args.self.now.press c.press.new.self.press c.export_made.new.self.press c.export_made.new.self.press.press.last_export c.export_made.ensures.press c.in-Ok.ensures.made)

pub returns-clause-held : goal.returns-clause-held
returns-clause-held g c =
    on_err_so c.export_made.result (MayHaveMade (start_of c.args.self.now.press.press c.args.now c.args.gathered.items) c.args.self.now.press c.export_made.new.self.press)
    (inl (made_exported (start_of c.args.self.now.press.press c.args.now c.args.gathered.items) c.args.self.now.press c.press.new.self.press c.export_made.new.self.press c.export_made.new.self.press.press.last_export c.export_made.ensures.press c.in-Ok.ensures.made))
