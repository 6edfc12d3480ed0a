use Rattle.std.proofs.Common.{◌<◌, List, sym, ap, subst}
use Rattle.std.specs.Prelude.{IfOk, IfErr}
use Rattle.std.proofs.lemmas.Result.{IfOk-weaker}
use mathlib.Core.List.{IsPrefix}
use Rattle.notice_board.specs.Lists.{last_serial}
use Rattle.notice_board.specs.declared.shown.ShownEdition.{ShownEdition}
use Rattle.manager.specs.Passes.{PassValue}
use Rattle.manager.specs.Locked.{LockedValue}
use Rattle.manager.specs.Answers.{IsAnswered, IsBehind, IsNextShown, IsNewlyShown, IsStill, IsNotPublished}
use Rattle.manager.proofs.Knowing.{look_learned}
use Rattle.manager.proofs.Rising.{is_new}
use Rattle.manager.proofs.shared.Manager.publish_held.Goals as goal

pub returns-clause-learned : goal.returns-clause-learned
returns-clause-learned g c =
    look_learned c.args.pass.now c.tell.new.self c.gather_and_publish.new.pass c.tell.ensures.rest c.tell.ensures.grows c.gather_and_publish.ensures.learned

pub returns-clause-published : goal.returns-clause-published
returns-clause-published g c =
    let shown = c.gather_and_publish.new.pass.shown in
    subst (λ (p : PassValue). IfOk c.gather_and_publish.result (λ told. IsAnswered told p.seats shown)) c.tell.ensures.rest c.gather_and_publish.ensures.published

pub returns-clause-refused : goal.returns-clause-refused
returns-clause-refused g c =
    let shown = c.gather_and_publish.new.pass.shown in
    subst (λ (p : PassValue). IfErr c.gather_and_publish.result (IsNotPublished p.seats shown)) c.tell.ensures.rest c.gather_and_publish.ensures.refused

pub returns-clause-next : goal.returns-clause-next
returns-clause-next g c =
    subst (λ (l : LockedValue _ _). IfOk c.gather_and_publish.result (λ told. IsNextShown c.args.now l.board.shown told c.gather_and_publish.new.press.board.shown)) c.tell.ensures.same c.gather_and_publish.ensures.next

pub returns-clause-still : goal.returns-clause-still
returns-clause-still g c =
    subst (λ (l : LockedValue _ _). IfErr c.gather_and_publish.result (IsStill c.args.now l.board.shown c.gather_and_publish.new.press.board.shown)) c.tell.ensures.same c.gather_and_publish.ensures.still

pub returns-clause-newly : goal.returns-clause-newly
returns-clause-newly g c =
    let old = c.tell.new.press.board.shown in
    let seen = c.args.pass.now.shown in
    let told_all = c.tell.ensures.whole in
    let same = ap (λ (l : LockedValue _ _). l.board.shown) c.tell.ensures.same in
    IfOk-weaker c.gather_and_publish.result (λ told. IsNextShown c.args.now old told c.gather_and_publish.new.press.board.shown) (λ told. IsNewlyShown c.args.now seen told c.gather_and_publish.new.pass.shown)
    (λ told is. record {
      old = old;
      grows = subst (IsPrefix seen) (sym same) (subst (IsPrefix seen) told_all c.tell.ensures.grows);
      next = subst (λ (shown : List ShownEdition). IsNextShown c.args.now old told shown) (sym c.gather_and_publish.ensures.whole) is;
    }) c.gather_and_publish.ensures.next

pub returns-clause-later : goal.returns-clause-later
returns-clause-later g c =
    let at = c.tell.new.press.press.press.at in
    let seen = last_serial c.args.pass.now.shown in
    let same = ap (λ (l : LockedValue _ _). l.press.press.at.serial) c.tell.ensures.same in
    IfOk-weaker c.gather_and_publish.result (IsBehind c.args.now at) (λ told. seen < told.serial)
    (λ told is. is_new seen c.args.locked.now.press.press.at.serial c.args.now at told same c.tell.ensures.not_past is) c.gather_and_publish.ensures.behind
