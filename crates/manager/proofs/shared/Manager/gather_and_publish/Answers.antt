use Rattle.std.proofs.Common.{inl, ◌∙◌, ap, subst}
use Rattle.std.specs.Prelude.{IfOk, IfErr}
use Rattle.std.proofs.lemmas.Result.{IfOk-weaker, IfErr-weaker}
use Rattle.manager.specs.Locked.{LockedValue}
use Rattle.manager.specs.Answers.{IsAnswered, IsBehind, IsNextShown, IsStill, IsNotPublished}
use Rattle.manager.proofs.Knowing.{learned_rest, learned_look}
use Rattle.manager.proofs.Gathering.{seen_less}
use Rattle.manager.proofs.Refused.{still_same}
use Rattle.manager.proofs.Publishing.{answered_less, not_published_less, met_at}
use Rattle.manager.proofs.shared.Manager.gather_and_publish.Goals as goal

-- ---- memory ran out

pub returns-in-Err-clause-learned : goal.returns-in-Err-clause-learned
returns-in-Err-clause-learned g c =
    learned_look c.args.pass.now c.gather.new.pass c.ungathered.new.pass
    (learned_rest c.args.pass.now c.gather.new.pass c.gather.ensures.pass c.gather.ensures.more)
    c.ungathered.ensures.rest c.ungathered.ensures.grows

pub returns-in-Err-clause-refused : goal.returns-in-Err-clause-refused
returns-in-Err-clause-refused g c = c.ungathered.ensures.refused c.args.pass.now.seats

pub returns-in-Err-clause-cause : goal.returns-in-Err-clause-cause
returns-in-Err-clause-cause g c = inl c.ungathered.ensures.cause

pub returns-in-Err-clause-still : goal.returns-in-Err-clause-still
returns-in-Err-clause-still g c =
    still_same c.args.now c.args.press.now.board.shown c.ungathered.new.press.board.shown c.ungathered.result
    (ap (λ (l : LockedValue _ _). l.board.shown) c.ungathered.ensures.same ∙ ap (λ (l : LockedValue _ _). l.board.shown) c.gather.ensures.press)

-- ---- all was gathered

pub returns-clause-learned : goal.returns-clause-learned
returns-clause-learned g c =
    learned_look c.args.pass.now c.gather.new.pass c.publish.new.self
    (learned_rest c.args.pass.now c.gather.new.pass c.gather.ensures.pass c.gather.ensures.more)
    c.publish.ensures.rest c.publish.ensures.grows

pub returns-clause-published : goal.returns-clause-published
returns-clause-published g c =
    let known = c.args.pass.now.seats in
    let press = c.gather.new.press.seats in
    let shown = c.publish.new.self.shown in
    let less = seen_less known c.gather.new.pass.seats press c.gather.ensures.more c.in-Ok.ensures.alike in
    IfOk-weaker c.publish.result (λ told. IsAnswered told press shown) (λ told. IsAnswered told known shown)
    (λ told is. answered_less known press shown less told is) c.publish.ensures.published

pub returns-clause-behind : goal.returns-clause-behind
returns-clause-behind g c =
    subst (λ (l : LockedValue _ _). IfOk c.publish.result (IsBehind c.args.now l.press.press.at)) c.gather.ensures.press c.publish.ensures.behind

pub returns-clause-next : goal.returns-clause-next
returns-clause-next g c =
    subst (λ (l : LockedValue _ _). IfOk c.publish.result (λ told. IsNextShown c.args.now l.board.shown told c.publish.new.press.board.shown)) c.gather.ensures.press c.publish.ensures.next

pub returns-clause-still : goal.returns-clause-still
returns-clause-still g c =
    subst (λ (l : LockedValue _ _). IfErr c.publish.result (IsStill c.args.now l.board.shown c.publish.new.press.board.shown)) c.gather.ensures.press c.publish.ensures.still

pub returns-clause-refused : goal.returns-clause-refused
returns-clause-refused g c =
    let known = c.args.pass.now.seats in
    let press = c.gather.new.press.seats in
    let shown = c.publish.new.self.shown in
    let less = seen_less known c.gather.new.pass.seats press c.gather.ensures.more c.in-Ok.ensures.alike in
    IfErr-weaker c.publish.result (λ fault. IsNotPublished press shown fault) (λ fault. IsNotPublished known shown fault)
    (λ fault is. not_published_less known press shown less fault is) c.publish.ensures.refused

pub returns-clause-cause : goal.returns-clause-cause
returns-clause-cause g c =
    met_at g.D.Disk c.args.now c.gather.new.press.press c.publish.new.press.press c.in-Ok.gathered.items c.publish.result c.publish.ensures.cause
