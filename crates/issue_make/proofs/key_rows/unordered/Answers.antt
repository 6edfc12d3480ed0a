use Rattle.std.proofs.Common.{◌≡◌, ◌<◌, false, [], length, get_or, subst, ◌∙◌, arith, ℕ}
use Rattle.std.proofs.lemmas.Iterator.Adapters.{YieldsList-from_vec}
use Rattle.std.proofs.lemmas.Iterator.Consumers.{YieldsList-turn, YieldsList-end}
use Rattle.issue_make.specs.inner.Keys.{row_with, rows_with}
use Rattle.issue_make.proofs.Lists.{next-taken, all-taken, long-taken}
use Rattle.issue_make.proofs.KeyOrder.{rows-long, row-at}
use Rattle.issue_make.proofs.key_rows.unordered.Goals as goal

pub loop-list-preserved : goal.loop-list-preserved
loop-list-preserved c =
    let whole = rows_with c.args.moment c.args.keys.now c.args.points.now c.args.next.now c.args.revoked.items in
    let long : length whole ≡ length c.args.keys.now =
    rows-long c.args.moment c.args.keys.now c.args.points.now c.args.next.now c.args.revoked.items
    c.requires.points c.requires.next c.requires.each in
    let turn = YieldsList-turn
    (YieldsList-from_vec {s = c.into_iter-list-iterator.result} c.args.revoked.items
    c.into_iter-list-iterator.ensures.into_iter_gives.0
    (c.into_iter-list-iterator.ensures.into_iter_gives.1 ∙ c.args.revoked.ok.0))
    c.loop-list.yielded c.loop-list.list-iterator c.loop-list.yielded_by c.next.result c.next.new.self
    c.in-Some.list c.in-Some.is c.next.ensures.steps in
    let lower : length c.loop-list.yielded < length c.args.revoked.items = turn.0 in
    let inside : length c.loop-list.yielded < length whole = omega arith in
    let count : length c.loop-list.rows.items ≡ length c.loop-list.yielded =
    long-taken whole c.loop-list.rows.items (length c.loop-list.yielded) c.loop-list.invariant (omega arith) in
    let position = c.len-position.ensures ∙ (c.loop-list.rows.ok.0 ∙ count) in
    let here : c.index-keys-position.result ≡ get_or c.args.keys.now (length c.loop-list.yielded) c.index-keys-position.result =
    subst (λ (i : ℕ). c.index-keys-position.result ≡ get_or c.args.keys.now i c.index-keys-position.result)
    position c.index-keys-position.is in
    let made : c.row_after-row.result ≡ row_with c.args.moment c.index-keys-position.result
    (get_or c.args.points.now (length c.loop-list.yielded) false)
    (get_or c.args.next.now (length c.loop-list.yielded) 0) c.in-Some.list =
    subst (λ (i : ℕ). c.row_after-row.result ≡ row_with c.args.moment c.index-keys-position.result
    (get_or c.args.points.now i false) (get_or c.args.next.now i 0) c.in-Some.list) position c.row_after-row.ensures in
    next-taken whole c.loop-list.rows.items c.push.new.self.items c.loop-list.yielded c.in-Some.list c.row_after-row.result
    inside c.loop-list.invariant c.in_ok-push.ensures.items
    (row-at c.args.moment c.args.keys.now c.args.points.now c.args.next.now c.args.revoked.items (length c.loop-list.yielded)
    c.index-keys-position.result c.row_after-row.result c.in-Some.list c.requires.points c.requires.next c.requires.each
    (omega arith) here turn.1 made)

pub returns : goal.returns
returns c =
    let whole = rows_with c.args.moment c.args.keys.now c.args.points.now c.args.next.now c.args.revoked.items in
    let long : length whole ≡ length c.args.keys.now =
    rows-long c.args.moment c.args.keys.now c.args.points.now c.args.next.now c.args.revoked.items
    c.requires.points c.requires.next c.requires.each in
    let end = YieldsList-end
    (YieldsList-from_vec {s = c.into_iter-list-iterator.result} c.args.revoked.items
    c.into_iter-list-iterator.ensures.into_iter_gives.0
    (c.into_iter-list-iterator.ensures.into_iter_gives.1 ∙ c.args.revoked.ok.0))
    c.loop-list.yielded c.loop-list.list-iterator c.loop-list.yielded_by c.next.result c.next.new.self
    c.in-None.is c.next.ensures.steps in
    let all : length c.loop-list.yielded ≡ length c.args.revoked.items = end.1 in
    all-taken whole [] c.loop-list.rows.items (length c.loop-list.yielded) c.loop-list.invariant (omega arith)
