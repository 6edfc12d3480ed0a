use Rattle.std.proofs.Common.{◌≡◌, ◌<◌, [], length, get_or, subst, ◌∙◌, arith, ℕ}
use Rattle.std.proofs.lemmas.Iterator.Adapters.{YieldsList-from_vec}
use Rattle.std.proofs.lemmas.Iterator.Consumers.{YieldsList-turn, YieldsList-end}
use Rattle.issue_make.specs.inner.Putting.{puts_by, contents_of}
use Rattle.issue_make.proofs.Lists.{next-taken, all-taken, long-taken}
use Rattle.issue_make.proofs.Wanted.{puts-long, put-at}
use Rattle.issue_make.proofs.publishing.puts.Goals as goal

pub loop-object-preserved : goal.loop-object-preserved
loop-object-preserved c =
    let whole = puts_by c.args.standing.now c.args.rows.now (contents_of c.args.objects.items) in
    let long : length whole ≡ length c.args.rows.now = puts-long c.args.standing.now c.args.rows.now c.args.objects.items c.requires.each in
    let turn = YieldsList-turn
    (YieldsList-from_vec {s = c.into_iter-object-iterator.result} c.args.objects.items
    c.into_iter-object-iterator.ensures.into_iter_gives.0
    (c.into_iter-object-iterator.ensures.into_iter_gives.1 ∙ c.args.objects.ok.0))
    c.loop-object.yielded c.loop-object.object-iterator c.loop-object.yielded_by c.next.result c.next.new.self
    c.in-Some.object c.in-Some.is c.next.ensures.steps in
    let lower : length c.loop-object.yielded < length c.args.objects.items = turn.0 in
    let inside : length c.loop-object.yielded < length whole = omega arith in
    let count : length c.loop-object.changes.items ≡ length c.loop-object.yielded =
    long-taken whole c.loop-object.changes.items (length c.loop-object.yielded) c.loop-object.invariant (omega arith) in
    let here : c.index-rows-len.result ≡ get_or c.args.rows.now (length c.loop-object.yielded) c.index-rows-len.result =
    subst (λ (i : ℕ). c.index-rows-len.result ≡ get_or c.args.rows.now i c.index-rows-len.result)
    (c.len.ensures ∙ (c.loop-object.changes.ok.0 ∙ count)) c.index-rows-len.is in
    next-taken whole c.loop-object.changes.items c.push.new.self.items c.loop-object.yielded c.in-Some.object c.in_ok-put.field-0
    inside c.loop-object.invariant c.in_ok-push.ensures.items
    (put-at c.args.standing.now c.args.rows.now c.args.objects.items (length c.loop-object.yielded)
    c.index-rows-len.result c.in-Some.object c.in_ok-put.field-0 c.requires.each lower here turn.1 c.in_ok-put.ensures)

pub returns : goal.returns
returns c =
    let whole = puts_by c.args.standing.now c.args.rows.now (contents_of c.args.objects.items) in
    let long : length whole ≡ length c.args.rows.now = puts-long c.args.standing.now c.args.rows.now c.args.objects.items c.requires.each in
    let end = YieldsList-end
    (YieldsList-from_vec {s = c.into_iter-object-iterator.result} c.args.objects.items
    c.into_iter-object-iterator.ensures.into_iter_gives.0
    (c.into_iter-object-iterator.ensures.into_iter_gives.1 ∙ c.args.objects.ok.0))
    c.loop-object.yielded c.loop-object.object-iterator c.loop-object.yielded_by c.next.result c.next.new.self
    c.in-None.is c.next.ensures.steps in
    let all : length c.loop-object.yielded ≡ length c.args.objects.items = end.1 in
    all-taken whole [] c.loop-object.changes.items (length c.loop-object.yielded) c.loop-object.invariant (omega arith)
