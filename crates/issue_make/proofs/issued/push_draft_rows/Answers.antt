use Rattle.std.proofs.Common.{◌≡◌, ◌<◌, length, map, arith}
use Rattle.issue_drafts.specs.Views.{draft_of}
use Rattle.issue_make.specs.inner.Putting.{draft_rows, hashes_of}
use Rattle.issue_make.proofs.Lists.{more-taken, all-taken}
use Rattle.issue_make.proofs.Issuing.{draft-row-at, draft-rows-long}
use Rattle.issue_make.proofs.issued.push_draft_rows.Goals as goal

pub loop-position-preserved : goal.loop-position-preserved
loop-position-preserved c =
    let whole = draft_rows c.args.moment (map draft_of c.args.drafts.now) c.args.given.now (hashes_of c.args.objects.now) in
    let long : length whole ≡ length c.args.drafts.now =
    draft-rows-long c.args.moment c.args.drafts.now c.args.given.now c.args.objects.now c.requires.given c.requires.objects in
    let inside : c.loop-position.position < length whole = omega arith in
    more-taken whole c.args.rows.now.items c.loop-position.rows.items c.push.new.self.items c.loop-position.position c.in_ok-row.row
    inside c.loop-position.invariant c.in_ok-push.ensures.items
    (draft-row-at c.args.moment c.args.drafts.now c.args.given.now c.args.objects.now c.loop-position.position
    c.index-drafts-position.result c.index-objects-position.result c.in_ok-row.row c.requires.given c.requires.objects
    c.loop-position-test.true c.index-drafts-position.is c.in_ok-row.ensures)

pub returns : goal.returns
returns c =
    let whole = draft_rows c.args.moment (map draft_of c.args.drafts.now) c.args.given.now (hashes_of c.args.objects.now) in
    let long : length whole ≡ length c.args.drafts.now =
    draft-rows-long c.args.moment c.args.drafts.now c.args.given.now c.args.objects.now c.requires.given c.requires.objects in
    all-taken whole c.args.rows.now.items c.loop-position.rows.items c.loop-position.position c.loop-position.invariant (omega arith)
