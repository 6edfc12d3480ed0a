use Rattle.std.proofs.Common.{false, get_or, refl, sym, ap, ◌∙◌}
use Rattle.std.specs.List.{slice_get}
use Rattle.key_ids.specs.Uris.{anchor_uri}
use Rattle.issue_drafts.specs.IssueInput.{input_of}
use Rattle.issue_drafts.specs.inner.Entries.{ended_key}
use Rattle.issue_keys.specs.Keys.{id_of}
use Rattle.issue_drafts.proofs.Found.{inside}
use Rattle.issue_drafts.proofs.NamedKeys.{there-is}
use Rattle.issue_drafts.proofs.Lists.{row-more, as-row, all-rows, table, all-dated}
use Rattle.issue_drafts.proofs.revoking.entries.Goals as goal

pub key_entries-requires : goal.key_entries-requires
key_entries-requires c =
    inside (ended_key (anchor_uri c.args.at.now.site.now) c.args.touched.now) c.args.at.now.issued.now
    c.in_ok-ended.ended c.positions-positions.result.now c.key_there-key.result.id.bytes
    c.in_ok-ended.ensures c.positions-positions.ensures

pub loop-position-preserved : goal.loop-position-preserved
loop-position-preserved c =
    let s = input_of c.args.at.now in
    let point = get_or c.args.points.now c.loop-position.position false in
    let rows = c.args.rows.now in
    let there = there-is rows c.loop-position.position c.key_there-key.result.row.now c.index-rows-position.result c.loop-position-test.true
    (ap (slice_get rows) (sym c.key_there-key.ensures.position) ∙ c.key_there-key.ensures.positioned) in
    let own = c.key_there-key.result.identified ∙ ap id_of (there ∙ sym c.index-rows-position.is) in
    row-more s c.args.touched.now c.args.rows.now c.args.points.now c.loop-position.position
    c.index-rows-position.result c.index-rows-position.result point false c.loop-position.lists.items
    c.push.new.self.items c.new.result
    c.requires.points c.loop-position-test.true c.index-rows-position.is refl c.loop-position.invariant
    (as-row s c.args.touched.now c.index-rows-position.result point c.key_there-key.result.id.bytes c.in_ok-ended.ended
    c.positions-positions.result.now c.in_ok-entries.entries.items c.new.result
    c.in_ok-ended.ensures own c.positions-positions.ensures c.in_ok-entries.ensures c.new.ensures)
    c.in_ok-push.ensures.items

pub returns-clause-firsts : goal.returns-clause-firsts
returns-clause-firsts c = λ keys puts are is.
    let s = input_of c.args.at.now in
    table s keys puts c.args.touched.now c.args.rows.now c.args.points.now c.loop-position.lists.items
    (all-rows s c.args.touched.now c.args.rows.now c.args.points.now c.loop-position.position
    c.loop-position.lists.items c.requires.points c.loop-position-test.false c.loop-position.invariant) are is

pub returns-clause-revoked : goal.returns-clause-revoked
returns-clause-revoked c = λ from all.
    let s = input_of c.args.at.now in
    all-dated s c.args.touched.now c.args.rows.now c.args.points.now c.loop-position.lists.items
    (all-rows s c.args.touched.now c.args.rows.now c.args.points.now c.loop-position.position
    c.loop-position.lists.items c.requires.points c.loop-position-test.false c.loop-position.invariant) from all
