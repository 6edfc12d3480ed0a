use Rattle.std.proofs.Common.{map, sym, ap, ◌∙◌}
use Rattle.std.specs.List.{slice_get}
use Rattle.std.proofs.lemmas.List.{map-append}
use Rattle.issue_values.specs.Publishers.{publishing}
use Rattle.issue_drafts.specs.WorkKeys.{keys_at}
use Rattle.issue_drafts.specs.IssueInput.{input_of}
use Rattle.issue_drafts.specs.Publishers.{publishing_of}
use Rattle.issue_drafts.proofs.NamedKeys.{map-more, there-is}
use Rattle.issue_drafts.proofs.key_publishers.publishers.Goals as goal

pub loop-position-preserved : goal.loop-position-preserved
loop-position-preserved c =
    let s = input_of c.args.at.now in
    let keys = keys_at c.args.rows.now c.args.finder.now.first_fresh in
    let row = c.key_there-key.result.row.now in
    map-more (publishing_of s keys) c.args.rows.now c.loop-position.position row _ _ _
    c.loop-position-test.true c.loop-position.invariant
    (ap (map publishing) c.in_ok-push.ensures.items ∙ map-append publishing _ _)
    (c.in_ok-publisher.ensures
    ∙ ap (publishing_of s keys)
    (there-is c.args.rows.now c.loop-position.position row row c.loop-position-test.true
    (ap (slice_get c.args.rows.now) (sym c.key_there-key.ensures.position) ∙ c.key_there-key.ensures.positioned)))
