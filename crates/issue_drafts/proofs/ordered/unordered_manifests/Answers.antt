use Rattle.std.proofs.Common.{[]}
use Rattle.issue_drafts.specs.declared.draft.ManifestDraft.{ManifestDraft}
use Rattle.issue_drafts.specs.Drafts as words
use Rattle.issue_drafts.specs.Views.{manifest_of, IsPositioned}
use Rattle.issue_drafts.specs.DraftInput.{setting_in, keys_in}
use Rattle.issue_drafts.proofs.Steps.{filtered-more, all-more}
use Rattle.issue_drafts.proofs.ordered.unordered_manifests.Goals as goal

pub loop-point-preserved : goal.loop-point-preserved
loop-point-preserved c =
    let at = c.args.at.now in record {
      drafts = filtered-more manifest_of (words.manifest_draft (setting_in at) (keys_in at)) c.as_slice-points.result.now
          c.loop-point.point-index _ [] c.loop-point.drafts.items c.push_some.new.items.items c.in_ok-draft.draft
          c.loop-point-test.true
          c.loop-point.invariant.drafts c.in_ok-push_some.ensures c.in_ok-draft.ensures.draft;
      positioned = all-more (λ (d : ManifestDraft). IsPositioned at.rows.now d.issuer) c.loop-point.drafts.items
          c.push_some.new.items.items c.in_ok-draft.draft c.in_ok-push_some.ensures c.in_ok-draft.ensures.positioned
          c.loop-point.invariant.positioned;
    }
