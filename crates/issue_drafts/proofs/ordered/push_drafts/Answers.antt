use Rattle.std.proofs.Common.{map, ap, ◌∙◌}
use Rattle.issue_drafts.specs.Views.{draft_of, IsDraftPositioned}
use Rattle.issue_drafts.specs.DraftInput.{setting_in, keys_in}
use Rattle.issue_drafts.proofs.Steps.{filtered-more, all-more}
use Rattle.issue_drafts.proofs.ordered.push_drafts.Goals as goal

pub loop-one-preserved : goal.loop-one-preserved
loop-one-preserved g c =
    let at = c.args.at.now in
    let drafted = g.W.DraftedWork.drafted (setting_in at) (keys_in at) in record {
      drafts = filtered-more draft_of drafted c.args.work.now c.loop-one.one-index c.one-item.result
          (map draft_of c.args.drafts.now.items) c.loop-one.drafts.items c.push_some.new.items.items c.in_ok-draft.draft
          c.loop-one-test.true
          c.loop-one.invariant.drafts c.in_ok-push_some.ensures (c.in_ok-draft.ensures.draft ∙ ap drafted c.one-item.is);
      positioned = λ start. all-more (IsDraftPositioned at.rows.now) c.loop-one.drafts.items c.push_some.new.items.items
          c.in_ok-draft.draft c.in_ok-push_some.ensures c.in_ok-draft.ensures.positioned
          (c.loop-one.invariant.positioned start);
    }
