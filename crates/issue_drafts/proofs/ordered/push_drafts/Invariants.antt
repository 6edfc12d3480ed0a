use Rattle.std.proofs.Common.{◌≡◌, ◌++◌, map, take, All}
use Rattle.std.specs.List.{filter_map}
use Rattle.issue_drafts.specs.Views.{draft_of, IsDraftPositioned}
use Rattle.issue_drafts.specs.DraftInput.{setting_in, keys_in}
use Rattle.issue_drafts.proofs.ordered.push_drafts.Given as goal

abbrev pub invariant-loop-one : goal.invariant-loop-one
invariant-loop-one g l = record {
  drafts : map draft_of l.drafts.items
      ≡ map draft_of l.initial.drafts.items ++ filter_map (g.W.DraftedWork.drafted (setting_in l.at) (keys_in l.at))
      (take l.one-index l.work);
  positioned : All (IsDraftPositioned l.at.rows.now) l.initial.drafts.items → All (IsDraftPositioned l.at.rows.now) l.drafts.items;
}
