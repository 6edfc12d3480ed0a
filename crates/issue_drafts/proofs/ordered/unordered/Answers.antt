use Rattle.std.proofs.Common.{All, ap, length, arith}
use Rattle.issue_drafts.specs.Views.{IsDraftPositioned}
use Rattle.issue_drafts.proofs.ordered.unordered.Goals as goal

pub returns-clause-positioned : goal.returns-clause-positioned
returns-clause-positioned c =
    let none : All (IsDraftPositioned c.args.at.now.rows.now) c.new-drafts.result.items =
    λ k d lt. absurd (omega (arith, ap length c.new-drafts.ensures.items)) in
    c.in_ok-push_drafts-3.ensures.positioned (c.in_ok-push_drafts-2.ensures.positioned (c.in_ok-push_drafts.ensures.positioned none))
