use Rattle.std.proofs.Common.{All, rules}
use Rattle.std.specs.Ordering.{is_lt}
use Rattle.std.proofs.lemmas.List.Sorted.{All-permutation}
use Rattle.pub_set.specs.Objects.{uri_cmp}
use Rattle.issue_drafts.specs.declared.draft.Draft.{Draft}
use Rattle.issue_drafts.specs.Drafts as words
use Rattle.issue_drafts.specs.Views.{draft_of, IsDraftPositioned}
use Rattle.issue_drafts.specs.DraftInput.{setting_in, keys_in}
use Rattle.issue_drafts.specs.laws.UriOrder.{by-uri, compares-uris}
use Rattle.issue_drafts.proofs.Sorting.{ordered-from}
use Rattle.issue_drafts.proofs.ordered.drafts.Goals as goal

pub returns-clause-ordered : goal.returns-clause-ordered
returns-clause-ordered c =
    let at = c.args.at.now in
    ordered-from draft_of (words.drafts (setting_in at) (keys_in at)) c.in_ok-drafts.drafts.items c.sort_by.new.self.items
    c.in_ok-drafts.ensures.drafts c.requires.once c.in_ok-sort_by.ensures.permutation
    (c.in_ok-sort_by.ensures.sorted (λ (a b : Draft). is_lt (uri_cmp a.uri b.uri)) (by-uri (λ (d : Draft). d.uri))
    (compares-uris (λ (d : Draft). d.uri) (λ a r f called. search rules)))

pub returns-clause-issuers : goal.returns-clause-issuers
returns-clause-issuers c =
    let all : All (IsDraftPositioned c.args.at.now.rows.now) c.sort_by.new.self.items =
    All-permutation (IsDraftPositioned c.args.at.now.rows.now) c.in_ok-drafts.drafts.items c.sort_by.new.self.items
    c.in_ok-sort_by.ensures.permutation c.in_ok-drafts.ensures.positioned in
    λ k d lt. (all k d lt).issuer

pub returns-clause-subjects : goal.returns-clause-subjects
returns-clause-subjects c =
    let all : All (IsDraftPositioned c.args.at.now.rows.now) c.sort_by.new.self.items =
    All-permutation (IsDraftPositioned c.args.at.now.rows.now) c.in_ok-drafts.drafts.items c.sort_by.new.self.items
    c.in_ok-sort_by.ensures.permutation c.in_ok-drafts.ensures.positioned in
    λ k d lt. (all k d lt).subject
