use Rattle.std.proofs.Common.{◌≡◌, ℕ, rules, List, ◌++◌, map, ap, ◌∙◌}
use Rattle.std.specs.Ordering.{is_lt}
use Rattle.pub_set.specs.Objects.{uri_cmp}
use Rattle.issue_drafts.specs.IssueInput.{input_of}
use Rattle.issue_drafts.specs.Drafts.{Draft}
use Rattle.issue_drafts.specs.Views.{draft_of, manifest_of}
use Rattle.issue_drafts.specs.laws.UriOrder.{by-uri, compares-uris}
use Rattle.issue_drafts.proofs.Uris.{touched-are}
use Rattle.issue_drafts.proofs.touching.Touched.new.Goals as goal

pub invariant_of-result : goal.invariant_of-result
invariant_of-result c =
    c.in_ok-sort_by.ensures.sorted (λ (a b : List ℕ). is_lt (uri_cmp a b)) (by-uri (λ (u : List ℕ). u))
    (compares-uris (λ (u : List ℕ). u) (λ a r f called. search rules))

pub returns : goal.returns
returns c = λ puts moved uri.
    let of : List Draft → List (List ℕ) = map (λ (d : Draft). d.uri) in
    let drafts = map draft_of c.args.drafts.now in
    let manifests = map manifest_of c.args.manifests.now in
    let first : c.push_drafts.new.uris.items ≡ of drafts = c.in_ok-push_drafts.ensures ∙ ap
    (λ (l : List (List ℕ)). l ++ of drafts) c.in_ok-uris.ensures.items in
    let second : c.push_manifests.new.uris.items ≡ of drafts ++ of manifests = c.in_ok-push_manifests.ensures
    ∙ ap (λ (l : List (List ℕ)). l ++ of manifests) first in
    let all : c.push_uris.new.uris.items ≡ (of drafts ++ of manifests) ++ c.args.at.now.work.now.withdrawn =
    c.in_ok-push_uris.ensures
    ∙ (ap (λ (l : List (List ℕ)). l ++ c.as_slice.result.now) second ∙ ap
    (λ (l : List (List ℕ)). (of drafts ++ of manifests) ++ l) c.as_slice.ensures) in
    touched-are (input_of c.args.at.now) drafts manifests puts c.push_uris.new.uris.items
    c.sort_by.new.self.items all c.in_ok-sort_by.ensures.permutation moved uri
