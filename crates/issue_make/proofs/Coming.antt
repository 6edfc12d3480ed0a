-- A plan's lists as they are looked at.
use Rattle.std.proofs.Common.{◌≡◌, ℕ, Some, List, map, sym, ap, subst, ◌∙◌}
use Rattle.std.specs.List.{All, slice_get}
use Rattle.issue_drafts.specs.IssueInput.{IssueInput}
use Rattle.issue_drafts.specs.Drafts.{serial_behind}
use Rattle.issue_drafts.specs.Serials.{given_serial}
use Rattle.issue_drafts.specs.Views.{draft_of, manifest_of}
use Rattle.issue_drafts.specs.declared.draft.Draft as code
use Rattle.issue_drafts.specs.declared.draft.ManifestDraft as manifests
use Rattle.issue_make.specs.Trace.{IssuingTrace, all_of}
use Rattle.issue_make.specs.inner.Putting.{IsOf}
use Rattle.issue_make.specs.declared.publishing.Numbered.{Numbered}
use Rattle.issue_make.specs.inner.Outcomes.{IsOfPlan}
use Rattle.issue_make.specs.declared.plans.ObjectPlan.{ObjectPlan}
use Rattle.issue_make.specs.declared.objects.Objects.{Objects}

pub is-of : (s : IssueInput) (plan : ObjectPlan) (objects : Objects) (trace : IssuingTrace) (n : Numbered)
    → n.drafts.now ≡ plan.drafts.items → n.given.now ≡ plan.serials.given.items
    → n.manifests.now ≡ plan.manifests.items → n.next.now ≡ plan.serials.next.items
    → IsOfPlan s plan objects trace → IsOf s n objects.drafted.items objects.listed.items trace
is-of s plan objects trace n drafts given listed next is = record {
  drafts = is.drafts ∙ ap (map draft_of) (sym drafts);
  given = given ∙ (is.given ∙ ap (map (λ (d : code.Draft). given_serial (all_of s trace) (draft_of d))) (sym drafts));
  contents = is.contents;
  hashes = is.hashes;
  manifests = is.manifests ∙ ap (map manifest_of) (sym listed);
  next = subst (λ (l : List manifests.ManifestDraft). All (λ d. slice_get n.next.now d.issuer.position
      ≡ Some (serial_behind (all_of s trace) d.issuer.row.now)) l) (sym listed)
      (subst (λ (l : List ℕ). All (λ d. slice_get l d.issuer.position
      ≡ Some (serial_behind (all_of s trace) d.issuer.row.now)) plan.manifests.items) (sym next) is.next);
  listed_contents = is.listed_contents;
  listed_hashes = is.listed_hashes;
}
