use Rattle.std.proofs.Common.{◌≡◌, List, ◌++◌, map, length, ap, sym, subst, ◌∙◌}
use Rattle.std.proofs.lemmas.List.{length-map}
use Rattle.pub_set.specs.Objects.{Rise}
use Rattle.issue_drafts.specs.declared.draft.Draft.{Draft}
use Rattle.std.specs.List.Sorted.{IsPermutation}
use Rattle.std.proofs.lemmas.List.Sorted.{IsPermutation-append, IsPermutation-sym, IsPermutation-refl}
use Rattle.issue_drafts.specs.WorkKeys.{keys_at}
use Rattle.issue_drafts.specs.IssueInput.{input_of}
use Rattle.issue_drafts.specs.declared.draft.ManifestDraft.{ManifestDraft}
use Rattle.issue_drafts.specs.Drafts as words
use Rattle.issue_drafts.specs.Views.{draft_of, manifest_of}
use Rattle.issue_drafts.specs.Revoking.{has_point}
use Rattle.issue_drafts.specs.Touching.{AreTouched}
use Rattle.issue_make.specs.ObjectPlan.{puts}
use Rattle.issue_make.proofs.Planned.{front-once, behind-once, rise-back, touched-by, given-over, next-over}
use Rattle.issue_make.proofs.plans.plan_objects.Goals as goal

pub drafts-requires-clause-once : goal.drafts-requires-clause-once
drafts-requires-clause-once c =
    let s = input_of c.args.input.now in
    let keys = keys_at c.args.rows.now c.args.finder.now.first_fresh in
    front-once (words.drafts s keys) (words.manifests s keys) c.requires.once

pub manifest_drafts-requires-clause-once : goal.manifest_drafts-requires-clause-once
manifest_drafts-requires-clause-once c =
    let s = input_of c.args.input.now in
    let keys = keys_at c.args.rows.now c.args.finder.now.first_fresh in
    behind-once (words.drafts s keys) (words.manifests s keys) c.requires.once

pub entries-requires-clause-points : goal.entries-requires-clause-points
entries-requires-clause-points c =
    let s = input_of c.args.input.now in
    let rows = c.args.rows.now in
    let keys = keys_at rows c.args.finder.now.first_fresh in
    let two : IsPermutation (words.manifests s keys) (map manifest_of c.in_ok-manifests.manifests.items) =
    c.in_ok-manifests.ensures.ordered.permutation in
    let points : c.in_ok-points.points.items ≡ map (has_point s keys) rows =
    c.in_ok-points.ensures s keys
    (subst (λ (l : List ManifestDraft). IsPermutation (words.manifests s keys) (map manifest_of l)) (sym c.deref-3.ensures.value) two) in
    ap length (c.deref-4.ensures.value ∙ points) ∙ length-map rows (has_point s keys)

pub give_serials-requires-clause-rising : goal.give_serials-requires-clause-rising
give_serials-requires-clause-rising c =
    subst (λ (l : List Draft). Rise (λ d. d.uri) l) (sym c.deref-5.ensures.value)
    (rise-back draft_of (λ (d : words.Draft). d.uri) c.in_ok-drafts.drafts.items c.in_ok-drafts.ensures.ordered.rising)

pub returns : goal.returns
returns c =
    let s = input_of c.args.input.now in
    let rows = c.args.rows.now in
    let keys = keys_at rows c.args.finder.now.first_fresh in
    let ds = c.in_ok-drafts.drafts.items in
    let ms = c.in_ok-manifests.manifests.items in
    let one : IsPermutation (words.drafts s keys) (map draft_of ds) = c.in_ok-drafts.ensures.ordered.permutation in
    let two : IsPermutation (words.manifests s keys) (map manifest_of ms) = c.in_ok-manifests.ensures.ordered.permutation in
    let moved : IsPermutation (puts s keys) (map draft_of ds ++ map manifest_of ms) =
    IsPermutation-append (words.drafts s keys) (map draft_of ds) (words.manifests s keys) (map manifest_of ms) one two in
    let told : (all : List words.Draft) → IsPermutation (map draft_of ds ++ map manifest_of ms) all → AreTouched s all c.in_ok-touched.touched =
    touched-by s c.in_ok-touched.touched ds c.deref.result.now ms c.deref-2.result.now c.deref.ensures.value c.deref-2.ensures.value
    c.in_ok-touched.ensures in
    let touched : AreTouched s (puts s keys) c.in_ok-touched.touched =
    told (puts s keys) (IsPermutation-sym (puts s keys) (map draft_of ds ++ map manifest_of ms) moved) in
    let points : c.in_ok-points.points.items ≡ map (has_point s keys) rows =
    c.in_ok-points.ensures s keys
    (subst (λ (l : List ManifestDraft). IsPermutation (words.manifests s keys) (map manifest_of l)) (sym c.deref-3.ensures.value) two) in record {
      publishers = c.in_ok-publishers.ensures;
      drafts = c.in_ok-drafts.ensures.ordered;
      issuers = c.in_ok-drafts.ensures.issuers;
      subjects = c.in_ok-drafts.ensures.subjects;
      manifests = c.in_ok-manifests.ensures.ordered;
      manifest_issuers = c.in_ok-manifests.ensures.issuers;
      touched = touched;
      listed = told (map draft_of ds ++ map manifest_of ms) (IsPermutation-refl (map draft_of ds ++ map manifest_of ms));
      points = points;
      entries = c.in_ok-revoked.ensures.firsts keys (puts s keys) touched (c.deref-4.ensures.value ∙ points);
      revoked = c.in_ok-revoked.ensures.revoked c.requires.moment c.requires.revoked;
      given = given-over c.in_ok-serials.serials.given.items (words.drafts s keys) ds c.deref-5.result.now c.deref-5.ensures.value one c.in_ok-serials.ensures.given;
      next = next-over c.in_ok-serials.serials.next.items (words.drafts s keys) rows ds c.deref-5.result.now c.deref-5.ensures.value one c.in_ok-serials.ensures.next;
    }
