-- What the objects of a plan come to.
use Rattle.std.specs.Prelude.{◌≡◌, ◌≢◌, ℕ, ◌+◌, ◌<◌, ◌^◌, List, ◌++◌, map, sum_by, length, slice_get}
use Rattle.std.specs.Prelude.{Some, All, AllPairs, Any, IsPermutation}
use Rattle.std.specs.List.Sorted.{IsSortedBy, IsStableBy}
use Rattle.sha2.specs.Sha256.{sha256}
use Rattle.pub_set.specs.Changes.{uri_of, change_at}
use Rattle.pub_set.specs.Objects.{Rise}
use Rattle.key_roll.specs.declared.rows.KeyRow.{KeyRow}
use Rattle.issue_values.specs.Certificates.{IsEditionMoment}
use Rattle.issue_drafts.specs.IssueInput.{IssueInput}
use Rattle.issue_drafts.specs.Drafts.{serial_behind}
use Rattle.issue_drafts.specs.Views.{draft_of, manifest_of}
use Rattle.issue_drafts.specs.Serials.{given_serial}
use Rattle.issue_drafts.specs.Revoking.{has_point}
use Rattle.issue_sign.specs.Objects.{bytes_of, manifest_bytes}
use Rattle.issue_make.specs.declared.made.Made.{Made}
use Rattle.issue_make.specs.declared.publishing.ChangesWithRows.{ChangesWithRows}
use Rattle.issue_make.specs.Trace.{IssuingTrace, all_of, made_of, wanted_at, IsIssued}
use Rattle.issue_make.specs.Trace.{row_after}
use Rattle.issue_make.specs.Trace.{is_before, signatures_of}
use Rattle.issue_make.specs.inner.Putting.{contents_of, hashes_of}
use Rattle.issue_make.specs.declared.plans.ObjectPlan.{ObjectPlan}
use Rattle.issue_make.specs.declared.objects.Objects.{Objects}

-- The URIs of a plan's objects.
abbrev pub uris_in : ObjectPlan → List (List ℕ)
uris_in plan = map (λ d. d.uri) plan.drafts.items ++ map (λ d. d.uri) plan.manifests.items

-- An object and a serial for each draft, and a position for each manifest's key.
pub record AreWhole (plan : ObjectPlan) (objects : Objects) : Type 0 where
  pub given : length plan.serials.given.items ≡ length plan.drafts.items
  pub drafted : length objects.drafted.items ≡ length plan.drafts.items
  pub positions : All (λ d. d.issuer.position < length plan.serials.next.items) plan.manifests.items
  pub listed : length objects.listed.items ≡ length plan.manifests.items

-- What the outcome asks: URIs that are apart, numbers below their end, a row for each key.
pub record CanComeOut (s : IssueInput) (rows : List KeyRow) (plan : ObjectPlan) (objects : Objects)
    : Type 0 where
  pub moment : IsEditionMoment s.work.moment
  pub standing : Rise (λ row. row.uri) s.issued
  pub once : AllPairs (λ a b. a ≢ b) (uris_in plan ++ s.work.withdrawn)
  pub whole : AreWhole plan objects
  pub points : length plan.points.items ≡ length rows
  pub next : length plan.serials.next.items ≡ length rows
  pub revoked : length plan.revoked.items ≡ length rows
  pub serials : All (λ n. n + 1 < 2 ^ 64) plan.serials.next.items
  pub numbers : All (λ row. row.number + 1 < 2 ^ 64) rows

-- The plan and its objects are those of that trace.
pub record IsOfPlan (s : IssueInput) (plan : ObjectPlan) (objects : Objects) (trace : IssuingTrace)
    : Type 0 where
  pub drafts : map (λ x. x.draft) trace.objects ≡ map draft_of plan.drafts.items
  pub given : plan.serials.given.items
      ≡ map (λ d. given_serial (all_of s trace) (draft_of d)) plan.drafts.items
  pub contents : contents_of objects.drafted.items
      ≡ map (bytes_of s trace.keys (all_of s trace) trace.entries) trace.objects
  pub hashes : hashes_of objects.drafted.items
      ≡ map (λ x. sha256 (bytes_of s trace.keys (all_of s trace) trace.entries x))
      trace.objects
  pub manifests : map (λ x. x.draft) trace.listed ≡ map manifest_of plan.manifests.items
  pub next : All (λ d. slice_get plan.serials.next.items d.issuer.position
      ≡ Some (serial_behind (all_of s trace) d.issuer.row.now)) plan.manifests.items
  pub listed_contents : contents_of objects.listed.items
      ≡ map (manifest_bytes s trace.keys (all_of s trace) trace.files) trace.listed
  pub listed_hashes : hashes_of objects.listed.items
      ≡ map (λ x. sha256 (manifest_bytes s trace.keys (all_of s trace) trace.files x))
      trace.listed

-- What the plan says of the keys is that of the trace.
pub record IsOfKeys (s : IssueInput) (rows : List KeyRow) (plan : ObjectPlan)
    (trace : IssuingTrace)
    : Type 0 where
  pub points : plan.points.items ≡ map (has_point s trace.keys) rows
  pub next : plan.serials.next.items ≡ map (serial_behind (all_of s trace)) rows
  pub entries : plan.revoked.items ≡ map trace.entries rows

-- The changes and the rows of what is put are those of that trace.
pub record IsPublication (s : IssueInput) (trace : IssuingTrace) (published : ChangesWithRows)
    : Type 0 where
  pub rising : Rise uri_of published.changes
  pub changes : (uri : List ℕ) → change_at published.changes uri ≡ wanted_at s trace uri
  pub listed : Rise (λ row. row.uri) published.issued
  pub count : length published.issued ≡ length (made_of trace)
  pub issued : All (λ x. Any (IsIssued s trace x) published.issued) (made_of trace)

-- So are the rows of the keys, which stand in their order, and the number of signatures.
pub record IsOutcome (s : IssueInput) (rows : List KeyRow) (trace : IssuingTrace) (made : Made)
    : Type 0 where
  pub rising : Rise uri_of made.changes
  pub changes : (uri : List ℕ) → change_at made.changes uri ≡ wanted_at s trace uri
  pub listed : Rise (λ row. row.uri) made.issued
  pub count : length made.issued ≡ length (made_of trace)
  pub issued : All (λ x. Any (IsIssued s trace x) made.issued) (made_of trace)
  pub after : IsPermutation (map (row_after s trace) rows) made.rows
  pub sorted : IsSortedBy is_before made.rows
  pub stable : IsStableBy is_before (map (row_after s trace) rows) made.rows
  pub signatures : made.signatures ≡ sum_by (λ x. signatures_of x.draft.kind) (made_of trace)
