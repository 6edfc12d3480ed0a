-- The objects of an edition before they are signed.
use Rattle.std.specs.Prelude.{◌≡◌, ◌≢◌, ◌<◌, ◌≤◌, ◌^◌, List, ◌++◌, map, length, All, AllPairs}
use Rattle.pub_set.specs.Objects.{Rise}
use Rattle.issue_values.specs.Publishers.{publishing}
use Rattle.issue_values.specs.Bodies.{AreRevoked}
use Rattle.key_roll.specs.declared.rows.KeyRow.{KeyRow}
use Rattle.issue_keys.specs.Keys.{id_of}
use Rattle.issue_drafts.specs.WorkKeys.{Keys, Finds}
use Rattle.issue_drafts.specs.IssueInput.{IssueInput}
use Rattle.issue_drafts.specs.Publishers.{publishing_of}
use Rattle.issue_drafts.specs.declared.key_finder.KeyFinder.{KeyFinder}
use Rattle.issue_drafts.specs.Drafts.{Draft, AreOrdered, serial_behind}
use Rattle.issue_drafts.specs.Drafts as words
use Rattle.issue_drafts.specs.Views.{draft_of, manifest_of, IsPositioned, IsSubjectPositioned}
use Rattle.issue_drafts.specs.Serials.{given_serial}
use Rattle.issue_drafts.specs.Firsts.{AreFirsts}
use Rattle.issue_drafts.specs.Revoking.{has_point, candidates}
use Rattle.issue_drafts.specs.Touching.{AreTouched}
use Rattle.issue_drafts.specs.Tables.{IsTable}
use Rattle.issue_make.specs.declared.plans.ObjectPlan.{ObjectPlan}

-- All that is put.
abbrev pub puts : IssueInput → Keys → List Draft
puts s keys = words.drafts s keys ++ words.manifests s keys

-- What the planning asks of the rows of the edition's keys and of what stands.
pub record CanPlanObjects (s : IssueInput) (keys : Keys) (rows : List KeyRow) (finder : KeyFinder)
    : Type 0 where
  pub names : All (λ row. row.desk < length s.names) rows
  pub finds : Finds keys finder
  pub once : AllPairs (λ a b. a ≢ b) (map (λ d. d.uri) (puts s keys))
  pub apart : AllPairs (λ a b. id_of a ≢ id_of b) rows
  pub serials : All (λ row. row.next_serial < 2 ^ 62) rows
  pub moment : 946_684_800 ≤ s.work.moment
  pub revoked : All (λ row. AreRevoked s.work.moment row.revoked) rows
  pub standing : Rise (λ row. row.uri) s.issued

-- It is the plan of that work over those rows.
pub record IsObjectPlan (s : IssueInput) (keys : Keys) (rows : List KeyRow) (plan : ObjectPlan)
    : Type 0 where
  pub publishers : map publishing plan.publishers.items ≡ map (publishing_of s keys) rows
  pub drafts : AreOrdered (words.drafts s keys) (map draft_of plan.drafts.items)
  pub issuers : All (λ d. IsPositioned rows d.issuer) plan.drafts.items
  pub subjects : All (λ d. IsSubjectPositioned rows d.kind) plan.drafts.items
  pub manifests : AreOrdered (words.manifests s keys) (map manifest_of plan.manifests.items)
  pub manifest_issuers : All (λ d. IsPositioned rows d.issuer) plan.manifests.items
  pub touched : AreTouched s (puts s keys) plan.touched
  pub listed : AreTouched s
      (map draft_of plan.drafts.items ++ map manifest_of plan.manifests.items) plan.touched
  pub points : plan.points.items ≡ map (has_point s keys) rows
  pub entries :
      IsTable (λ key entries. AreFirsts (candidates s keys (puts s keys) key) entries) rows
      plan.revoked.items
  pub revoked : All (AreRevoked s.work.moment) plan.revoked.items
  pub given : plan.serials.given.items
      ≡ map (λ d. given_serial (words.drafts s keys) (draft_of d)) plan.drafts.items
  pub next : plan.serials.next.items ≡ map (serial_behind (words.drafts s keys)) rows
