-- The keys and the objects of an edition, by the plan of its work.
use Rattle.std.specs.Prelude.{◌≡◌, ◌⊎◌, ◌↔◌, true, not, None, List, map, Contains, IsPermutation}
use Rattle.std.specs.List.Sorted.{IsSortedBy}
use Rattle.key_roll.specs.declared.rows.KeyRow.{KeyRow}
use Rattle.key_roll.specs.declared.work.Work.{Work}
use Rattle.key_roll.specs.declared.work.CertWork.{CertWork}
use Rattle.entitle.specs.Certified.{names_of}
use Rattle.issue_plan.specs.Keys.{next_keys}
use Rattle.issue_plan.specs.Wanted.{PlanInput}
use Rattle.issue_keys.specs.Keys.{id_of}
use Rattle.issue_make.specs.Trace.{is_before}
use Rattle.issue_drafts.specs.WorkKeys.{Keys, all_keys}
use Rattle.issue_drafts.specs.IssueInput.{IssueInput}
use Rattle.issue_drafts.specs.Publishers.{made_for, names_key}
use Rattle.issue_drafts.specs.Drafts.{drafts, manifests}
use Rattle.issue_drafts.specs.Revoking.{has_point}
use Rattle.editions.specs.Keys.{AreNext}
use Rattle.editions.specs.Wanted.{there, whole, anew, all_certificates, new_objects}
use Rattle.editions.specs.Wanted.{keeps_certificate, keeps_point}

-- The work, made over what stands.
abbrev pub made_from : PlanInput → Work → IssueInput
made_from plan_input work = record {
  work = work;
  names = names_of plan_input.basis.configs;
  issued = plan_input.issued;
  site = plan_input.site;
}

-- What is made of a row keeps its desk, its role and its key.
pub record KeepsUri (after : KeyRow → KeyRow) : Type 0 where
  pub desk : (key : KeyRow) → (after key).desk ≡ key.desk
  pub role : (key : KeyRow) → (after key).role ≡ key.role
  pub key : (key : KeyRow) → id_of (after key) ≡ id_of key

-- Where the work certifies the key: as all that is wanted does, or nowhere, since the certificate
-- that stands for it fits.
abbrev pub IsCertifiedBy : PlanInput → Work → Keys → List KeyRow → KeyRow → Type 0
IsCertifiedBy plan_input work found keys row =
    (made_for (made_from plan_input work) found row ≡ made_for (whole plan_input keys) (there keys) row)
    ⊎ ((made_for (made_from plan_input work) found row ≡ None)
    × ((cert : CertWork) × Contains (all_certificates plan_input keys) cert
    × (names_key (there keys) cert.subject row ≡ true)
    × (keeps_certificate plan_input keys cert ≡ true)))

-- The keys that stayed and were made are the next ones, and what is drafted of the work is what is
-- wanted for them and doesn't fit. Each whose point doesn't fit gets a CRL and a manifest. What is
-- made of their rows stands in their order, once it stands by desk and role.
pub record AreOfPlan (plan_input : PlanInput) (work : Work) (found : Keys) : Type 0 where
  pub keys : List KeyRow
  pub next : AreNext plan_input.basis.rows (next_keys plan_input.basis) keys
  pub same : (key : KeyRow) → Contains keys key ↔ Contains (all_keys found) key
  pub moment : work.moment ≡ plan_input.basis.moment
  pub pointed : (key : KeyRow) → Contains keys key
      → has_point (made_from plan_input work) found key ≡ not (keeps_point plan_input keys key)
  pub ordered : (after : KeyRow → KeyRow) → KeepsUri after → (rows : List KeyRow)
      → IsPermutation (map after (all_keys found)) rows → IsSortedBy is_before rows
      → rows ≡ map after keys
  pub published : (row : KeyRow) → IsCertifiedBy plan_input work found keys row
  pub drafts : drafts (made_from plan_input work) found ≡ new_objects plan_input keys
  pub manifests :
      manifests (made_from plan_input work) found ≡ manifests (anew plan_input keys) (there keys)
