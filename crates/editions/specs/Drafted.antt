-- That nothing of what an edition wants is left out.
use Rattle.std.specs.Prelude.{List, All, IsSome, map}
use Rattle.key_roll.specs.declared.rows.KeyRow.{KeyRow}
use Rattle.issue_plan.specs.Keys.{kept}
use Rattle.issue_plan.specs.Wanted.{PlanInput, certificate_of, roa_of, point_of}
use Rattle.issue_drafts.specs.Drafts.{certificate_draft, roa_draft, crl_draft, manifest_draft}
use Rattle.editions.specs.Wanted.{there, whole, all_certificates, all_roas}

-- Each live key wants a certificate and each owed origin a ROA, and each of these has a draft,
-- which tells its place and its issuer; so have each key's CRL and manifest.
pub record HaveDrafts (plan_input : PlanInput) (keys : List KeyRow) : Type 0 where
  pub each_key : All (λ key. IsSome (certificate_of plan_input.basis.configs plan_input.basis.sets
      (map kept keys) (kept key))) keys
  pub each_origin : All (λ owed. IsSome (roa_of (map kept keys) owed)) plan_input.owed
  pub certificates : All (λ cert. IsSome (certificate_draft (whole plan_input keys) (there keys)
      cert)) (all_certificates plan_input keys)
  pub roas : All (λ roa. IsSome (roa_draft (whole plan_input keys) (there keys) roa))
      (all_roas plan_input keys)
  pub crls : All (λ key. IsSome (crl_draft (whole plan_input keys) (there keys)
      (point_of (kept key)))) keys
  pub manifests : All (λ key. IsSome (manifest_draft (whole plan_input keys) (there keys)
      (point_of (kept key)))) keys
