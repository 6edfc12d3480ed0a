-- What an edition puts, and how many signatures that takes: all that it wants and that doesn't fit
-- what stands, and nothing else.
use Rattle.std.specs.Prelude.{◌≡◌, ⊤, ℕ, ◌+◌, ◌*◌, Bool, true, false, List, length, sum_by}
use Rattle.std.specs.Prelude.{All, Any, Option, None, Some}
use Rattle.signer_api.specs.State.{SignerState}
use Rattle.pub_set.specs.declared.steps.Change.{Change}
use Rattle.pub_set.specs.declared.steps.Change.TheVariants.{Put}
use Rattle.pub_set.specs.Changes.{change_at}
use Rattle.key_roll.specs.declared.work.Work.{Work}
use Rattle.issue_plan.specs.Keys.{kept}
use Rattle.issue_plan.specs.Wanted.{point_of}
use Rattle.issue_drafts.specs.Drafts.{Draft}
use Rattle.issue_drafts.specs.Drafts.{certificate_draft, roa_draft, crl_draft, manifest_draft}
use Rattle.editions.specs.Wanted.{there, whole, all_certificates, all_roas, all_objects}
use Rattle.editions.specs.Wanted.{keeps_certificate, keeps_roa, keeps_point}
use Rattle.editions.specs.Objects.{Issuance}

-- ---- what is put

-- Something is put at the URI.
pub record IsPutAt (changes : List Change) (uri : List ℕ) : Type 0 where
  pub bytes : List ℕ
  pub replaces : Option (List ℕ)
  pub is : change_at changes uri ≡ Some (Put uri bytes replaces)

-- Nothing changes at the place of an object that is kept. Any other is put there.
abbrev pub IsPutUnless : List Change → Bool → Option Draft → Type 0
IsPutUnless changes is_kept None = ⊤
IsPutUnless changes true (Some d) = change_at changes d.uri ≡ None
IsPutUnless changes false (Some d) = IsPutAt changes d.uri

-- Of all that the edition wants just what doesn't fit is put, and nothing that it doesn't want.
pub record PutsWhatDoesNotFit (m : Issuance) (changes : List Change) : Type 0 where
  pub certificates : All (λ cert.
      IsPutUnless changes (keeps_certificate m.plan_input m.keys cert)
      (certificate_draft (whole m.plan_input m.keys) (there m.keys) cert))
      (all_certificates m.plan_input m.keys)
  pub roas : All (λ roa. IsPutUnless changes (keeps_roa m.plan_input m.keys roa)
      (roa_draft (whole m.plan_input m.keys) (there m.keys) roa)) (all_roas m.plan_input m.keys)
  pub crls : All (λ key. IsPutUnless changes (keeps_point m.plan_input m.keys key)
      (crl_draft (whole m.plan_input m.keys) (there m.keys) (point_of (kept key)))) m.keys
  pub manifests : All (λ key. IsPutUnless changes (keeps_point m.plan_input m.keys key)
      (manifest_draft (whole m.plan_input m.keys) (there m.keys) (point_of (kept key)))) m.keys
  pub others : (uri : List ℕ) → IsPutAt changes uri
      → Any (λ d. d.uri ≡ uri) (all_objects m.plan_input m.keys)

-- ---- what it takes

-- The signatures that the signers gave, all together.
abbrev pub given_by : List SignerState → ℕ
given_by signers = sum_by (λ signer. signer.signatures) signers

-- One for each certificate, two for each ROA, and three for each point: the CRL's, and the
-- manifest's two.
abbrev pub signatures_for : Work → ℕ
signatures_for work = length work.certs + 2 * length work.roas + 3 * length work.points
