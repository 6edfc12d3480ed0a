-- Each thing that an edition wants has its draft.
use Rattle.std.proofs.Common.{◌≡◌, ◌≢◌, ℕ, Option, List, [], ◌∷◌, ◌++◌, map, AllPairs, IsSome, sym, ap, subst, ◌∙◌}
use Rattle.std.specs.Prelude.{is_some}
use Rattle.std.proofs.lemmas.Option.{same_Some}
use Rattle.entitle.specs.declared.trees.Owed.{Owed}
use Rattle.entitle.specs.Certified.{names_of, AreCertified}
use Rattle.entitle.specs.Owed.{AreOwed}
use Rattle.key_roll.specs.declared.rows.KeyRow.{KeyRow}
use Rattle.key_roll.specs.declared.work.CertWork.{CertWork}
use Rattle.key_roll.specs.declared.work.RoaWork.{RoaWork}
use Rattle.issue_plan.specs.declared.keys.NextKey.{NextKey}
use Rattle.issue_plan.specs.Keys.{kept, next_keys}
use Rattle.issue_plan.specs.Wanted.{certificate_of, roa_of, point_of}
use Rattle.issue_keys.specs.Keys.{id_of}
use Rattle.issue_drafts.specs.WorkKeys.{Keys}
use Rattle.issue_drafts.specs.IssueInput.{IssueInput}
use Rattle.issue_drafts.specs.Drafts.{certificate_draft, roa_draft, crl_draft, manifest_draft}
use Rattle.editions.specs.Keys.{AreNext}
use Rattle.editions.specs.Edition.{Edition, state_after}
use Rattle.editions.specs.Wanted.{there, whole, all_certificates, all_roas}
use Rattle.editions.specs.Objects.{Issuance}
use Rattle.editions.specs.Names.{AreTree}
use Rattle.editions.specs.Drafted.{HaveDrafts}
use Rattle.editions.specs.Step.{Premises, IsStep, AreSteps, plan_input_at, configs_at}
use Rattle.items.specs.laws.AmongLaws.{In, all-in, map-in, filter-map-in}
use Rattle.editions.proofs.WalkLemmas.Rows.{issuance, rows-apart}
use Rattle.editions.proofs.WalkLemmas.Homes as homes
use Rattle.editions.proofs.WalkLemmas.KeyDrafts as drawn

-- What is known of what an edition is made of.
pub record IsIssued (m : Issuance) : Type 0 where
  pub tree : AreTree (names_of m.plan_input.basis.configs)
  pub certified : AreCertified m.plan_input.basis.configs m.plan_input.basis.sets
  pub apart : AllPairs (λ a b. id_of a ≢ id_of b) m.plan_input.basis.rows
  pub next : AreNext m.plan_input.basis.rows (next_keys m.plan_input.basis) m.keys
  pub owes : AreOwed m.plan_input.basis.configs m.plan_input.owed

module _ (m : Issuance) (is : IsIssued m) where
  abbrev w : IssueInput
  w = whole m.plan_input m.keys

  abbrev ks : Keys
  ks = there m.keys

  abbrev nexts : List NextKey
  nexts = map kept m.keys

  abbrev certificate_for : NextKey → Option CertWork
  certificate_for = certificate_of m.plan_input.basis.configs m.plan_input.basis.sets nexts

  each-key : (k : KeyRow) → In k m.keys → IsSome (certificate_for (kept k))
  each-key k at = ap is_some (homes.work-is m is.tree is.certified is.apart is.next k at)

  each-origin : (o : Owed) → In o m.plan_input.owed → IsSome (roa_of nexts o)
  each-origin o at = ap is_some (drawn.work-is m is.tree is.certified is.apart is.next is.owes o at)

  certificates : (cert : CertWork) → In cert (all_certificates m.plan_input m.keys)
      → IsSome (certificate_draft w ks cert)
  certificates cert inside =
      let n = filter-map-in certificate_for cert nexts inside in
      let k = map-in kept n.0 m.keys n.1 in
      let work : CertWork = homes.work m is.tree is.certified is.apart is.next k.0 k.1 in
      let same : work ≡ cert = same_Some work cert
      (sym (homes.work-is m is.tree is.certified is.apart is.next k.0 k.1) ∙ (ap certificate_for k.2 ∙ n.2)) in
      subst (λ (c : CertWork). IsSome (certificate_draft w ks c)) same
      (ap is_some (homes.draft-is m is.tree is.certified is.apart is.next k.0 k.1))

  roas : (roa : RoaWork) → In roa (all_roas m.plan_input m.keys) → IsSome (roa_draft w ks roa)
  roas roa inside =
      let o = filter-map-in (roa_of nexts) roa m.plan_input.owed inside in
      let work : RoaWork = drawn.work m is.tree is.certified is.apart is.next is.owes o.0 o.1 in
      let same : work ≡ roa = same_Some work roa
      (sym (drawn.work-is m is.tree is.certified is.apart is.next is.owes o.0 o.1) ∙ o.2) in
      subst (λ (r : RoaWork). IsSome (roa_draft w ks r)) same
      (ap is_some (drawn.roa-draft-is m is.tree is.certified is.apart is.next is.owes o.0 o.1))

  crls : (k : KeyRow) → In k m.keys → IsSome (crl_draft w ks (point_of (kept k)))
  crls k at = ap is_some (drawn.crl-draft-is m is.tree is.certified is.apart is.next k at)

  manifests : (k : KeyRow) → In k m.keys → IsSome (manifest_draft w ks (point_of (kept k)))
  manifests k at = ap is_some (drawn.manifest-draft-is m is.tree is.certified is.apart is.next k at)

  pub have-drafts : HaveDrafts m.plan_input m.keys
  have-drafts = record {
    each_key = all-in (λ (k : KeyRow). IsSome (certificate_for (kept k))) m.keys each-key;
    each_origin = all-in (λ (o : Owed). IsSome (roa_of nexts o)) m.plan_input.owed each-origin;
    certificates = all-in (λ (cert : CertWork). IsSome (certificate_draft w ks cert))
        (all_certificates m.plan_input m.keys) certificates;
    roas = all-in (λ (roa : RoaWork). IsSome (roa_draft w ks roa))
        (all_roas m.plan_input m.keys) roas;
    crls = all-in (λ (k : KeyRow). IsSome (crl_draft w ks (point_of (kept k)))) m.keys crls;
    manifests = all-in (λ (k : KeyRow). IsSome (manifest_draft w ks (point_of (kept k)))) m.keys
        manifests;
  }

-- So of each edition that follows others.
pub wanted-drafted : (premises : Premises) (clock : ℕ) (editions : List Edition) (edition : Edition)
    → AreSteps premises (editions ++ edition ∷ [])
    → AreTree (names_of (configs_at premises.lists edition.cut))
    → (step : IsStep premises clock editions edition)
    → HaveDrafts (plan_input_at premises (state_after editions) edition step.sets step.owed step.issued)
    step.made.keys
wanted-drafted premises clock editions edition steps tree step =
    let m : Issuance = issuance premises clock editions edition step in
    have-drafts m (record {
      tree = tree;
      certified = step.made.certified;
      apart = rows-apart premises editions edition steps;
      next = step.made.next;
      owes = step.made.owes;
    })
