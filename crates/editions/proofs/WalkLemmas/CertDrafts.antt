-- The drafts of certificates are those of the edition's keys.
use Rattle.std.proofs.Common.{◌≡◌, ◌≢◌, Bool, true, false, Option, Some, AllPairs, refl, sym, ap, ◌∙◌}
use Rattle.std.specs.Prelude.{Contains, option_map}
use Rattle.std.proofs.lemmas.Bool.{true≢false}
use Rattle.std.proofs.lemmas.Option.{same_Some}
use Rattle.std.proofs.lemmas.Slice.Eq.{bytes_eq-Decides}
use Rattle.res_sets.specs.declared.holdings.Resources.{Resources}
use Rattle.entitle.specs.Certified.{names_of, AreCertified}
use Rattle.key_roll.specs.declared.rows.KeyRow.{KeyRow}
use Rattle.key_roll.specs.declared.work.CertWork.{CertWork}
use Rattle.issue_plan.specs.Keys.{next_keys}
use Rattle.issue_keys.specs.Keys.{id_of}
use Rattle.issue_keys.specs.Indexes.{has_id}
use Rattle.issue_drafts.specs.WorkKeys.{key_named, key_of}
use Rattle.issue_drafts.specs.Publishers.{names_key}
use Rattle.issue_drafts.specs.Drafts.{Draft, Kind, certificate_draft, roa_draft, crl_draft, manifest_draft}
use Rattle.issue_drafts.specs.Drafts.Kind.{Certificate, Roa, Crl, Manifest}
use Rattle.editions.specs.Keys.{AreNext}
use Rattle.editions.specs.Names.{AreTree}
use Rattle.editions.specs.Wanted as wanted
use Rattle.editions.specs.Wanted.{whole, all_certificates, all_roas, all_points, all_objects}
use Rattle.editions.specs.Objects.{Issuance}
use Rattle.items.specs.laws.ElementLaws.{from-filter_map}
use Rattle.items.specs.laws.AmongLaws.{In, contains-in}
use Rattle.editions.proofs.ObjectLemmas.Named.{cert-draft, mapped-draft}
use Rattle.editions.proofs.ObjectLemmas.Left.{each-draft}
use Rattle.editions.proofs.WalkLemmas.Homes as homes

module _ (n : Issuance) (tree : AreTree (names_of n.plan_input.basis.configs))
    (certified : AreCertified n.plan_input.basis.configs n.plan_input.basis.sets)
    (before : AllPairs (λ a b. id_of a ≢ id_of b) n.plan_input.basis.rows)
    (next : AreNext n.plan_input.basis.rows (next_keys n.plan_input.basis) n.keys) where
  -- The draft of a certificate.
  record IsCertDraft (d : Draft) : Type 0 where
    cert : CertWork
    among : Contains (all_certificates n.plan_input n.keys) cert
    draft : certificate_draft (whole n.plan_input n.keys) (wanted.there n.keys) cert ≡ Some d

  abbrev IsCertKind : Draft → Type 0
  IsCertKind d = (subject : KeyRow) (held : Resources) → d.kind ≡ Certificate subject held → IsCertDraft d

  is-certificate : Kind → Bool
  is-certificate (Certificate subject held) = true
  is-certificate (Roa origin) = false
  is-certificate Crl = false
  is-certificate Manifest = false

  no-certificate : (make : KeyRow → Draft) → ((k : KeyRow) → is-certificate (make k).kind ≡ false)
      → (o : Option KeyRow) (d : Draft) → option_map make o ≡ Some d → IsCertKind d
  unfolding is-certificate
  no-certificate make other o d is =
      let parts = mapped-draft make o d is in
      λ subject held kind. absurd (true≢false (sym (ap is-certificate kind)
      ∙ (ap (λ (x : Draft). is-certificate x.kind) (sym parts.2) ∙ other parts.0)))

  kind-of : (d : Draft) → Contains (all_objects n.plan_input n.keys) d → IsCertKind d
  unfolding is-certificate
  kind-of =
      let s = whole n.plan_input n.keys in
      let ks = wanted.there n.keys in
      each-draft n IsCertKind
      (λ d c subject held is.
      let from = from-filter_map (certificate_draft s ks) (all_certificates n.plan_input n.keys) d c in
      record { cert = from.0; among = from.1; draft = from.2 })
      (λ d c.
      let from = from-filter_map (roa_draft s ks) (all_roas n.plan_input n.keys) d c in
      no-certificate _ (λ k. refl) (key_named ks from.0.issuer) d from.2)
      (λ d c.
      let from = from-filter_map (crl_draft s ks) (all_points n.keys) d c in
      no-certificate _ (λ k. refl) (key_named ks from.0.key) d from.2)
      (λ d c.
      let from = from-filter_map (manifest_draft s ks) (all_points n.keys) d c in
      no-certificate _ (λ k. refl) (key_named ks from.0.key) d from.2)

  -- A certificate's draft for the key is that of its certificate.
  pub own-draft : (d : Draft) → Contains (all_objects n.plan_input n.keys) d → (subject : KeyRow) (held : Resources)
      → d.kind ≡ Certificate subject held → (k : KeyRow) (at : In k n.keys) → id_of subject ≡ id_of k
      → d ≡ homes.draft n tree certified before next k at
  own-draft d c subject held is k at same =
      let w = kind-of d c subject held is in
      let parts = cert-draft (whole n.plan_input n.keys) (wanted.there n.keys) w.cert d w.draft in
      let subject_is : parts.1 ≡ subject = subject-of parts.1 subject
      (ap (λ (x : Draft). x.kind) parts.4 ∙ is) in
      let names_k : names_key (wanted.there n.keys) w.cert.subject k ≡ true =
      ap (λ (o : Option KeyRow). has_id (id_of k) (option_map key_of o)) parts.3
      ∙ (bytes_eq-Decides (id_of parts.1) (id_of k)).1 (ap id_of subject_is ∙ same) in
      let one : w.cert ≡ homes.work n tree certified before next k at =
      homes.one-work n tree certified before next k at w.cert
      (contains-in w.cert (all_certificates n.plan_input n.keys) w.among) names_k in
      same_Some d (homes.draft n tree certified before next k at)
      (sym w.draft ∙ (ap (certificate_draft (whole n.plan_input n.keys) (wanted.there n.keys)) one
      ∙ homes.draft-is n tree certified before next k at))
    where
      subject-of : (one other : KeyRow) → {set : Resources} → Certificate one set ≡ Certificate other held → one ≡ other
      subject-of one other e = cc
