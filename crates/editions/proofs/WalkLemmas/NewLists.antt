-- What a manifest lists that an edition made is a list.
use Rattle.std.proofs.Common.{◌≡◌, ◌≢◌, ℕ, ◌+◌, true, false, Some, List, [], ◌∷◌, ◌++◌, take, map, Ok, All, AllPairs, refl, sym, ap, subst, ◌∙◌, arith}
use Rattle.std.specs.Prelude.{◌↔◌}
use Rattle.std.proofs.lemmas.Option.{same_Some, slice_get_within}
use Rattle.names.specs.Name.{IsName}
use Rattle.key_ids.specs.Uris.{Bases, anchor_uri, file_uri, folder_of, manifest_uri}
use Rattle.authority_book.specs.declared.rows.NameRow.{NameRow}
use Rattle.entitle.specs.Certified.{names_of}
use Rattle.key_roll.specs.declared.rows.KeyRow.{KeyRow}
use Rattle.cert_obj.specs.Values.{SignedCert}
use Rattle.payloads.specs.ManifestFormats.{Manifest as Listing}
use Rattle.pub_set.specs.Changes.{Contents}
use Rattle.rp_rules.specs.Objects.{SignedManifest, manifest_in}
use Rattle.rp_rules.specs.Authorities.{Authority, is_folder}
use Rattle.rp_rules.specs.Certificates.{WalkContext, is_revoked}
use Rattle.rp_rules.specs.Points.{Point, is_list, accepted_point}
use Rattle.rp_rules.specs.Lasting.{KeepsPointRules}
use Rattle.issue_values.specs.Bodies.{crl_entry}
use Rattle.issue_keys.specs.Keys.{id_of}
use Rattle.issue_drafts.specs.Publishers.{name_at}
use Rattle.issue_drafts.specs.Drafts.{Draft}
use Rattle.issue_drafts.specs.Drafts.Kind.{Manifest}
use Rattle.editions.specs.Edition.{Edition, set_after}
use Rattle.editions.specs.Held.{IsHeld, HaveOwnSerials}
use Rattle.editions.specs.Names.{AreTree}
use Rattle.editions.specs.Objects.{Issuance}
use Rattle.editions.specs.Step.{Premises, IsStep, AreSteps, configs_at}
use Rattle.editions.specs.MadeIn.{issuance_of, IsMadeIn, IsAuthorityOf}
use Rattle.items.specs.laws.AmongLaws.{In, contains-in, in-contains}
use Rattle.editions.proofs.ObjectLemmas.Standing.{IsPlacedAt}
use Rattle.editions.proofs.ObjectLemmas.History.{take-next}
use Rattle.editions.proofs.ObjectLemmas.Left.{of-keys, front-steps}
use Rattle.editions.proofs.WalkLemmas.Build as build
use Rattle.editions.proofs.WalkLemmas.Build.{AreKinds}
use Rattle.editions.proofs.WalkLemmas.Folders.{plain-folder, plain-name}
use Rattle.editions.proofs.WalkLemmas.Inside.{HaveSpans, AreInsides}
use Rattle.editions.proofs.WalkLemmas.KeyTree.{in-tree}
use Rattle.editions.proofs.WalkLemmas.Rows.{rows-apart}
use Rattle.editions.proofs.PlanLemmas.Told.{AreTold, HaveEnds}
use Rattle.editions.proofs.WalkLemmas.Serving.{IsServed}
use Rattle.editions.proofs.WalkLemmas.Serves.{all-served}
use Rattle.editions.proofs.WalkLemmas.Revoked.{leaves-held}

module _ (own : (premises : Premises) (editions : List Edition) (id : List ℕ) → AreSteps premises editions
    → HaveOwnSerials editions id)
    (told : AreTold) (ends : HaveEnds) (spans : HaveSpans) (insides : AreInsides)
    (points : (s : WalkContext) (held : Contents) (authority : Authority) (visited : List (List ℕ)) (p : Point)
    → (accepted_point s held authority visited ≡ Ok p) ↔ KeepsPointRules s held authority visited p)
    (premises : Premises) (editions : List Edition) (steps : AreSteps premises editions) (uri bytes : List ℕ)
    (position : ℕ) (made_in : IsMadeIn premises editions uri bytes position)
    (tree : AreTree (names_of (configs_at premises.lists made_in.edition.cut)))
    (plain : All (λ row. IsName row.name) (names_of (configs_at premises.lists made_in.edition.cut))) where
  abbrev until : List Edition
  until = take position editions

  abbrev edition : Edition
  edition = made_in.edition

  abbrev step : IsStep premises made_in.clock until edition
  step = made_in.step

  abbrev m : Issuance
  m = issuance_of premises made_in.clock until edition step

  abbrev names : List NameRow
  names = names_of m.plan_input.basis.configs

  taken : take (position + 1) editions ≡ until ++ edition ∷ []
  taken = take-next editions position edition made_in.there

  steps-to : AreSteps premises (until ++ edition ∷ [])
  steps-to = subst (AreSteps premises) taken (front-steps premises editions (position + 1) steps)

  before : AllPairs (λ a b. id_of a ≢ id_of b) m.plan_input.basis.rows
  before = rows-apart premises until edition steps-to

  folders : (k : KeyRow) → In k m.keys
      → is_folder m.plan_input.site (folder_of m.plan_input.site (name_at names k.desk)) ≡ true
  folders k at =
      let is = in-tree m.plan_input.basis m.keys tree step.made.certified before step.made.next k at in
      plain-folder m.plan_input.site (name_at names k.desk) (plain-name names plain k.desk is.name is.is.named)

  -- What stands serves.
  served : IsServed m
  served = all-served told ends premises until made_in.clock edition step steps-to tree plain

  not-revoked : (k : KeyRow) (at : In k m.keys) (c : SignedCert) → IsHeld m.new (id_of k) c
      → is_revoked (map crl_entry (served.points k (in-contains k m.keys at)).revoked) c.cert.serial ≡ false
  not-revoked = leaves-held own premises until edition steps-to made_in.clock step served

  abbrev apart : (site : Bases) (a f : List ℕ) → anchor_uri site ≢ file_uri site a f
  apart = told.anchor

  abbrev kinds : AreKinds
  kinds = record {
    anchor = ends.anchor;
    certificates = ends.certificates;
    crls = ends.crls;
    manifests = ends.manifests;
    roas = ends.roas;
  }

  module _ (k : KeyRow) (at : In k m.keys) where
    abbrev s : WalkContext
    s = build.s m tree step.made.certified before step.made.next served [] step.made.owes apart kinds spans
        insides folders not-revoked

    abbrev authority : Authority
    authority = build.authority m tree step.made.certified before step.made.next served [] step.made.owes apart
        kinds spans insides folders not-revoked (k, at)

    abbrev point : Point
    point = build.point_of m tree step.made.certified before step.made.next served [] step.made.owes apart
        kinds spans insides folders not-revoked (k, at)

    kept : KeepsPointRules s m.new authority [] point
    kept = (points s m.new authority [] point).0
        (build.accepted m tree step.made.certified before step.made.next served [] step.made.owes apart kinds
        spans insides folders not-revoked (k, at) [] refl refl)

    -- The manifest that stands has a list.
    listed : (found : List ℕ) (manifest : SignedManifest)
        → m.new (manifest_uri m.plan_input.site (name_at names k.desk) (id_of k)) ≡ Some found
        → manifest_in found ≡ Some manifest → is_list authority manifest.body ≡ true
    listed found manifest there read =
        let rules = kept.manifest in
        let same : rules.bytes ≡ found = same_Some rules.bytes found (sym rules.there ∙ there) in
        let one : point.manifest ≡ manifest = same_Some point.manifest manifest
        (sym rules.lasting.shape ∙ (ap manifest_in same ∙ read)) in
        subst (λ (x : SignedManifest). is_list authority x.body ≡ true) one rules.lasting.list

    -- So it has for each authority of the key.
    for-each : (a : Authority) → IsAuthorityOf m k a → (body : Listing) → is_list a body ≡ is_list authority body
    for-each a of body =
        let with : List ℕ → List ℕ → Authority = λ folder manifest. record {
          uri = a.uri;
          cert = record a.cert { uris = record a.cert.uris { folder = folder; manifest = manifest } };
          held = a.held;
        } in
        ap (λ (f : List ℕ). is_list (with f a.cert.uris.manifest) body) of.folder
        ∙ ap (λ (u : List ℕ). is_list (with (folder_of m.plan_input.site (name_at names k.desk)) u) body) of.manifest

  abbrev d : Draft
  d = made_in.draft

  stands : m.new uri ≡ Some bytes
  stands =
      ap (λ (l : List Edition). set_after l uri) (sym taken)
      ∙ made_in.since position (omega arith) (slice_get_within editions position edition made_in.there)

  pub new-list : d.kind ≡ Manifest → (a : Authority) → IsAuthorityOf m d.issuer a → (manifest : SignedManifest)
      → manifest_in bytes ≡ Some manifest → is_list a manifest.body ≡ true
  new-list kind a of manifest read =
      let keys = of-keys m d made_in.wanted in
      let at : In d.issuer m.keys = contains-in d.issuer m.keys keys.live in
      let placed : IsPlacedAt m d Manifest = subst (IsPlacedAt m d) kind keys.placed in
      let there : m.new (manifest_uri m.plan_input.site (name_at names d.issuer.desk) (id_of d.issuer)) ≡ Some bytes =
      ap m.new (sym placed ∙ made_in.place) ∙ stands in
      for-each d.issuer at a of manifest.body ∙ listed d.issuer at bytes manifest there read
