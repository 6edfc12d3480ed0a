-- ROAs that stand in the folders of names.
use Rattle.std.proofs.Common.{◌≡◌, ◌≢◌, ℕ, ◌⊎◌, inl, inr, Option, None, Some, List, ◌++◌, map, length, refl, sym, ap, subst, ◌∙◌}
use Rattle.std.specs.Prelude.{option_map, option_and_then}
use Rattle.std.specs.List.{All, AllPairs, Any}
use Rattle.std.specs.List.Sorted.{IsPermutation}
use Rattle.std.proofs.lemmas.Option.{same_Some}
use Rattle.std.proofs.lemmas.List.{map-append}
use Rattle.std.proofs.lemmas.List.Sorted.{IsPermutation-append}
use Rattle.names.specs.Name.{IsName}
use Rattle.key_ids.specs.Uris.{crl_uri, manifest_uri}
use Rattle.issue_keys.specs.Keys.{id_of}
use Rattle.origins.specs.declared.Origin.{Origin}
use Rattle.entitle.specs.declared.trees.Owed.{Owed}
use Rattle.entitle.specs.Certified.{names_of}
use Rattle.key_roll.specs.declared.rows.KeyRow.{KeyRow}
use Rattle.key_roll.specs.declared.issued.IssuedRow.{IssuedRow}
use Rattle.key_roll.specs.declared.issued.What.{What}
use Rattle.key_roll.specs.declared.issued.What.TheVariants as Whats
use Rattle.key_roll.specs.declared.work.KeyName.{KeyName}
use Rattle.key_roll.specs.declared.work.CertWork.{CertWork}
use Rattle.key_roll.specs.declared.work.Work.{Work}
use Rattle.pub_set.specs.declared.steps.Change.{Change}
use Rattle.pub_set.specs.Objects.{Rise, found_at}
use Rattle.pub_set.specs.Changes.{change_at}
use Rattle.issue_drafts.specs.WorkKeys.{Keys, key_named}
use Rattle.issue_drafts.specs.Publishers.{name_at, made_uri}
use Rattle.issue_values.specs.Publishers.{roa_uri}
use Rattle.issue_drafts.specs.IssueInput.{IssueInput}
use Rattle.issue_drafts.specs.Drafts.{Draft, Kind, drafts, manifests, certificate_draft, roa_draft}
use Rattle.issue_drafts.specs.Drafts.Kind.{Certificate, Roa, Crl, Manifest}
use Rattle.issue_drafts.specs.laws.UriOrder.{apart-from-rise, found-some, found-there}
use Rattle.issue_sign.specs.Objects.{Signed}
use Rattle.issue_make.specs.Trace.{IssuingTrace, IsIssuingTrace, made_of, IsIssued, Says}
use Rattle.issue_make.specs.ObjectPlan.{puts}
use Rattle.issue_plan.specs.ByName.{IsRoaUri, StandByName}
use Rattle.issue_plan.specs.Keys.{kept}
use Rattle.issue_plan.specs.Wanted.{PlanInput, roa_by, current_of, certificate_of, point_of}
use Rattle.items.specs.laws.AmongLaws.{In, in-all, all-in, in-parts, filter-map-in, map-in, in-permuted, contains-in, in-contains}
use Rattle.editions.specs.Standing.{row_at, IsTableAfter}
use Rattle.editions.specs.Standing as table
use Rattle.editions.specs.Wanted.{there, whole}
use Rattle.editions.specs.inner.PlanAndTable.{made_from, AreOfPlan}
use Rattle.editions.proofs.PlanLemmas.Drafted.{AreKnown, all_certs, all_roas, all_crls, all_manifests, all_puts, cert_for, crl_for, manifest_for}
use Rattle.editions.proofs.PlanLemmas.Once.{name-ok, roa-from}
use Rattle.editions.proofs.PlanLemmas.After.{row-put}

-- ---- what is drafted as a ROA

drafted-as : {X : Type 0} (o : Option X) (draft : X → Draft) (kind : Kind) (d : Draft) → ((x : X) → (draft x).kind ≡ kind)
    → option_map draft o ≡ Some d → d.kind ≡ kind
drafted-as None draft kind d is e = absurd cc
drafted-as (Some x) draft kind d is e = let same : draft x ≡ d = cc in ap (λ (y : Draft). y.kind) (sym same) ∙ is x

abbrev roa_of : IssueInput → Origin → KeyRow → Draft
roa_of s origin issuer = record {
  uri = roa_uri s.site (name_at s.names issuer.desk) origin;
  issuer = issuer;
  kind = Roa origin;
}

abbrev crl_of : IssueInput → KeyRow → Draft
crl_of s issuer = record {
  uri = crl_uri s.site (name_at s.names issuer.desk) (id_of issuer);
  issuer = issuer;
  kind = Crl;
}

abbrev manifest_of : IssueInput → KeyRow → Draft
manifest_of s issuer = record {
  uri = manifest_uri s.site (name_at s.names issuer.desk) (id_of issuer);
  issuer = issuer;
  kind = Manifest;
}

roa-kind : (s : IssueInput) (keys : Keys) (o : Owed) (issuer : Option KeyName) (d : Draft)
    → option_and_then (roa_draft s keys) (roa_by o issuer) ≡ Some d → d.kind ≡ Roa o.origin
roa-kind s keys o None d e = absurd cc
roa-kind s keys o (Some issuer) d e = drafted-as (key_named keys issuer) (roa_of s o.origin) (Roa o.origin) d (λ k. refl) e

abbrev cert_of : IssueInput → CertWork → KeyRow → KeyRow → Draft
cert_of s cert issuer subject = record {
  uri = made_uri s.site s.names issuer subject;
  issuer = issuer;
  kind = Certificate subject cert.held;
}

cert-kind : (s : IssueInput) (keys : Keys) (origin : Origin) (cert : Option CertWork) (d : Draft)
    → option_and_then (certificate_draft s keys) cert ≡ Some d → d.kind ≢ Roa origin
cert-kind s keys origin None d e is = absurd cc
cert-kind s keys origin (Some cert) d e is = by (key_named keys cert.issuer) (key_named keys cert.subject) e
  where
    by : (a b : Option KeyRow) → option_and_then (λ (issuer : KeyRow). option_map (cert_of s cert issuer) b) a ≡ Some d → ⊥
    by None b f = absurd cc
    by (Some issuer) None f = absurd cc
    by (Some issuer) (Some subject) f =
        let no : Certificate subject cert.held ≡ Roa origin =
        ap (λ (y : Draft). y.kind) (same_Some (cert_of s cert issuer subject) d f) ∙ is in
        absurd cc

module _ (plan_input : PlanInput) (ks : List KeyRow) (known : AreKnown plan_input ks)
    (plain : All (λ row. IsName row.name) (names_of plan_input.basis.configs)) where
  -- What is put as an origin's ROA is at a URI of the origin's.
  pub roa-at : (d : Draft) (origin : Origin) → In d (all_puts plan_input ks) → d.kind ≡ Roa origin
      → IsRoaUri plan_input.site origin d.uri
  roa-at d origin at is =
      by (in-parts d ((all_certs plan_input ks ++ all_roas plan_input ks) ++ all_crls plan_input ks) (all_manifests plan_input ks) at)
    where
      roa : In d (all_roas plan_input ks) → IsRoaUri plan_input.site origin d.uri
      roa here =
          let w = roa-from plan_input ks known d here in
          let kind : d.kind ≡ Roa w.0.origin =
          ap (λ (y : Draft). y.kind) (sym w.3)
          ∙ roa-kind (whole plan_input ks) (there ks) w.0 (current_of (map kept ks) w.0.desk) w.2.draft w.2.is in
          let both : Roa w.0.origin ≡ Roa origin = sym kind ∙ is in
          let same : w.0.origin ≡ origin = cc in
          record {
            name = w.2.name.name;
            is_name = name-ok plan_input.basis.configs w.0.desk w.2.name plain w.2.called;
            is = ap (λ (y : Draft). y.uri) (sym w.3)
                ∙ (w.2.uri ∙ ap (roa_uri plan_input.site w.2.name.name) same);
          }

      first : In d (all_certs plan_input ks) ⊎ In d (all_roas plan_input ks) → IsRoaUri plan_input.site origin d.uri
      first (inl here) =
          let w = filter-map-in (cert_for plan_input ks) d ks here in
          absurd (cert-kind (whole plan_input ks) (there ks) origin
          (certificate_of plan_input.basis.configs plan_input.basis.sets (map kept ks) (kept w.0)) d w.2 is)
      first (inr here) = roa here

      second : In d (all_certs plan_input ks ++ all_roas plan_input ks) ⊎ In d (all_crls plan_input ks)
          → IsRoaUri plan_input.site origin d.uri
      second (inl here) = first (in-parts d (all_certs plan_input ks) (all_roas plan_input ks) here)
      second (inr here) =
          let w = filter-map-in (crl_for plan_input ks) d ks here in
          let kind : d.kind ≡ Crl =
          drafted-as (key_named (there ks) (point_of (kept w.0)).key) (crl_of (whole plan_input ks)) Crl d (λ k. refl) w.2 in
          let no : Crl ≡ Roa origin = sym kind ∙ is in
          absurd cc

      by : In d ((all_certs plan_input ks ++ all_roas plan_input ks) ++ all_crls plan_input ks) ⊎ In d (all_manifests plan_input ks)
          → IsRoaUri plan_input.site origin d.uri
      by (inl here) = second (in-parts d (all_certs plan_input ks ++ all_roas plan_input ks) (all_crls plan_input ks) here)
      by (inr here) =
          let w = filter-map-in (manifest_for plan_input ks) d ks here in
          let kind : d.kind ≡ Manifest =
          drafted-as (key_named (there ks) (point_of (kept w.0)).key) (manifest_of (whole plan_input ks)) Manifest d (λ k. refl) w.2 in
          let no : Manifest ≡ Roa origin = sym kind ∙ is in
          absurd cc

-- ---- what stands after the making of a plan

-- What says that it is an origin's ROA was drafted as one.
said : (kind : Kind) (what : What) (origin : Origin) → Says kind what → what ≡ Whats.Route origin → kind ≡ Roa origin
said (Certificate subject held) (Whats.Authority key holding) origin says is = absurd cc
said (Certificate subject held) (Whats.Route other) origin says is = absurd says
said (Certificate subject held) Whats.Point origin says is = absurd says
said (Roa own) (Whats.Authority key holding) origin says is = absurd says
said (Roa own) (Whats.Route other) origin says is = let same : other ≡ origin = cc in ap Roa (sym says ∙ same)
said (Roa own) Whats.Point origin says is = absurd says
said Crl what origin says is = let no : Whats.Point ≡ Whats.Route origin = sym says ∙ is in absurd cc
said Manifest what origin says is = let no : Whats.Point ≡ Whats.Route origin = sym says ∙ is in absurd cc

module _ (plan_input : PlanInput) (work : Work) (trace : IssuingTrace) (plan : AreOfPlan plan_input work trace.keys)
    (known : AreKnown plan_input plan.keys) (is_trace : IsIssuingTrace (made_from plan_input work) plan_input.basis.rows trace)
    (plain : All (λ row. IsName row.name) (names_of plan_input.basis.configs))
    (puts-once : AllPairs (λ a b. a ≢ b) (map (λ d. d.uri) (puts (made_from plan_input work) trace.keys)))
    (issued : List IssuedRow) (listed : Rise (λ row. row.uri) issued)
    (count : length issued ≡ length (made_of trace))
    (each : All (λ x. Any (IsIssued (made_from plan_input work) trace x) issued) (made_of trace))
    (wanted_in : (d : Draft) → In d (puts (made_from plan_input work) trace.keys) → In d (all_puts plan_input plan.keys)) where
  abbrev s : IssueInput
  s = made_from plan_input work

  abbrev draft_of : Signed → Draft
  draft_of x = x.draft

  moved : IsPermutation (puts s trace.keys) (map draft_of (made_of trace))
  moved =
      subst (IsPermutation (puts s trace.keys)) (sym (map-append draft_of trace.objects trace.listed))
      (IsPermutation-append (drafts s trace.keys) (map draft_of trace.objects) (manifests s trace.keys)
      (map draft_of trace.listed) is_trace.objects.permutation is_trace.listed.permutation)

  own : (row : IssuedRow) → In row issued → (uri : List ℕ) → row.uri ≡ uri
      → found_at (λ (r : IssuedRow). r.uri) (λ (r : IssuedRow). r) issued uri ≡ Some row
  own row here uri is =
      subst (λ (u : List ℕ). found_at (λ (r : IssuedRow). r.uri) (λ (r : IssuedRow). r) issued u ≡ Some row) is
      (found-there (λ (r : IssuedRow). r.uri) (λ (r : IssuedRow). r) issued row
      (apart-from-rise (λ (r : IssuedRow). r.uri) issued listed) (in-contains row issued here))

  issued-named : (row : IssuedRow) → In row issued → (origin : Origin) → row.what ≡ Whats.Route origin
      → IsRoaUri plan_input.site origin row.uri
  issued-named row here origin is =
      let p = row-put plan_input work trace plan known is_trace puts-once issued count each row here in
      let x = map-in draft_of p.0 (made_of trace) (in-permuted p.0 (puts s trace.keys) (map draft_of (made_of trace)) moved p.1) in
      let any = in-all (λ (y : Signed). Any (IsIssued s trace y) issued) x.0 (made_of trace) each x.1 in
      let inside : In any.1 issued = contains-in any.1 issued (any.0, any.2, any.3) in
      let uri : any.1.uri ≡ row.uri = any.4.uri ∙ (ap (λ (d : Draft). d.uri) x.2 ∙ p.2) in
      let same : any.1 ≡ row = same_Some any.1 row (sym (own any.1 inside row.uri uri) ∙ own row here row.uri refl) in
      let kind : x.0.draft.kind ≡ Roa origin =
      said x.0.draft.kind any.1.what origin any.4.what (ap (λ (r : IssuedRow). r.what) same ∙ is) in
      subst (IsRoaUri plan_input.site origin) p.2
      (roa-at plan_input plan.keys known plain p.0 origin (wanted_in p.0 p.1)
      (ap (λ (d : Draft). d.kind) (sym x.2) ∙ kind))

  -- The ROAs of the next table stand by name where those before did.
  pub table-named : (changes : List Change) (new : List IssuedRow) → IsTableAfter plan_input.issued changes issued new
      → StandByName plan_input.site plan_input.issued → StandByName plan_input.site new
  table-named changes new is_table stood = record {
    roas = all-in (λ (row : IssuedRow). (origin : Origin) → row.what ≡ Whats.Route origin → IsRoaUri plan_input.site origin row.uri)
        new (λ row here.
        by row (row_at plan_input.issued row.uri) (change_at changes row.uri) (row_at issued row.uri) refl refl
        (sym (is_table.each row.uri) ∙ found-there (λ (r : IssuedRow). r.uri) (λ (r : IssuedRow). r) new row
        (apart-from-rise (λ (r : IssuedRow). r.uri) new is_table.rising) (in-contains row new here)));
  }
    where
      by : (row : IssuedRow) (o : Option IssuedRow) (c : Option Change) (n : Option IssuedRow)
          → row_at plan_input.issued row.uri ≡ o → row_at issued row.uri ≡ n → table.row_after o c n ≡ Some row
          → (origin : Origin) → row.what ≡ Whats.Route origin → IsRoaUri plan_input.site origin row.uri
      by row o c (Some r) f h is =
          let w = found-some (λ (x : IssuedRow). x.uri) (λ (x : IssuedRow). x) issued row.uri row (h ∙ is) in
          subst (λ (x : IssuedRow). (origin : Origin) → x.what ≡ Whats.Route origin → IsRoaUri plan_input.site origin x.uri) w.3
          (issued-named w.0 (contains-in w.0 issued w.1))
      by row o (Some c) None f h is = absurd cc
      by row None None None f h is = absurd cc
      by row (Some r) None None f h is =
          let w = found-some (λ (x : IssuedRow). x.uri) (λ (x : IssuedRow). x) plan_input.issued row.uri row (f ∙ is) in
          subst (λ (x : IssuedRow). (origin : Origin) → x.what ≡ Whats.Route origin → IsRoaUri plan_input.site origin x.uri) w.3
          (in-all (λ (x : IssuedRow). (origin : Origin) → x.what ≡ Whats.Route origin → IsRoaUri plan_input.site origin x.uri)
          w.0 plan_input.issued stood.roas (contains-in w.0 plan_input.issued w.1))
