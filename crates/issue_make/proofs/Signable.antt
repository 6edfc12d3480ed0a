-- The objects of a plan can be signed.
use Rattle.std.proofs.Common.{◌≡◌, ℕ, ◌<◌, ◌^◌, Bool, true, false, cond, eqb, Option, None, Some, List, ◌++◌, ◌⊎◌, inl, inr, length, get_or, map, find, refl, sym, ap, subst, ◌∙◌, arith}
use Rattle.std.specs.List.{All, HoldsAt, slice_get, filter_map}
use Rattle.std.specs.Option.{IfSome, IsSome, option_map, option_and_then}
use Rattle.std.proofs.lemmas.Bool.{false≢true}
use Rattle.std.proofs.lemmas.List.{get_or-map, length-map, take-append-drop}
use Rattle.std.proofs.lemmas.List.Elements.{All-append}
use Rattle.std.proofs.lemmas.List.Sorted.{All-permutation}
use Rattle.std.proofs.lemmas.Option.{slice_get_within, get_or_from_slice_get}
use Rattle.cert_obj.specs.Values.{is_uri}
use Rattle.key_ids.specs.Uris.{anchor_uri, cert_uri, crl_uri}
use Rattle.authority_book.specs.declared.rows.NameRow.{NameRow}
use Rattle.key_roll.specs.declared.rows.KeyRow.{KeyRow}
use Rattle.key_roll.specs.declared.work.CertWork.{CertWork}
use Rattle.key_roll.specs.declared.work.RoaWork.{RoaWork}
use Rattle.key_roll.specs.declared.work.PointWork.{PointWork}
use Rattle.issue_values.specs.Publishers.{Publishing, publishing, roa_uri}
use Rattle.issue_values.specs.declared.publishers.Publisher.{Publisher}
use Rattle.issue_keys.specs.Keys.{id_of}
use Rattle.issue_drafts.specs.WorkKeys.{Keys, keys_at, all_keys, key_named}
use Rattle.issue_drafts.specs.IssueInput.{IssueInput}
use Rattle.issue_drafts.specs.Publishers.{publishing_of, certificate_of, made_for, standing_for, issuer_for, first_of, is_key, name_at, made_uri, names_key}
use Rattle.issue_drafts.specs.Drafts as words
use Rattle.issue_drafts.specs.Drafts.{Kind, certificate_draft, roa_draft, crl_draft}
use Rattle.issue_drafts.specs.Drafts.Kind.{Certificate, Roa, Crl, Manifest}
use Rattle.issue_drafts.specs.Views.{draft_of, manifest_of, kind_of, IsPositioned, IsSubjectPositioned}
use Rattle.issue_drafts.specs.declared.draft.KeyAt.{KeyAt}
use Rattle.issue_drafts.specs.declared.draft.Draft as code
use Rattle.issue_drafts.specs.declared.draft.ManifestDraft as manifests
use Rattle.issue_drafts.specs.declared.draft.DraftKind.{DraftKind}
use Rattle.issue_drafts.specs.declared.draft.DraftKind.TheVariants as variants
use Rattle.issue_make.specs.inner.Naming.{CanName}
use Rattle.issue_make.specs.ObjectPlan.{puts}
use Rattle.issue_make.specs.CanMake.{IsCertified}
use Rattle.issue_make.specs.inner.Ready.{IsReady}
use Rattle.issue_make.specs.inner.Signing.{CanIssueIn, CanBe, CanBeSigned}
use Rattle.issue_make.specs.declared.plans.ObjectPlan.{ObjectPlan}
use Rattle.issue_make.proofs.Parts.{at-position, all-of-map, all-front, all-back, all-filter-map, named-holds, name-holds}
use Rattle.issue_make.proofs.Conditions.{keys-are, names-of, signers-of, numbers-of}
use Rattle.issue_make.proofs.Listable.{listable-of}

-- ---- URIs that certificates can name

abbrev CanNameAll : IssueInput → Type 0
CanNameAll s = All (λ (row : NameRow). CanName s.site row.name) s.names

abbrev HaveNames : IssueInput → Keys → Type 0
HaveNames s keys = All (λ (row : KeyRow). row.desk < length s.names) (all_keys keys)

can-name : (s : IssueInput) (desk : ℕ) → CanNameAll s → desk < length s.names → CanName s.site (name_at s.names desk)
can-name s desk named low = name-holds (CanName s.site) s.names desk low named

made-can : (s : IssueInput) (issuer subject : KeyRow) → CanNameAll s → issuer.desk < length s.names
    → is_uri (made_uri s.site s.names issuer subject) ≡ true
made-can s issuer subject named low = by (is_key issuer subject)
  where
    can : CanName s.site (name_at s.names issuer.desk)
    can = can-name s issuer.desk named low

    by : (b : Bool) → is_uri (cond b (anchor_uri s.site) (cert_uri s.site (name_at s.names issuer.desk) (id_of subject))) ≡ true
    by true = can.anchor
    by false = can.certificate (id_of subject)

issuer-holds : (P : KeyRow → Type 0) (keys : Keys) (certs : List CertWork) (row issuer : KeyRow)
    → issuer_for keys certs row ≡ Some issuer → All P (all_keys keys) → P issuer
issuer-holds P keys certs row issuer e all = by (find (λ (cert : CertWork). names_key keys cert.subject row) certs) e
  where
    by : (o : Option CertWork) → option_and_then (λ (cert : CertWork). key_named keys cert.issuer) o ≡ Some issuer → P issuer
    by None e = absurd cc
    by (Some cert) e = named-holds P keys cert.issuer issuer e all

made-for-can : (s : IssueInput) (keys : Keys) (row : KeyRow) (uri : List ℕ) → CanNameAll s → HaveNames s keys
    → made_for s keys row ≡ Some uri → is_uri uri ≡ true
made-for-can s keys row uri named have e = by (issuer_for keys s.work.certs row) refl e
  where
    by : (o : Option KeyRow) → issuer_for keys s.work.certs row ≡ o
        → option_map (λ (issuer : KeyRow). made_uri s.site s.names issuer row) o ≡ Some uri → is_uri uri ≡ true
    by None f e = absurd cc
    by (Some issuer) f e =
        let same : made_uri s.site s.names issuer row ≡ uri = cc in
        subst (λ (u : List ℕ). is_uri u ≡ true) same
        (made-can s issuer row named
        (issuer-holds (λ (r : KeyRow). r.desk < length s.names) keys s.work.certs row issuer f have))

certificate-can : (s : IssueInput) (keys : Keys) (row : KeyRow) → CanNameAll s → HaveNames s keys → row.desk < length s.names
    → IsCertified s keys row → is_uri (certificate_of s keys row) ≡ true
certificate-can s keys row named have low certified = by (eqb row.desk 0) refl
  where
    other : (m t : Option (List ℕ)) → (uri : List ℕ) → made_for s keys row ≡ m
        → IsSome m ⊎ (IsSome t × IfSome t (λ uri. is_uri uri ≡ true)) → is_uri (first_of m t uri) ≡ true
    other (Some made) t uri e known = made-for-can s keys row made named have e
    other None None uri e (inl known) = absurd (false≢true known)
    other None None uri e (inr known) = absurd (false≢true known.0)
    other None (Some stands) uri e (inl known) = absurd (false≢true known)
    other None (Some stands) uri e (inr known) = known.1

    by : (b : Bool) → eqb row.desk 0 ≡ b
        → is_uri (cond b (anchor_uri s.site) (first_of (made_for s keys row) (standing_for s.issued row) (anchor_uri s.site))) ≡ true
    by true e = (can-name s row.desk named low).anchor
    by false e =
        other (made_for s keys row) (standing_for s.issued row) (anchor_uri s.site) refl
        (certified (λ zero. let bad : eqb 0 0 ≡ false = subst (λ (d : ℕ). eqb d 0 ≡ false) zero e in absurd (false≢true (sym bad))))

-- ---- keys at their positions

many : (s : IssueInput) (keys : Keys) (rows : List KeyRow) (ps : List Publisher) → map publishing ps ≡ map (publishing_of s keys) rows
    → length ps ≡ length rows
many s keys rows ps e = sym (length-map ps publishing) ∙ (ap length e ∙ length-map rows (publishing_of s keys))

certificate-at : (s : IssueInput) (keys : Keys) (rows : List KeyRow) (ps : List Publisher) (k : ℕ) (row : KeyRow)
    → map publishing ps ≡ map (publishing_of s keys) rows → slice_get rows k ≡ Some row
    → is_uri (certificate_of s keys row) ≡ true → HoldsAt (λ p. is_uri p.certificate ≡ true) ps k
certificate-at s keys rows ps k row e at uri d =
    let inside : k < length rows = slice_get_within rows k row at in
    let long : length ps ≡ length rows = many s keys rows ps e in
    let one : get_or (map publishing ps) k (publishing d) ≡ publishing (get_or ps k d) =
    get_or-map publishing ps k d (publishing d) (omega arith) in
    let two : get_or (map (publishing_of s keys) rows) k (publishing d) ≡ publishing_of s keys (get_or rows k row) =
    get_or-map (publishing_of s keys) rows k row (publishing d) inside in
    let three : get_or rows k row ≡ row = get_or_from_slice_get rows k row row at in
    let same : publishing (get_or ps k d) ≡ publishing_of s keys row =
    sym one ∙ (ap (λ (l : List Publishing). get_or l k (publishing d)) e ∙ (two ∙ ap (publishing_of s keys) three)) in
    ap (λ (p : Publishing). is_uri p.certificate) same ∙ uri

-- ---- what a plan over ready keys has

module _ (s : IssueInput) (live rows : List KeyRow) (n signers : ℕ) (plan : ObjectPlan) (is : IsReady s live rows n signers plan) where
  have-names : HaveNames s (keys_at rows n)
  have-names =
      subst (All (λ (row : KeyRow). row.desk < length s.names)) (sym (take-append-drop n rows))
      (names-of s live rows n signers is.ready.work is.ready.are)

  issuer-can : (k : KeyAt) → IsPositioned rows k → IsCertified s (keys_at rows n) k.row.now → CanIssueIn plan signers k
  issuer-can k at certified =
      let inside : k.position < length rows = slice_get_within rows k.position k.row.now at in
      let long : length plan.publishers.items ≡ length rows = many s (keys_at rows n) rows plan.publishers.items is.is_plan.publishers in
      let low : k.row.now.desk < length s.names =
      at-position (λ (row : KeyRow). row.desk < length s.names) rows k.position k.row.now at
      (names-of s live rows n signers is.ready.work is.ready.are) in record {
        inside = omega arith;
        certified = certificate-at s (keys_at rows n) rows plan.publishers.items k.position k.row.now is.is_plan.publishers at
            (certificate-can s (keys_at rows n) k.row.now is.ready.named have-names low certified);
        number = at-position (λ (row : KeyRow). row.number < 2 ^ 62) rows k.position k.row.now at
            (numbers-of s live rows n signers is.ready.work is.ready.are);
        signer = at-position (λ (row : KeyRow). row.signer < signers) rows k.position k.row.now at
            (signers-of s live rows n signers is.ready.work is.ready.are);
      }

  all-certified : All (λ (d : words.Draft). IsCertified s (keys_at rows n) d.issuer) (puts s (keys_at rows n))
  all-certified = (is.ready.work.fits (keys_at rows n) (keys-are s live rows n is.ready.are)).certified

  drafts-certified : All (λ (d : code.Draft). IsCertified s (keys_at rows n) d.issuer.row.now) plan.drafts.items
  drafts-certified =
      all-of-map (λ (d : words.Draft). IsCertified s (keys_at rows n) d.issuer) draft_of plan.drafts.items
      (All-permutation (λ (d : words.Draft). IsCertified s (keys_at rows n) d.issuer) (words.drafts s (keys_at rows n))
      (map draft_of plan.drafts.items) is.is_plan.drafts.permutation
      (all-front (λ (d : words.Draft). IsCertified s (keys_at rows n) d.issuer) (words.drafts s (keys_at rows n))
      (words.manifests s (keys_at rows n)) all-certified))

  manifests-certified : All (λ (d : manifests.ManifestDraft). IsCertified s (keys_at rows n) d.issuer.row.now) plan.manifests.items
  manifests-certified =
      all-of-map (λ (d : words.Draft). IsCertified s (keys_at rows n) d.issuer) manifest_of plan.manifests.items
      (All-permutation (λ (d : words.Draft). IsCertified s (keys_at rows n) d.issuer) (words.manifests s (keys_at rows n))
      (map manifest_of plan.manifests.items) is.is_plan.manifests.permutation
      (all-back (λ (d : words.Draft). IsCertified s (keys_at rows n) d.issuer) (words.drafts s (keys_at rows n))
      (words.manifests s (keys_at rows n)) all-certified))

-- ---- the URIs of ROAs

abbrev NamesRoa : Kind → List ℕ → Type 0
NamesRoa (Certificate subject held) uri = Unit {0}
NamesRoa (Roa origin) uri = is_uri uri ≡ true
NamesRoa Crl uri = Unit {0}
NamesRoa Manifest uri = Unit {0}

abbrev IsNamed : words.Draft → Type 0
IsNamed d = NamesRoa d.kind d.uri

certificate-named : (s : IssueInput) (keys : Keys) (cert : CertWork) → IfSome (certificate_draft s keys cert) IsNamed
certificate-named s keys cert = by (key_named keys cert.issuer) (key_named keys cert.subject)
  where
    by : (o p : Option KeyRow) → IfSome (option_and_then (λ (issuer : KeyRow). option_map (λ (subject : KeyRow). record {
      uri = made_uri s.site s.names issuer subject;
      issuer = issuer;
      kind = Certificate subject cert.held;
    }) p) o) IsNamed
    by None p = tt
    by (Some issuer) None = tt
    by (Some issuer) (Some subject) = tt

roa-named : (s : IssueInput) (keys : Keys) (roa : RoaWork) → CanNameAll s → HaveNames s keys → IfSome (roa_draft s keys roa) IsNamed
roa-named s keys roa named have = by (key_named keys roa.issuer) refl
  where
    by : (o : Option KeyRow) → key_named keys roa.issuer ≡ o → IfSome (option_map (λ (issuer : KeyRow). record {
      uri = roa_uri s.site (name_at s.names issuer.desk) roa.origin;
      issuer = issuer;
      kind = Roa roa.origin;
    }) o) IsNamed
    by None e = tt
    by (Some issuer) e =
        (can-name s issuer.desk named
        (named-holds (λ (r : KeyRow). r.desk < length s.names) keys roa.issuer issuer e have)).roa roa.origin

crl-named : (s : IssueInput) (keys : Keys) (point : PointWork) → IfSome (crl_draft s keys point) IsNamed
crl-named s keys point = by (key_named keys point.key)
  where
    by : (o : Option KeyRow) → IfSome (option_map (λ (issuer : KeyRow). record {
      uri = crl_uri s.site (name_at s.names issuer.desk) (id_of issuer);
      issuer = issuer;
      kind = Crl;
    }) o) IsNamed
    by None = tt
    by (Some issuer) = tt

all-named : (s : IssueInput) (keys : Keys) → CanNameAll s → HaveNames s keys → All IsNamed (words.drafts s keys)
all-named s keys named have =
    let certs = filter_map (certificate_draft s keys) s.work.certs in
    let roas = filter_map (roa_draft s keys) s.work.roas in
    let crls = filter_map (crl_draft s keys) s.work.points in
    All-append IsNamed (certs ++ roas) crls
    (All-append IsNamed certs roas
    (all-filter-map IsNamed (certificate_draft s keys) s.work.certs (certificate-named s keys))
    (all-filter-map IsNamed (roa_draft s keys) s.work.roas (λ roa. roa-named s keys roa named have)))
    (all-filter-map IsNamed (crl_draft s keys) s.work.points (crl-named s keys))

-- An object can be made for what is positioned and named.
kind-can : (rows : List KeyRow) (plan : ObjectPlan) (issuer : KeyAt) (uri : List ℕ) (kind : DraftKind)
    → length plan.publishers.items ≡ length rows → length plan.revoked.items ≡ length rows → IsPositioned rows issuer
    → IsSubjectPositioned rows kind → NamesRoa (kind_of kind) uri → CanBe plan issuer uri kind
kind-can rows plan issuer uri (variants.Authority subject held) long short at positioned named =
    let inside : subject.position < length rows = slice_get_within rows subject.position subject.row.now positioned in omega arith
kind-can rows plan issuer uri (variants.Route origin) long short at positioned named = named
kind-can rows plan issuer uri variants.Crl long short at positioned named =
    let inside : issuer.position < length rows = slice_get_within rows issuer.position issuer.row.now at in omega arith

pub can-be-signed : (s : IssueInput) (live rows : List KeyRow) (n signers : ℕ) (plan : ObjectPlan) → IsReady s live rows n signers plan
    → CanBeSigned s plan signers
can-be-signed s live rows n signers plan is =
    let keys = keys_at rows n in
    let p = is.is_plan in
    let long : length plan.publishers.items ≡ length rows = many s keys rows plan.publishers.items p.publishers in
    let short : length plan.revoked.items ≡ length rows = ap length p.entries.is ∙ length-map rows p.entries.of in
    let next : length plan.serials.next.items ≡ length rows = ap length p.next ∙ length-map rows (words.serial_behind (words.drafts s keys)) in
    let certified = drafts-certified s live rows n signers plan is in
    let listed = manifests-certified s live rows n signers plan is in
    let named : All (λ (d : code.Draft). NamesRoa (kind_of d.kind) d.uri) plan.drafts.items =
    all-of-map IsNamed draft_of plan.drafts.items
    (All-permutation IsNamed (words.drafts s keys) (map draft_of plan.drafts.items) p.drafts.permutation
    (all-named s keys is.ready.named (have-names s live rows n signers plan is))) in record {
      keys = keys;
      rows = rows;
      entries = p.entries.of;
      is_plan = p;
      are_entries = p.entries.is;
      moment = is.ready.work.moment;
      revoked = p.revoked;
      issuers = λ k d lt. issuer-can s live rows n signers plan is (get_or plan.drafts.items k d).issuer (p.issuers k d lt) (certified k d lt);
      kinds = λ k d lt. kind-can rows plan (get_or plan.drafts.items k d).issuer (get_or plan.drafts.items k d).uri (get_or plan.drafts.items k d).kind
          long short (p.issuers k d lt) (p.subjects k d lt) (named k d lt);
      given = ap length p.given ∙ length-map plan.drafts.items _;
      next = next ∙ sym long;
      listed = λ k d lt. issuer-can s live rows n signers plan is (get_or plan.manifests.items k d).issuer (p.manifest_issuers k d lt) (listed k d lt);
      names = λ k d lt. at-position (λ (row : KeyRow). row.desk < length s.names) rows (get_or plan.manifests.items k d).issuer.position
          (get_or plan.manifests.items k d).issuer.row.now (p.manifest_issuers k d lt)
          (names-of s live rows n signers is.ready.work is.ready.are);
      standing = is.ready.work.standing;
      rising = p.drafts.rising;
      touched = p.listed;
      listable = listable-of s live rows n signers plan is.ready.work is.ready.are p;
    }
