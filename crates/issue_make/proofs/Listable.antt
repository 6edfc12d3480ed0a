-- What an edition's keys have can be listed by their manifests: what stays, and what is made.
use Rattle.std.specs.Prelude.{nat_eq, codes, IfSome}
use Rattle.std.proofs.Common.{◌≡◌, ◌≢◌, ◌⊎◌, inl, inr, ℕ, suc, Bool, true, false, not, cond, ◌&&◌, Option, None, Some, List, [], ◌∷◌, ◌++◌, get_or, map, refl, sym, ap, subst, ◌∙◌, arith}
use Rattle.std.specs.List.{All, AllPairs, filter_map, slice_get}
use Rattle.std.specs.Cmp.Lexicographic.{pointwise}
use Rattle.std.specs.Option.{option_map, option_and_then}
use Rattle.std.specs.Str.{bytes_eq}
use Rattle.std.proofs.lemmas.Bool.{and_parts, cases_lt}
use Rattle.std.proofs.lemmas.Cmp.{nat_list_eq_equiv}
use Rattle.std.proofs.lemmas.List.Elements.{All-nil, All-cons, All-append}
use Rattle.std.proofs.lemmas.List.Sorted.{All-permutation}
use Rattle.std.proofs.lemmas.Option.{get_or_from_slice_get, slice_get_within}
use Rattle.std.proofs.lemmas.Slice.Eq.{bytes_eq-Decides}
use Rattle.std.proofs.Math.Seq.{take-append_seam, drop-append_seam}
use Rattle.hex.specs.Hex.{encode_lower}
use Rattle.payloads.specs.ManifestFormats.{is_name}
use Rattle.key_ids.specs.Uris.{anchor_uri, cert_uri, crl_uri}
use Rattle.issue_values.specs.Publishers.{roa_uri}
use Rattle.origins.specs.Origin.{origin_text}
use Rattle.key_roll.specs.declared.rows.KeyRow.{KeyRow}
use Rattle.key_roll.specs.declared.work.CertWork.{CertWork}
use Rattle.key_roll.specs.declared.work.RoaWork.{RoaWork}
use Rattle.key_roll.specs.declared.work.PointWork.{PointWork}
use Rattle.issue_keys.specs.Keys.{id_of}
use Rattle.issue_drafts.specs.WorkKeys.{Keys, key_named, keys_at}
use Rattle.issue_drafts.specs.IssueInput.{IssueInput}
use Rattle.issue_drafts.specs.Publishers.{is_key, made_uri, name_at}
use Rattle.issue_drafts.specs.Drafts.{Draft, certificate_draft, roa_draft, crl_draft, drafts, manifests}
use Rattle.issue_drafts.specs.Drafts.Kind.{Certificate, Roa, Crl}
use Rattle.issue_drafts.specs.Views.{draft_of, manifest_of, IsPositioned}
use Rattle.issue_drafts.specs.declared.draft.Draft as code
use Rattle.issue_drafts.specs.declared.draft.ManifestDraft as listed
use Rattle.issue_drafts.specs.Revoking.{is_touched}
use Rattle.issue_drafts.specs.Files.{IsListable, AreListable, folder_at, is_kept, is_made_under}
use Rattle.issue_make.specs.ObjectPlan.{puts, IsObjectPlan}
use Rattle.issue_make.specs.CanMake.{CanMake}
use Rattle.issue_make.specs.CanMake as works
use Rattle.issue_make.specs.declared.plans.ObjectPlan.{ObjectPlan}
use Rattle.issue_make.proofs.Names.{key-name, origin-name}
use Rattle.issue_make.proofs.Parts.{all-of-map, all-filter-map}
use Rattle.issue_make.proofs.Conditions.{AreRows, keys-are, rows-apart}

-- A file of a folder.
in-folder : (folder file : List ℕ) → is_name file ≡ true → IsListable folder (folder ++ file)
in-folder folder file named = record {
  inside = subst (λ (l : List ℕ). pointwise nat_eq folder l ≡ true) (sym (take-append_seam folder file)) (nat_list_eq_equiv.refl folder);
  name = subst (λ (l : List ℕ). is_name l ≡ true) (sym (drop-append_seam folder file)) named;
}

-- ---- what is made

-- The trust anchor's own certificate, or a file of its issuer's authority.
abbrev IsOwn : IssueInput → Draft → Type 0
IsOwn s d = (d.uri ≡ anchor_uri s.site) ⊎ IsListable (folder_at s d.issuer) d.uri

made-own : (s : IssueInput) (issuer subject : KeyRow)
    → (made_uri s.site s.names issuer subject ≡ anchor_uri s.site) ⊎ IsListable (folder_at s issuer) (made_uri s.site s.names issuer subject)
made-own s issuer subject = by (is_key issuer subject)
  where
    own : List ℕ
    own = cert_uri s.site (name_at s.names issuer.desk) (id_of subject)

    by : (b : Bool) → (cond b (anchor_uri s.site) (cert_uri s.site (name_at s.names issuer.desk) (id_of subject)) ≡ anchor_uri s.site)
        ⊎ IsListable (folder_at s issuer) (cond b (anchor_uri s.site) (cert_uri s.site (name_at s.names issuer.desk) (id_of subject)))
    by true = inl refl
    by false = inr (in-folder (folder_at s issuer) (encode_lower (id_of subject) ++ codes ".cer") (key-name subject (codes "cer") refl refl))

certificate-own : (s : IssueInput) (keys : Keys) (cert : CertWork) → IfSome (certificate_draft s keys cert) (IsOwn s)
certificate-own s keys cert = by (key_named keys cert.issuer) (key_named keys cert.subject)
  where
    by : (a b : Option KeyRow) → IfSome (option_and_then (λ (issuer : KeyRow).
        option_map (λ (subject : KeyRow). record {
          uri = made_uri s.site s.names issuer subject;
          issuer = issuer;
          kind = Certificate subject cert.held;
        }) b) a) (IsOwn s)
    by None b = tt
    by (Some issuer) None = tt
    by (Some issuer) (Some subject) = made-own s issuer subject

roa-own : (s : IssueInput) (keys : Keys) (roa : RoaWork) → IfSome (roa_draft s keys roa) (IsOwn s)
roa-own s keys roa = by (key_named keys roa.issuer)
  where
    by : (a : Option KeyRow) → IfSome (option_map (λ (issuer : KeyRow). record {
      uri = roa_uri s.site (name_at s.names issuer.desk) roa.origin;
      issuer = issuer;
      kind = Roa roa.origin;
    }) a) (IsOwn s)
    by None = tt
    by (Some issuer) = inr (in-folder (folder_at s issuer) (encode_lower (origin_text roa.origin) ++ codes ".roa") (origin-name roa.origin))

crl-own : (s : IssueInput) (keys : Keys) (point : PointWork) → IfSome (crl_draft s keys point) (IsOwn s)
crl-own s keys point = by (key_named keys point.key)
  where
    by : (a : Option KeyRow) → IfSome (option_map (λ (issuer : KeyRow). record {
      uri = crl_uri s.site (name_at s.names issuer.desk) (id_of issuer);
      issuer = issuer;
      kind = Crl;
    }) a) (IsOwn s)
    by None = tt
    by (Some issuer) = inr (in-folder (folder_at s issuer) (encode_lower (id_of issuer) ++ codes ".crl") (key-name issuer (codes "crl") refl refl))

drafts-own : (s : IssueInput) (keys : Keys) → All (IsOwn s) (drafts s keys)
drafts-own s keys =
    All-append (IsOwn s) (filter_map (certificate_draft s keys) s.work.certs ++ filter_map (roa_draft s keys) s.work.roas)
    (filter_map (crl_draft s keys) s.work.points)
    (All-append (IsOwn s) (filter_map (certificate_draft s keys) s.work.certs) (filter_map (roa_draft s keys) s.work.roas)
    (all-filter-map (IsOwn s) (certificate_draft s keys) s.work.certs (certificate-own s keys))
    (all-filter-map (IsOwn s) (roa_draft s keys) s.work.roas (roa-own s keys)))
    (all-filter-map (IsOwn s) (crl_draft s keys) s.work.points (crl-own s keys))

-- ---- a key stands once

same-key : (rows : List KeyRow) (a b : KeyRow) (p q : ℕ) → AllPairs (λ x y. id_of x ≢ id_of y) rows
    → slice_get rows p ≡ Some a → slice_get rows q ≡ Some b → id_of a ≡ id_of b → a ≡ b
same-key rows a b p q apart first second same =
    elim (cases_lt p q) [
      | inl less ↦ absurd (apart p q a less (slice_get_within rows q b second)
          (ap id_of (get_or_from_slice_get rows p a a first) ∙ (same ∙ sym (ap id_of (get_or_from_slice_get rows q b a second)))))
      | inr from ↦ elim (cases_lt q p) [
        | inl more ↦ absurd (apart q p a more (slice_get_within rows p a first)
            (ap id_of (get_or_from_slice_get rows q b a second) ∙ (sym same ∙ sym (ap id_of (get_or_from_slice_get rows p a a first)))))
        | inr to ↦
            let e : p ≡ q = omega (arith, from, to) in
            let both : Some a ≡ Some b = sym first ∙ (ap (slice_get rows) e ∙ second) in
            cc
      ]
    ]

-- ---- under a key

one-under : (s : IssueInput) (key : KeyRow) (d : Draft) → (is_key d.issuer key ≡ true → d.issuer ≡ key) → IsOwn s d
    → is_made_under s key d ≡ true → IsListable (folder_at s key) d.uri
one-under s key d same (inl anchor) made =
    let other = (and_parts (is_key d.issuer key) (not (bytes_eq d.uri (anchor_uri s.site))) made).1 in
    let yes = (bytes_eq-Decides d.uri (anchor_uri s.site)).1 anchor in
    absurd cc
one-under s key d same (inr is) made =
    subst (λ (k : KeyRow). IsListable (folder_at s k) d.uri)
    (same (and_parts (is_key d.issuer key) (not (bytes_eq d.uri (anchor_uri s.site))) made).0) is

all-under : (s : IssueInput) (rows : List KeyRow) (key : KeyRow) (position : ℕ) (ds : List code.Draft)
    → AllPairs (λ a b. id_of a ≢ id_of b) rows → slice_get rows position ≡ Some key
    → All (λ d. IsPositioned rows d.issuer) ds → All (IsOwn s) (map draft_of ds)
    → All (λ d. is_made_under s key d ≡ true → IsListable (folder_at s key) d.uri) (map draft_of ds)
all-under s rows key position [] apart at positioned own = All-nil _
all-under s rows key position (d ∷ ds) apart at positioned own =
    All-cons (λ (x : Draft). is_made_under s key x ≡ true → IsListable (folder_at s key) x.uri) (draft_of d) (map draft_of ds)
    (one-under s key (draft_of d)
    (λ yes. same-key rows d.issuer.row.now key d.issuer.position position apart (positioned 0 d (omega arith)) at
    ((bytes_eq-Decides (id_of d.issuer.row.now) (id_of key)).0 yes))
    (own 0 (draft_of d) (omega arith)))
    (all-under s rows key position ds apart at (λ k x lt. positioned (suc k) x (omega arith)) (λ k x lt. own (suc k) x (omega arith)))

-- ---- what stays

kept-of : (s : IssueInput) (keys : Keys) (others : List Draft) (key : KeyRow)
    → ((uri : List ℕ) → is_touched s others uri ≡ is_touched s (puts s keys) uri) → works.AreListable s keys key
    → All (λ row. is_kept s others key row ≡ true → IsListable (folder_at s key) row.uri) s.issued
kept-of s keys others key same listable k d lt kept =
    let row = get_or s.issued k d in
    listable k d lt (subst (λ (b : Bool). (bytes_eq row.issuer.bytes (id_of key) && not (bytes_eq row.uri (anchor_uri s.site)) && not b) ≡ true)
    (same row.uri) kept)

-- ---- for each manifest of a plan

pub listable-of : (s : IssueInput) (live rows : List KeyRow) (n signers : ℕ) (plan : ObjectPlan) → CanMake s live signers → AreRows s live rows n
    → IsObjectPlan s (keys_at rows n) rows plan
    → All (λ m. AreListable s (map draft_of plan.drafts.items ++ map manifest_of plan.manifests.items) (map draft_of plan.drafts.items)
    m.issuer.row.now) plan.manifests.items
listable-of s live rows n signers plan work are p =
    let keys = keys_at rows n in
    let apart = rows-apart s live rows n signers work are in
    let fits = work.fits keys (keys-are s live rows n are) in
    let own = All-permutation (IsOwn s) (drafts s keys) (map draft_of plan.drafts.items) p.drafts.permutation (drafts-own s keys) in
    let stays = all-of-map (λ (d : Draft). works.AreListable s keys d.issuer) manifest_of plan.manifests.items
    (All-permutation (λ (d : Draft). works.AreListable s keys d.issuer) (manifests s keys) (map manifest_of plan.manifests.items)
    p.manifests.permutation fits.kept) in
    λ k d lt.
    let m : listed.ManifestDraft = get_or plan.manifests.items k d in
    record {
      kept = kept-of s keys (map draft_of plan.drafts.items ++ map manifest_of plan.manifests.items) m.issuer.row.now
          (λ uri. sym (p.listed uri) ∙ p.touched uri) (stays k d lt);
      made = all-under s rows m.issuer.row.now m.issuer.position plan.drafts.items apart (p.manifest_issuers k d lt) p.issuers own;
    }
