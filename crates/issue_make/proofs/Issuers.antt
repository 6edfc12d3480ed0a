-- The kinds of drafts, and what holds of the keys that issue them.
use Rattle.std.proofs.Common.{◌≡◌, false, Option, None, Some, List, ◌++◌, map, refl}
use Rattle.std.specs.List.{All, filter_map}
use Rattle.std.specs.Option.{IfSome, option_map, option_and_then}
use Rattle.std.proofs.lemmas.List.Elements.{All-append}
use Rattle.std.proofs.lemmas.List.Sorted.{All-permutation}
use Rattle.key_ids.specs.Uris.{crl_uri, manifest_uri}
use Rattle.key_roll.specs.declared.rows.KeyRow.{KeyRow}
use Rattle.key_roll.specs.declared.work.CertWork.{CertWork}
use Rattle.key_roll.specs.declared.work.RoaWork.{RoaWork}
use Rattle.key_roll.specs.declared.work.PointWork.{PointWork}
use Rattle.issue_values.specs.Publishers.{roa_uri}
use Rattle.issue_keys.specs.Keys.{id_of}
use Rattle.issue_drafts.specs.WorkKeys.{Keys, all_keys, key_named}
use Rattle.issue_drafts.specs.IssueInput.{IssueInput}
use Rattle.issue_drafts.specs.Publishers.{name_at, made_uri}
use Rattle.issue_drafts.specs.Drafts.{Draft, is_manifest, drafts, manifests, AreOrdered}
use Rattle.issue_drafts.specs.Drafts.{certificate_draft, roa_draft, crl_draft, manifest_draft}
use Rattle.issue_drafts.specs.Drafts.Kind.{Certificate, Roa, Crl, Manifest}
use Rattle.issue_sign.specs.Objects.{Signed}
use Rattle.issue_make.proofs.Parts.{all-of-map, all-filter-map, named-holds}

-- The draft of an object that is no manifest, by a key of which P holds.
abbrev pub IsPlain : (KeyRow → Type 0) → Draft → Type 0
IsPlain P d = P d.issuer × (is_manifest d.kind ≡ false)

certificate-plain : (P : KeyRow → Type 0) (s : IssueInput) (keys : Keys) (cert : CertWork) → All P (all_keys keys)
    → IfSome (certificate_draft s keys cert) (IsPlain P)
certificate-plain P s keys cert all = by (key_named keys cert.issuer) refl (key_named keys cert.subject)
  where
    by : (o : Option KeyRow) → key_named keys cert.issuer ≡ o → (p : Option KeyRow)
        → IfSome (option_and_then (λ (issuer : KeyRow). option_map (λ (subject : KeyRow). record {
          uri = made_uri s.site s.names issuer subject;
          issuer = issuer;
          kind = Certificate subject cert.held;
        }) p) o) (IsPlain P)
    by None e p = tt
    by (Some issuer) e None = tt
    by (Some issuer) e (Some subject) = (named-holds P keys cert.issuer issuer e all, refl)

roa-plain : (P : KeyRow → Type 0) (s : IssueInput) (keys : Keys) (roa : RoaWork) → All P (all_keys keys)
    → IfSome (roa_draft s keys roa) (IsPlain P)
roa-plain P s keys roa all = by (key_named keys roa.issuer) refl
  where
    by : (o : Option KeyRow) → key_named keys roa.issuer ≡ o → IfSome (option_map (λ (issuer : KeyRow). record {
      uri = roa_uri s.site (name_at s.names issuer.desk) roa.origin;
      issuer = issuer;
      kind = Roa roa.origin;
    }) o) (IsPlain P)
    by None e = tt
    by (Some issuer) e = (named-holds P keys roa.issuer issuer e all, refl)

crl-plain : (P : KeyRow → Type 0) (s : IssueInput) (keys : Keys) (point : PointWork) → All P (all_keys keys)
    → IfSome (crl_draft s keys point) (IsPlain P)
crl-plain P s keys point all = by (key_named keys point.key) refl
  where
    by : (o : Option KeyRow) → key_named keys point.key ≡ o → IfSome (option_map (λ (issuer : KeyRow). record {
      uri = crl_uri s.site (name_at s.names issuer.desk) (id_of issuer);
      issuer = issuer;
      kind = Crl;
    }) o) (IsPlain P)
    by None e = tt
    by (Some issuer) e = (named-holds P keys point.key issuer e all, refl)

all-plain : (P : KeyRow → Type 0) (s : IssueInput) (keys : Keys) → All P (all_keys keys) → All (IsPlain P) (drafts s keys)
all-plain P s keys all =
    let certs = filter_map (certificate_draft s keys) s.work.certs in
    let roas = filter_map (roa_draft s keys) s.work.roas in
    let crls = filter_map (crl_draft s keys) s.work.points in
    All-append (IsPlain P) (certs ++ roas) crls
    (All-append (IsPlain P) certs roas
    (all-filter-map (IsPlain P) (certificate_draft s keys) s.work.certs (λ cert. certificate-plain P s keys cert all))
    (all-filter-map (IsPlain P) (roa_draft s keys) s.work.roas (λ roa. roa-plain P s keys roa all)))
    (all-filter-map (IsPlain P) (crl_draft s keys) s.work.points (λ point. crl-plain P s keys point all))

pub objects-plain : (P : KeyRow → Type 0) (s : IssueInput) (keys : Keys) (xs : List Signed) → All P (all_keys keys)
    → AreOrdered (drafts s keys) (map (λ x. x.draft) xs) → All (λ x. IsPlain P x.draft) xs
objects-plain P s keys xs all ordered =
    all-of-map (IsPlain P) (λ (x : Signed). x.draft) xs
    (All-permutation (IsPlain P) (drafts s keys) (map (λ (x : Signed). x.draft) xs) ordered.permutation (all-plain P s keys all))

-- ---- manifests

abbrev IsLast : Draft → Type 0
IsLast d = d.kind ≡ Manifest

manifest-last : (s : IssueInput) (keys : Keys) (point : PointWork) → IfSome (manifest_draft s keys point) IsLast
manifest-last s keys point = by (key_named keys point.key)
  where
    by : (o : Option KeyRow) → IfSome (option_map (λ (issuer : KeyRow). record {
      uri = manifest_uri s.site (name_at s.names issuer.desk) (id_of issuer);
      issuer = issuer;
      kind = Manifest;
    }) o) IsLast
    by None = tt
    by (Some issuer) = refl

pub all-last : (s : IssueInput) (keys : Keys) (xs : List Signed) → AreOrdered (manifests s keys) (map (λ x. x.draft) xs)
    → All (λ x. x.draft.kind ≡ Manifest) xs
all-last s keys xs ordered =
    all-of-map IsLast (λ (x : Signed). x.draft) xs
    (All-permutation IsLast (manifests s keys) (map (λ (x : Signed). x.draft) xs) ordered.permutation
    (all-filter-map IsLast (manifest_draft s keys) s.work.points (manifest-last s keys)))
