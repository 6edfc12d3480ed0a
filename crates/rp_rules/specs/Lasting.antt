-- What time breaks of an object and what it doesn't (RFC 6487 section 7.2, RFC 6488 section 3, RFC
-- 9286 section 6). Some rules an object keeps for good, under its issuer's key and places: Shape,
-- Signature, Identity, Place, and what a manifest or a ROA says of itself. The others are asked at
-- each walk: Missing, Hash, Time, Revoked, Depth, and that resources are inside the issuer's.
use Rattle.std.specs.Prelude.{◌≡◌, ℕ, ◌==◌, true, false, is_some, is_none, List, [], ◌∷◌, ◌++◌}
use Rattle.std.specs.Prelude.{Some}
use Rattle.sha2.specs.Sha256.{sha256}
use Rattle.key_ids.specs.Uris.{anchor_uri}
use Rattle.pub_set.specs.Changes.{Contents}
use Rattle.cert_obj.specs.Values.{SignedCert}
use Rattle.crl_obj.specs.declared.values.CrlEntry.{CrlEntry}
use Rattle.crl_obj.specs.Values.{CrlValue, SignedCrl}
use Rattle.payloads.specs.ManifestFormats.{manifest_number}
use Rattle.payloads.specs.RoaFormats.{roa_entries}
use Rattle.std.specs.Str.{bytes_eq}
use Rattle.rp_rules.specs.Objects.{SignedManifest, SignedRoa, such, certificate_in, is_anchors}
use Rattle.rp_rules.specs.Objects.{is_authoritys, crl_in, manifest_in, roa_in}
use Rattle.rp_rules.specs.Holdings.{no_sets, held_under, have_prefixes}
use Rattle.rp_rules.specs.Authorities.{Authority, key_id, listed_uri, crl_uri_of, manifest_place}
use Rattle.rp_rules.specs.Certificates.{WalkContext, VouchesMore, File, lies_in, is_valid_at}
use Rattle.rp_rules.specs.Certificates.{is_among, is_revoked}
use Rattle.rp_rules.specs.Certificates.{is_signed_under, names_issuer, is_held_under}
use Rattle.rp_rules.specs.Certificates.{has_anchor_uris, has_authority_uris}
use Rattle.rp_rules.specs.Certificates.{anchor_of, authority_of}
use Rattle.rp_rules.specs.Points.{Point, is_signed, is_identified, is_placed, is_list, is_current}
use Rattle.rp_rules.specs.Points.{crl_file}

-- ---- what may differ between two walks

-- The same key in the same places, whatever else its certificate says.
pub record IsSameIssuer (one other : Authority) : Type 0 where
  pub key : other.cert.key ≡ one.cert.key
  pub uri : other.uri ≡ one.uri
  pub folder : other.cert.uris.folder ≡ one.cert.uris.folder
  pub manifest : other.cert.uris.manifest ≡ one.cert.uris.manifest

-- Another look at the same repository, at whatever moment, with no less vouched.
pub record LooksAgain (s other : WalkContext) : Type 0 where
  pub anchor : other.anchor ≡ s.anchor
  pub bases : other.bases ≡ s.bases
  pub vouched : VouchesMore s.vouched other.vouched

-- ---- the anchor's certificate

pub record IsLastingAnchor (s : WalkContext) (bytes : List ℕ) (c : SignedCert) : Type 0 where
  pub shape : such is_anchors (certificate_in bytes) ≡ Some c
  pub signature : s.vouched s.anchor c.digest c.signature ≡ true
  pub issuer : bytes_eq c.cert.issuer (key_id c.cert) ≡ true
  pub key : bytes_eq c.cert.key s.anchor ≡ true
  pub resources : is_some c.cert.held ≡ true
  pub place : has_anchor_uris s.bases c.cert ≡ true

pub record IsPresentAnchor (s : WalkContext) (held : Contents) (bytes : List ℕ) (c : SignedCert)
    : Type 0 where
  pub there : held (anchor_uri s.bases) ≡ Some bytes
  pub time : is_valid_at s.moment c.cert ≡ true

-- The anchor's certificate keeps all rules, and is that authority's.
pub record KeepsAnchorRules (s : WalkContext) (held : Contents) (anchor : Authority)
    : Type 0 where
  pub bytes : List ℕ
  pub certificate : SignedCert
  pub lasting : IsLastingAnchor s bytes certificate
  pub present : IsPresentAnchor s held bytes certificate
  pub gives : anchor_of (anchor_uri s.bases) certificate ≡ anchor

-- ---- listed files

-- The file is there, with the listed hash, and isn't visited yet.
pub record IsPresentFile (held : Contents) (visited : List (List ℕ)) (uri : List ℕ) (file : File)
    (bytes : List ℕ) : Type 0 where
  pub there : held uri ≡ Some bytes
  pub hash : sha256 bytes ≡ file.1
  pub new : is_among visited uri ≡ false

-- ---- an authority's certificate

pub record IsLastingCertificate (s : WalkContext) (issuer : Authority) (uri bytes : List ℕ)
    (c : SignedCert) : Type 0 where
  pub shape : such is_authoritys (certificate_in bytes) ≡ Some c
  pub signature : is_signed_under s issuer c ≡ true
  pub identity : names_issuer issuer c.cert ≡ true
  pub place : has_authority_uris s.bases issuer uri c.cert ≡ true

-- At each walk under the issuer's resources and the entries of its CRL.
pub record IsPresentCertificate (s : WalkContext) (issuer : Authority) (revoked : List CrlEntry)
    (c : SignedCert) : Type 0 where
  pub time : is_valid_at s.moment c.cert ≡ true
  pub resources : is_held_under issuer.held c.cert.held ≡ true
  pub unrevoked : is_revoked revoked c.cert.serial ≡ false

pub record KeepsCertificateRules (s : WalkContext) (held : Contents) (issuer : Authority)
    (revoked : List CrlEntry) (visited : List (List ℕ)) (file : File) (child : Authority)
    : Type 0 where
  pub bytes : List ℕ
  pub certificate : SignedCert
  pub lasting : IsLastingCertificate s issuer (listed_uri issuer file.0) bytes certificate
  pub listed : IsPresentFile held visited (listed_uri issuer file.0) file bytes
  pub present : IsPresentCertificate s issuer revoked certificate
  pub gives : authority_of issuer (listed_uri issuer file.0) certificate ≡ child

-- ---- a CRL

pub record IsLastingCrl (s : WalkContext) (issuer : Authority) (uri bytes : List ℕ)
    (c : SignedCrl) : Type 0 where
  pub shape : crl_in bytes ≡ Some c
  pub signature : s.vouched issuer.cert.key c.digest c.signature ≡ true
  pub identity : bytes_eq c.crl.issuer (key_id issuer.cert) ≡ true
  pub place : bytes_eq uri (crl_uri_of issuer) ≡ true

pub record KeepsCrlRules (s : WalkContext) (held : Contents) (issuer : Authority)
    (visited : List (List ℕ)) (file : File) (crl : CrlValue) : Type 0 where
  pub bytes : List ℕ
  pub signed : SignedCrl
  pub lasting : IsLastingCrl s issuer (listed_uri issuer file.0) bytes signed
  pub listed : IsPresentFile held visited (listed_uri issuer file.0) file bytes
  pub time : lies_in s.moment signed.crl.this_update signed.crl.next_update ≡ true
  pub gives : signed.crl ≡ crl

-- ---- a manifest

pub record IsLastingManifest (s : WalkContext) (issuer : Authority) (bytes : List ℕ)
    (m : SignedManifest) : Type 0 where
  pub shape : manifest_in bytes ≡ Some m
  pub signature : is_signed s issuer m ≡ true
  pub identity : is_identified issuer m ≡ true
  pub resources : is_none m.certificate.cert.held ≡ true
  pub place : is_placed issuer (manifest_place issuer) m ≡ true
  pub list : is_list issuer m.body ≡ true

pub record KeepsManifestRules (s : WalkContext) (held : Contents) (issuer : Authority)
    (visited : List (List ℕ)) (m : SignedManifest) : Type 0 where
  pub bytes : List ℕ
  pub lasting : IsLastingManifest s issuer bytes m
  pub there : held (manifest_place issuer) ≡ Some bytes
  pub time : is_current s.moment m ≡ true
  pub new : is_among visited (manifest_place issuer) ≡ false

-- ---- a point

-- The manifest and the CRL that it lists keep all rules, the CRL doesn't revoke the manifest's
-- certificate, and both have one number.
pub record KeepsPointRules (s : WalkContext) (held : Contents) (authority : Authority)
    (visited : List (List ℕ)) (p : Point) : Type 0 where
  pub above : authority ≡ p.authority
  pub manifest : KeepsManifestRules s held authority visited p.manifest
  pub file : File
  pub first : crl_file p.manifest.body ≡ Some file
  pub crl : KeepsCrlRules s held authority (visited ++ manifest_place authority ∷ []) file p.crl
  pub unrevoked : is_revoked p.crl.entries p.manifest.certificate.cert.serial ≡ false
  pub number : (p.crl.number == manifest_number p.manifest.body) ≡ true

-- ---- a ROA

-- Its certificate has resources of its own, with the prefixes, also for good (RFC 9582 section 5).
pub record IsLastingRoa (s : WalkContext) (issuer : Authority) (uri bytes : List ℕ)
    (r : SignedRoa) : Type 0 where
  pub shape : roa_in bytes ≡ Some r
  pub signature : is_signed s issuer r ≡ true
  pub identity : is_identified issuer r ≡ true
  pub own : is_some r.certificate.cert.held ≡ true
  pub prefixes :
      have_prefixes (held_under no_sets r.certificate.cert.held) (roa_entries r.body) ≡ true
  pub place : is_placed issuer uri r ≡ true

pub record KeepsRoaRules (s : WalkContext) (held : Contents) (p : Point)
    (visited : List (List ℕ)) (file : File) (r : SignedRoa) : Type 0 where
  pub bytes : List ℕ
  pub lasting : IsLastingRoa s p.authority (listed_uri p.authority file.0) bytes r
  pub listed : IsPresentFile held visited (listed_uri p.authority file.0) file bytes
  pub present : IsPresentCertificate s p.authority p.crl.entries r.certificate
