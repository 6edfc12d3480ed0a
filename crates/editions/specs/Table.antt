-- The table of what stands: of each object its issuer, serial, end, hash, and what it says.
use Rattle.std.specs.Prelude.{◌≡◌, ◌⊎◌, ℕ, false, List, Some, IsSome, Contains}
use Rattle.sha2.specs.Sha256.{sha256}
use Rattle.origins.specs.declared.Origin.{Origin}
use Rattle.res_sets.specs.declared.holdings.Resources.{Resources}
use Rattle.key_ids.specs.declared.identifier.KeyId.{KeyId}
use Rattle.key_roll.specs.declared.issued.IssuedRow.{IssuedRow}
use Rattle.key_roll.specs.declared.issued.What.{What}
use Rattle.key_roll.specs.declared.issued.What.TheVariants.{Authority, Route, Point}
use Rattle.cert_obj.specs.Values.{CertValue, SignedCert, sets_of}
use Rattle.crl_obj.specs.Values.{SignedCrl}
use Rattle.payloads.specs.ManifestFormats.{next_update_of}
use Rattle.pub_set.specs.Objects.{Rise}
use Rattle.pub_set.specs.Changes.{Contents}
use Rattle.rp_rules.specs.Objects.{SignedManifest, SignedRoa, certificate_in, crl_in, manifest_in, roa_in, is_entitys}
use Rattle.rp_rules.specs.Authorities.{key_id}
use Rattle.issue_values.specs.Bodies.{roa_of}
use Rattle.issue_values.specs.Certificates.{prefix_sets}

-- The row has what the certificate says: of an object's own, or of the one in it.
pub record IsDated (certificate : CertValue) (row : IssuedRow) : Type 0 where
  pub issuer : row.issuer.bytes ≡ certificate.issuer
  pub serial : row.serial ≡ certificate.serial
  pub not_after : row.not_after ≡ certificate.not_after

-- The bytes are the certificate of an authority's key, the trust anchor's too.
pub record IsAuthority (bytes : List ℕ) (key : KeyId) (held : Resources) (row : IssuedRow)
    : Type 0 where
  pub certificate : SignedCert
  pub read : certificate_in bytes ≡ Some certificate
  pub kind : is_entitys certificate ≡ false
  pub subject : key.bytes ≡ key_id certificate.cert
  pub resources : certificate.cert.held ≡ Some (sets_of held)
  pub dated : IsDated certificate.cert row

-- The bytes are the ROA of the origin, and its certificate holds just the prefix.
pub record IsRoute (bytes : List ℕ) (origin : Origin) (row : IssuedRow) : Type 0 where
  pub roa : SignedRoa
  pub read : roa_in bytes ≡ Some roa
  pub body : roa.body ≡ roa_of origin
  pub holds : roa.certificate.cert.held ≡ Some (prefix_sets origin.prefix)
  pub dated : IsDated roa.certificate.cert row

-- The bytes are a manifest, whose nextUpdate is the end of its certificate.
pub record IsManifest (bytes : List ℕ) (row : IssuedRow) : Type 0 where
  pub manifest : SignedManifest
  pub read : manifest_in bytes ≡ Some manifest
  pub ends : next_update_of manifest.body ≡ manifest.certificate.cert.not_after
  pub dated : IsDated manifest.certificate.cert row

-- The bytes are a CRL, which has no serial, and ends with its nextUpdate.
pub record IsCrl (bytes : List ℕ) (row : IssuedRow) : Type 0 where
  pub crl : SignedCrl
  pub read : crl_in bytes ≡ Some crl
  pub issuer : row.issuer.bytes ≡ crl.crl.issuer
  pub serial : row.serial ≡ 0
  pub not_after : row.not_after ≡ crl.crl.next_update

abbrev pub IsTold : List ℕ → IssuedRow → What → Type 0
IsTold bytes row (Authority key held) = IsAuthority bytes key held row
IsTold bytes row (Route origin) = IsRoute bytes origin row
IsTold bytes row Point = IsCrl bytes row ⊎ IsManifest bytes row

-- The row is that of the object of these bytes.
pub record IsRowOf (bytes : List ℕ) (row : IssuedRow) : Type 0 where
  pub hash : row.hash ≡ sha256 bytes
  pub told : IsTold bytes row row.what

-- By rising URI, a row for each object that stands, and no other.
pub record IsTable (held : Contents) (issued : List IssuedRow) : Type 0 where
  pub rising : Rise (λ row. row.uri) issued
  pub each : (row : IssuedRow) → Contains issued row
      → (bytes : List ℕ) × (held row.uri ≡ Some bytes) × IsRowOf bytes row
  pub all : (uri : List ℕ) → IsSome (held uri)
      → (row : IssuedRow) × Contains issued row × (row.uri ≡ uri)
