-- What the standards ask of a set's objects and a relying party's walk doesn't (RFC 6487
-- section 4, RFC 9286 section 4.2.1).
use Rattle.std.specs.Prelude.{◌≡◌, ◌≢◌, ◌<◌, ℕ, List, [], Some, IfSome}
use Rattle.cert_obj.specs.Values.{Sets, SignedCert}
use Rattle.crl_obj.specs.Values.{SignedCrl}
use Rattle.payloads.specs.ManifestFormats.{this_update_of, next_update_of}
use Rattle.pub_set.specs.Changes.{Contents}
use Rattle.rp_rules.specs.Objects.{SignedManifest, certificate_in, crl_in, manifest_in}
use Rattle.editions.specs.Held.{IsHeld}

abbrev pub no_sets : Sets
no_sets = record { asn = []; v4 = []; v6 = [] }

-- Resources that aren't empty, or those of the issuer (RFC 6487 sections 4.8.10 and 4.8.11).
abbrev pub HasResources : SignedCert → Type 0
HasResources certificate = IfSome certificate.cert.held (λ sets. sets ≢ no_sets)

-- So of each CRL and manifest, and of each certificate that stands as a file or inside a signed
-- object.
pub record IsInProfile (set : Contents) : Type 0 where
  -- thisUpdate is before nextUpdate
  pub crls : (uri bytes : List ℕ) (crl : SignedCrl) → set uri ≡ Some bytes
      → crl_in bytes ≡ Some crl → crl.crl.this_update < crl.crl.next_update
  pub manifests : (uri bytes : List ℕ) (manifest : SignedManifest) → set uri ≡ Some bytes
      → manifest_in bytes ≡ Some manifest
      → this_update_of manifest.body < next_update_of manifest.body
  -- serials are positive (RFC 6487 section 4.2)
  pub serials : (id : List ℕ) (certificate : SignedCert) → IsHeld set id certificate
      → 0 < certificate.cert.serial
  pub resources : (id : List ℕ) (certificate : SignedCert) → IsHeld set id certificate
      → HasResources certificate
  -- each key has one certificate among the files, and so no two authorities share one
  pub keys : (one other first second : List ℕ) (a b : SignedCert)
      → set one ≡ Some first → set other ≡ Some second
      → certificate_in first ≡ Some a → certificate_in second ≡ Some b
      → a.cert.key ≡ b.cert.key → one ≡ other
