-- The signatures of a set that a walk may ask for, each under the key by which it is asked (RFC
-- 6487 section 7.2, RFC 6488 section 3).
use Rattle.std.specs.Prelude.{◌≡◌, ℕ, List, [], ◌∷◌, ◌++◌, Option, None, Some, map, ◌⊎◌}
use Rattle.std.specs.List.{Contains, flat_map}
use Rattle.key_ids.specs.Uris.{anchor_uri}
use Rattle.pub_set.specs.Changes.{Contents}
use Rattle.cert_obj.specs.Values.{CertValue, SignedCert}
use Rattle.crl_obj.specs.Values.{SignedCrl}
use Rattle.rp_rules.specs.Objects.{Signed, SignedManifest, certificate_in, crl_in, manifest_in, roa_in}
use Rattle.rp_rules.specs.Certificates.{WalkContext, Vouched, File}
use Rattle.rp_rules.specs.Points.{files_of}

-- A key, the digest of what is signed, and the signature.
pub record Asked : Type 0 where
  pub key : List ℕ
  pub digest : List ℕ
  pub signature : List ℕ

abbrev pub asked : List ℕ → List ℕ → List ℕ → Asked
asked key digest signature = record { key = key; digest = digest; signature = signature }

-- ---- of an object

abbrev pub of_certificate : List ℕ → Option SignedCert → List Asked
of_certificate key None = []
of_certificate key (Some c) = asked key c.digest c.signature ∷ []

abbrev pub of_crl : List ℕ → Option SignedCrl → List Asked
of_crl key None = []
of_crl key (Some c) = asked key c.digest c.signature ∷ []

-- Of its certificate, and under that certificate's key its own.
abbrev pub of_signed : {Body : Type 0} → List ℕ → Option (Signed Body) → List Asked
of_signed key None = []
of_signed key (Some x) =
    asked key x.certificate.digest x.certificate.signature
    ∷ asked x.certificate.cert.key x.object.digest x.object.signature ∷ []

-- Under an issuer's key, of whatever the bytes are.
abbrev pub asked_of : List ℕ → List ℕ → List Asked
asked_of key bytes =
    of_certificate key (certificate_in bytes) ++ of_crl key (crl_in bytes)
    ++ of_signed key (manifest_in bytes) ++ of_signed key (roa_in bytes)

abbrev pub asked_if : List ℕ → Option (List ℕ) → List Asked
asked_if key None = []
asked_if key (Some bytes) = asked_of key bytes

abbrev pub asked_at : Contents → List ℕ → List ℕ → List Asked
asked_at held key uri = asked_if key (held uri)

-- ---- of what is published under a certificate

abbrev pub files_if : Option SignedManifest → List File
files_if None = []
files_if (Some m) = files_of m.body

abbrev pub files_in : Option (List ℕ) → List File
files_in None = []
files_in (Some bytes) = files_if (manifest_in bytes)

-- Its manifest, and the files that this lists.
abbrev pub published : Contents → CertValue → List (List ℕ)
published held cert =
    cert.uris.manifest
    ∷ map (λ (file : File). cert.uris.folder ++ file.0) (files_in (held cert.uris.manifest))

abbrev pub asked_under : Contents → CertValue → List Asked
asked_under held cert = flat_map (asked_at held cert.key) (published held cert)

-- ---- of a set

-- A certificate of the set.
pub record IsThere (held : Contents) (c : SignedCert) : Type 0 where
  pub uri : List ℕ
  pub bytes : List ℕ
  pub there : held uri ≡ Some bytes
  pub says : certificate_in bytes ≡ Some c

-- The anchor's under the key handed in, and what is published under each certificate of the set.
abbrev pub IsAsked : WalkContext → Contents → Asked → Type 0
IsAsked s held a =
    Contains (asked_at held s.anchor (anchor_uri s.bases)) a
    ⊎ ((c : SignedCert) × IsThere held c × Contains (asked_under held c.cert) a)

-- Of these the other function says the same.
abbrev pub SaysSame : WalkContext → Vouched → Contents → Type 0
SaysSame s other held = (a : Asked) → IsAsked s held a
    → other a.key a.digest a.signature ≡ s.vouched a.key a.digest a.signature
