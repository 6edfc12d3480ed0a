-- The certificates that a published set holds under a key: as files, or inside signed objects.
use Rattle.std.specs.Prelude.{◌≡◌, ℕ, ◌+◌, ◌⊎◌, List, take, Option, None, Some}
use Rattle.cert_obj.specs.Values.{SignedCert}
use Rattle.cms_obj.specs.Values.{ObjectValue}
use Rattle.pub_set.specs.Changes.{Contents}
use Rattle.rp_rules.specs.Objects.{certificate_in, object_in}
use Rattle.editions.specs.Edition.{Edition, set_after, IsInLife}

-- The certificate inside a signed object.
abbrev pub certificate_inside : Option ObjectValue → Option SignedCert
certificate_inside None = None
certificate_inside (Some object) = certificate_in object.certificate

-- The bytes are the certificate, or a signed object that has it.
abbrev pub HasCertificate : List ℕ → SignedCert → Type 0
HasCertificate bytes certificate =
    (certificate_in bytes ≡ Some certificate)
    ⊎ (certificate_inside (object_in bytes) ≡ Some certificate)

-- The certificate stands in the set, and names the key with that identifier as its issuer.
pub record IsHeld (held : Contents) (id : List ℕ) (certificate : SignedCert) : Type 0 where
  pub uri : List ℕ
  pub bytes : List ℕ
  pub there : held uri ≡ Some bytes
  pub has : HasCertificate bytes certificate
  pub issuer : certificate.cert.issuer ≡ id

-- The edition at that position holds the certificate under the key.
abbrev pub Holds : List Edition → ℕ → List ℕ → SignedCert → Type 0
Holds editions position id certificate =
    IsHeld (set_after (take (position + 1) editions)) id certificate

-- The certificates that the editions of one life of a key hold have serials of their own (RFC 5280
-- section 4.1.2.2).
abbrev pub HaveOwnSerials : List Edition → List ℕ → Type 0
HaveOwnSerials editions id = (from to : ℕ) (one other : SignedCert)
    → IsInLife id editions from to → Holds editions from id one → Holds editions to id other
    → one.cert.serial ≡ other.cert.serial → one ≡ other
