-- Certificates, CRLs and signed objects with their signatures, and the calls for these.
use Rattle.std.specs.Prelude.{◌<◌, ◌^◌, ℕ, List, ◌++◌, length}
use Rattle.sha1.specs.Sha1.{sha1}
use Rattle.sha2.specs.Sha256.{sha256}
use Rattle.der.specs.Tags as tag
use Rattle.der.specs.Spelling.{spelled}
use Rattle.der.specs.Object.{Spells}
use Rattle.object_parts.specs.FrameFormats as frames
use Rattle.signer_ring.specs.Calls.{Call, signed_of}
use Rattle.signer_ring.specs.Calls.Call.{Signs, Once}
use Rattle.cert_obj.specs.Values.{CertValue}
use Rattle.cert_obj.specs.Formats as certificates
use Rattle.crl_obj.specs.Values.{CrlValue}
use Rattle.crl_obj.specs.Formats as crls
use Rattle.cms_obj.specs.declared.values.ObjectKind.{ObjectKind}
use Rattle.cms_obj.specs.Formats.{signed_object, object_of}

-- ---- calls

-- The signature of bytes with a key, by the signer of that number.
abbrev pub by_key : ℕ → List ℕ → List ℕ → List ℕ → Call
by_key signer key bytes signature = Signs signer (signed_of key bytes signature)

-- The signature of bytes with a one-use key, which that signer made for it.
abbrev pub by_one_use : ℕ → List ℕ → List ℕ → List ℕ → Call
by_one_use signer key bytes signature = Once signer (signed_of key bytes signature)

-- ---- bytes

-- The bytes that are signed, and their signature (RFC 5280 sections 4.1 and 5.1).
abbrev pub framed : List ℕ → List ℕ → List ℕ
framed tbs signature = spelled tag.sequence (tbs ++ frames.signature.spelling signature)

-- An object of that content: the key that signed it once, with the signature, and that key's
-- certificate with the issuer's (RFC 6488 section 2.1).
abbrev pub object_bytes : ObjectKind → List ℕ → CertValue → List ℕ → List ℕ → List ℕ → List ℕ
object_bytes kind content cert last once signature =
    signed_object.spelling
    (object_of kind content (framed (certificates.signed_bytes cert) last) (sha1 once)
    cert.not_before signature)

-- ---- each is read back, unless it is too long to be written

abbrev pub IsCertificate : CertValue → List ℕ → Type 0
IsCertificate cert signature =
    length (framed (certificates.signed_bytes cert) signature) < 2 ^ 32
    → Spells certificates.signed_cert
    (record {
      cert = cert;
      digest = sha256 (certificates.signed_bytes cert);
      signature = signature;
    })
    (framed (certificates.signed_bytes cert) signature)

abbrev pub IsCrlOf : CrlValue → List ℕ → Type 0
IsCrlOf crl signature =
    length (framed (crls.signed_bytes crl) signature) < 2 ^ 32
    → Spells crls.signed_crl
    (record { crl = crl; digest = sha256 (crls.signed_bytes crl); signature = signature })
    (framed (crls.signed_bytes crl) signature)

-- The object, and the certificate in it.
pub record IsObject
    (kind : ObjectKind) (content : List ℕ) (cert : CertValue) (last once signature : List ℕ)
    : Type 0 where
  pub certificate : IsCertificate cert last
  pub object : length (object_bytes kind content cert last once signature) < 2 ^ 32
      → Spells signed_object
      (object_of kind content (framed (certificates.signed_bytes cert) last) (sha1 once)
      cert.not_before signature)
      (object_bytes kind content cert last once signature)
