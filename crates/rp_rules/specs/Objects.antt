-- What the bytes of an object say: the value whose spelling they are, if there is one (RFC 6487
-- section 4, RFC 6488 section 2).
use Rattle.std.specs.Prelude.{ℕ, Bool, true, false, not, ◌&&◌, if◌then◌else◌, List, Option, None, Some, Result, Ok, Err}
use Rattle.der.specs.Object.{read_object}
use Rattle.cert_obj.specs.Values.{SignedCert, is_issued, is_authority, is_entity}
use Rattle.cert_obj.specs.Formats.{signed_cert}
use Rattle.crl_obj.specs.Values.{SignedCrl}
use Rattle.crl_obj.specs.Formats.{signed_crl}
use Rattle.cms_obj.specs.declared.values.ObjectKind.{ObjectKind}
use Rattle.cms_obj.specs.declared.values.ObjectKind.TheVariants as kind
use Rattle.cms_obj.specs.Values.{ObjectValue}
use Rattle.cms_obj.specs.Formats.{signed_object}
use Rattle.payloads.specs.ManifestFormats.{Manifest}
use Rattle.payloads.specs.ManifestReading.{manifest_read}
use Rattle.payloads.specs.RoaFormats.{Entry}
use Rattle.payloads.specs.RoaReading.{roa_read}

abbrev pub value_in : {A E : Type 0} → Result A E → Option A
value_in (Ok x) = Some x
value_in (Err e) = None

-- It, where it passes the test.
abbrev pub such : {A : Type 0} → (A → Bool) → Option A → Option A
such test None = None
such test (Some x) = if test x then Some x else None

-- ---- certificates and CRLs

abbrev pub certificate_in : List ℕ → Option SignedCert
certificate_in bytes = value_in (read_object signed_cert bytes)

-- The anchor's, another authority's, and that of a key which signs one object.
abbrev pub is_anchors : SignedCert → Bool
is_anchors c = not (is_issued c.cert.kind)

abbrev pub is_authoritys : SignedCert → Bool
is_authoritys c = is_issued c.cert.kind && is_authority c.cert.kind

abbrev pub is_entitys : SignedCert → Bool
is_entitys c = is_entity c.cert.kind

abbrev pub entity_in : List ℕ → Option SignedCert
entity_in bytes = such is_entitys (certificate_in bytes)

abbrev pub crl_in : List ℕ → Option SignedCrl
crl_in bytes = value_in (read_object signed_crl bytes)

-- ---- manifests and ROAs

-- A signed object: what is signed, the certificate of the key that signs, and the content.
pub record Signed (Body : Type 0) : Type 0 where
  pub object : ObjectValue
  pub certificate : SignedCert
  pub body : Body

abbrev pub signed_with : {Body : Type 0} → ObjectValue → Option SignedCert → Option Body
    → Option (Signed Body)
signed_with object None body = None
signed_with object (Some certificate) None = None
signed_with object (Some certificate) (Some body) =
    Some (record { object = object; certificate = certificate; body = body })

-- The signed object of a kind whose contents are read so.
abbrev pub signed_of : {Body : Type 0} → (ObjectKind → Bool) → (List ℕ → Option Body)
    → Option ObjectValue → Option (Signed Body)
signed_of is_kind body None = None
signed_of is_kind body (Some object) =
    if is_kind object.kind
    then signed_with object (entity_in object.certificate) (body object.content)
    else None

abbrev pub object_in : List ℕ → Option ObjectValue
object_in bytes = value_in (read_object signed_object bytes)

abbrev pub is_manifest : ObjectKind → Bool
is_manifest kind.Manifest = true
is_manifest kind.Roa = false

abbrev pub is_roa : ObjectKind → Bool
is_roa kind.Manifest = false
is_roa kind.Roa = true

-- A manifest (RFC 9286 section 4), and a ROA (RFC 9582): the number of the AS, and its entries.
abbrev pub SignedManifest : Type 0
SignedManifest = Signed Manifest

abbrev pub SignedRoa : Type 0
SignedRoa = Signed (ℕ × List Entry)

abbrev pub manifest_in : List ℕ → Option SignedManifest
manifest_in bytes =
    signed_of is_manifest (λ content. value_in (manifest_read content)) (object_in bytes)

abbrev pub roa_in : List ℕ → Option SignedRoa
roa_in bytes = signed_of is_roa (λ content. value_in (roa_read content)) (object_in bytes)
