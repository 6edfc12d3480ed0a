-- What is made is read back.
use Rattle.std.proofs.Common.{◌≡◌, ℕ, Bool, true, cond, Option, Some, None, List, [], ◌++◌, refl, sym, ap, ◌∙◌, arith}
use Rattle.std.proofs.lemmas.List.{append-nil}
use Rattle.sha1.specs.Sha1.{sha1}
use Rattle.sha2.specs.Sha256.{sha256}
use Rattle.der.specs.Tags as tag
use Rattle.der.specs.Spelling.{spelled}
use Rattle.der.specs.laws.ElementLaws.{longer}
use Rattle.der.specs.Part.{IsInput}
use Rattle.der.specs.laws.PlaceLaws.{front-input, rest-input, content-input}
use Rattle.der.specs.laws.ObjectLaws.{object-again}
use Rattle.cert_obj.specs.Values.{CertValue, SignedCert, is_entity}
use Rattle.cert_obj.specs.Formats as certificates
use Rattle.cert_obj.specs.laws.CertLaws.{signed_cert-law}
use Rattle.crl_obj.specs.Values.{CrlValue, SignedCrl}
use Rattle.crl_obj.specs.Formats as crls
use Rattle.crl_obj.specs.laws.CrlLaws.{signed_crl-law}
use Rattle.cms_obj.specs.declared.values.ObjectKind.{ObjectKind}
use Rattle.cms_obj.specs.declared.values.ObjectKind.TheVariants as kinds
use Rattle.cms_obj.specs.Values.{ObjectValue}
use Rattle.cms_obj.specs.Formats as cms
use Rattle.cms_obj.specs.laws.ObjectLaws.{signed_object-law}
use Rattle.payloads.specs.laws.AnswerLaws.{body-again}
use Rattle.payloads.specs.RoaFormats.{Entry, IsRoa, unordered_roa, placed_roa, roa, is_rising}
use Rattle.payloads.specs.RoaReading.{roa_read, roa_value, unordered_entry}
use Rattle.payloads.specs.laws.BlockLaws.{roa-unordered}
use Rattle.payloads.specs.ManifestFormats.{Manifest, IsManifest, unordered_manifest, placed_manifest, manifest, is_rising_manifest}
use Rattle.payloads.specs.ManifestReading.{manifest_read, manifest_value, unordered_name}
use Rattle.payloads.specs.laws.ManifestLaws.{manifest-unordered}
use Rattle.rp_rules.specs.Objects.{Signed, value_in, such, signed_with, signed_of, certificate_in, crl_in, object_in, is_entitys, is_roa, is_manifest, roa_in, manifest_in}
use Rattle.issue_sign.specs.Signed.{framed, object_bytes, IsCertificate, IsCrlOf, IsObject}
use Rattle.payloads.specs.laws.OrderingLaws.{roa-ordering, manifest-ordering}

-- ---- certificates and CRLs

abbrev pub signed_as : CertValue → List ℕ → SignedCert
signed_as cert last = record {
  cert = cert;
  digest = sha256 (certificates.signed_bytes cert);
  signature = last;
}

pub certificate-back : (cert : CertValue) (last : List ℕ)
    → IsInput (framed (certificates.signed_bytes cert) last) → IsCertificate cert last
    → certificate_in (framed (certificates.signed_bytes cert) last) ≡ Some (signed_as cert last)
certificate-back cert last input is =
    ap value_in (object-again certificates.signed_cert signed_cert-law (signed_as cert last)
    (framed (certificates.signed_bytes cert) last) input.bytes (is input.short))

abbrev pub listed_as : CrlValue → List ℕ → SignedCrl
listed_as crl last =
    record { crl = crl; digest = sha256 (crls.signed_bytes crl); signature = last }

pub crl-back : (crl : CrlValue) (last : List ℕ)
    → IsInput (framed (crls.signed_bytes crl) last) → IsCrlOf crl last
    → crl_in (framed (crls.signed_bytes crl) last) ≡ Some (listed_as crl last)
crl-back crl last input is =
    ap value_in (object-again crls.signed_crl signed_crl-law (listed_as crl last)
    (framed (crls.signed_bytes crl) last) input.bytes (is input.short))

-- ---- the parts of a signed object

inside-input : (t : ℕ) (content : List ℕ) → IsInput (spelled t content) → IsInput content
inside-input t content input =
    let short = input.short in
    let more = longer t content in
    content-input (spelled t content) content [] t input (sym (append-nil (spelled t content)))
    (omega (arith, short, more))

behind : (front rest : List ℕ) → IsInput (front ++ rest) → IsInput rest
behind front rest input = rest-input (front ++ rest) front rest input refl

before : (front rest : List ℕ) → IsInput (front ++ rest) → IsInput front
before front rest input = front-input (front ++ rest) front rest input refl

-- Behind the two algorithms: the content and what follows it.
abbrev parts_of : ObjectValue → cms.Parts
parts_of v = cms.parts_of v

data-input : (v : ObjectValue) → IsInput (cms.signed_object.spelling v)
    → IsInput (cms.encapsulated.spelling (parts_of v).0
    ++ (cms.behind_content (parts_of v).0).spelling (parts_of v).1)
unfolding cms.signed_object cms.signed_data
data-input v input =
    behind _ _ (behind _ _ (inside-input tag.sequence _ (inside-input tag.context_0 _
    (behind _ _ (inside-input tag.sequence _ input)))))

pub certificate-input : (v : ObjectValue) → IsInput (cms.signed_object.spelling v)
    → IsInput v.certificate
unfolding cms.behind_content cms.certificates
certificate-input v input =
    inside-input tag.context_0 v.certificate (before _ _ (behind _ _ (data-input v input)))

pub content-input-of : (v : ObjectValue) → IsInput (cms.signed_object.spelling v)
    → IsInput v.content
unfolding cms.encapsulated
content-input-of v input =
    inside-input tag.octet_string v.content (inside-input tag.context_0 _
    (behind _ _ (inside-input tag.sequence _ (before _ _ (data-input v input)))))

-- ---- bodies

roa-body : (v : ℕ × List Entry) → IsInput (roa.spelling v) → IsRoa v
    → value_in (roa_read (roa.spelling v)) ≡ Some v
unfolding roa_read
roa-body v input good =
    ap value_in (body-again unordered_roa placed_roa roa_value unordered_entry is_rising roa-ordering
    (roa.spelling v) input.bytes v
    (record { good = roa-unordered v good; short = input.short; spelled = refl }) good.rises)

manifest-body : (v : Manifest) → IsInput (manifest.spelling v) → IsManifest v
    → value_in (manifest_read (manifest.spelling v)) ≡ Some v
unfolding manifest_read
manifest-body v input good =
    ap value_in (body-again unordered_manifest placed_manifest manifest_value unordered_name
    is_rising_manifest manifest-ordering (manifest.spelling v) input.bytes v
    (record { good = manifest-unordered v good; short = input.short; spelled = refl }) good.rises)

-- ---- signed objects

signed-back : {Body : Type 0} (is_kind : ObjectKind → Bool) (body : List ℕ → Option Body)
    (bytes : List ℕ) (o : ObjectValue) (c : SignedCert) (b : Body) → object_in bytes ≡ Some o
    → is_kind o.kind ≡ true → certificate_in o.certificate ≡ Some c → is_entitys c ≡ true
    → body o.content ≡ Some b
    → signed_of is_kind body (object_in bytes)
    ≡ Some (record { object = o; certificate = c; body = b })
signed-back {Body} is_kind body bytes o c b object kind certificate entity content =
    let with_kind : Bool → Option (Signed Body) = λ t.
    cond t (signed_with o (such is_entitys (certificate_in o.certificate)) (body o.content)) None in
    let with_entity : Bool → Option (Signed Body) = λ t.
    signed_with o (cond t (Some c) None) (body o.content) in
    ap (signed_of is_kind body) object
    ∙ (ap with_kind kind
    ∙ (ap (λ (x : Option SignedCert). signed_with o (such is_entitys x) (body o.content)) certificate
    ∙ (ap with_entity entity
    ∙ ap (signed_with o (Some c)) content)))

abbrev pub object_as : ObjectKind → List ℕ → CertValue → List ℕ → List ℕ → List ℕ → ObjectValue
object_as kind content cert last once signature =
    cms.object_of kind content (framed (certificates.signed_bytes cert) last) (sha1 once)
    cert.not_before signature

object-back : (kind : ObjectKind) (content : List ℕ) (cert : CertValue)
    (last once signature : List ℕ) → IsInput (object_bytes kind content cert last once signature)
    → IsObject kind content cert last once signature
    → object_in (object_bytes kind content cert last once signature)
    ≡ Some (object_as kind content cert last once signature)
object-back kind content cert last once signature input is =
    ap value_in (object-again cms.signed_object signed_object-law
    (object_as kind content cert last once signature)
    (object_bytes kind content cert last once signature) input.bytes (is.object input.short))

pub roa-back : (v : ℕ × List Entry) (cert : CertValue) (last once signature : List ℕ)
    → is_entity cert.kind ≡ true
    → IsInput (object_bytes kinds.Roa (roa.spelling v) cert last once signature)
    → IsObject kinds.Roa (roa.spelling v) cert last once signature → IsRoa v
    → roa_in (object_bytes kinds.Roa (roa.spelling v) cert last once signature)
    ≡ Some (record {
      object = object_as kinds.Roa (roa.spelling v) cert last once signature;
      certificate = signed_as cert last;
      body = v;
    })
roa-back v cert last once signature entity input is good =
    let o : ObjectValue = object_as kinds.Roa (roa.spelling v) cert last once signature in
    signed-back is_roa (λ content. value_in (roa_read content))
    (object_bytes kinds.Roa (roa.spelling v) cert last once signature) o (signed_as cert last) v
    (object-back kinds.Roa (roa.spelling v) cert last once signature input is) refl
    (certificate-back cert last (certificate-input o input) is.certificate) entity
    (roa-body v (content-input-of o input) good)

pub manifest-back : (v : Manifest) (cert : CertValue) (last once signature : List ℕ)
    → is_entity cert.kind ≡ true
    → IsInput (object_bytes kinds.Manifest (manifest.spelling v) cert last once signature)
    → IsObject kinds.Manifest (manifest.spelling v) cert last once signature → IsManifest v
    → manifest_in (object_bytes kinds.Manifest (manifest.spelling v) cert last once signature)
    ≡ Some (record {
      object = object_as kinds.Manifest (manifest.spelling v) cert last once signature;
      certificate = signed_as cert last;
      body = v;
    })
manifest-back v cert last once signature entity input is good =
    let o : ObjectValue = object_as kinds.Manifest (manifest.spelling v) cert last once signature in
    signed-back is_manifest (λ content. value_in (manifest_read content))
    (object_bytes kinds.Manifest (manifest.spelling v) cert last once signature) o
    (signed_as cert last) v
    (object-back kinds.Manifest (manifest.spelling v) cert last once signature input is) refl
    (certificate-back cert last (certificate-input o input) is.certificate) entity
    (manifest-body v (content-input-of o input) good)
