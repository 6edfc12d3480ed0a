-- What is made of the bytes that were signed, and their signature.
use Rattle.std.proofs.Common.{◌≡◌, ℕ, ◌<◌, ◌^◌, List, [], ◌∷◌, length, refl, sym, ap, subst, ◌∙◌}
use Rattle.std.specs.Prelude.{Option, Some, None}
use Rattle.std.specs.Option.{option_map_or}
use Rattle.sha1.specs.Sha1.{sha1}
use Rattle.sha2.specs.Sha256.{sha256}
use Rattle.der.specs.Object.{Spells}
use Rattle.signer_api.specs.declared.values.OneUse.{OneUse}
use Rattle.signer_api.specs.declared.values.Signature.{Signature}
use Rattle.signer_ring.specs.declared.jobs.Signed as ring
use Rattle.signer_ring.specs.declared.jobs.Signed.TheVariants as answers
use Rattle.cert_obj.specs.Values.{CertValue, IsCert}
use Rattle.cert_obj.specs.Formats as certificates
use Rattle.crl_obj.specs.Values.{CrlValue}
use Rattle.crl_obj.specs.Formats as crls
use Rattle.cms_obj.specs.declared.values.ObjectKind.{ObjectKind}
use Rattle.cms_obj.specs.Formats.{signed_object, object_of}
use Rattle.issue_sign.specs.Signed.{framed, object_bytes, IsCertificate, IsCrlOf, IsObject}
use Rattle.issue_sign.specs.Objects.{Answers}
use Rattle.issue_sign.specs.Made.{answers_of}
use Rattle.issue_sign.specs.declared.object.Object.{Object}
use Rattle.issue_sign.specs.declared.object.SignedContent.{SignedContent}
use Rattle.issue_sign.specs.declared.signed_bytes.SignedBytes.{SignedBytes}
use Rattle.issue_sign.specs.inner.Steps.{answer_in, content_answers, entity_answers, IsSignatureIn, IsOnceIn, IsObjectOf, IsFramed, IsEntity}
use Rattle.issue_sign.proofs.Drafted.{answers-of-once}

pub framed-as : (out tbs other signature : List ℕ) → out ≡ framed tbs signature → tbs ≡ other → out ≡ framed other signature
framed-as out tbs other signature is e = is ∙ ap (λ (b : List ℕ). framed b signature) e

-- What is written is read back.
pub certificate-read : (cert : CertValue) (tbs out signature : List ℕ) → out ≡ framed tbs signature → tbs ≡ certificates.signed_bytes cert → (length out < 2 ^ 32 → Spells certificates.signed_cert (record { cert = cert; digest = sha256 tbs; signature = signature }) out) → IsCertificate cert signature
certificate-read cert tbs out signature is e h short =
    let whole : out ≡ framed (certificates.signed_bytes cert) signature = framed-as out tbs (certificates.signed_bytes cert) signature is e in
    let few : length out < 2 ^ 32 = subst (λ (b : List ℕ). length b < 2 ^ 32) (sym whole) short in
    subst (λ (b : List ℕ). Spells certificates.signed_cert (record { cert = cert; digest = sha256 (certificates.signed_bytes cert); signature = signature }) b) whole
    (subst (λ (b : List ℕ). Spells certificates.signed_cert (record { cert = cert; digest = sha256 b; signature = signature }) out) e (h few))

pub crl-read : (crl : CrlValue) (tbs out signature : List ℕ) → out ≡ framed tbs signature → tbs ≡ crls.signed_bytes crl → (length out < 2 ^ 32 → Spells crls.signed_crl (record { crl = crl; digest = sha256 tbs; signature = signature }) out) → IsCrlOf crl signature
crl-read crl tbs out signature is e h short =
    let whole : out ≡ framed (crls.signed_bytes crl) signature = framed-as out tbs (crls.signed_bytes crl) signature is e in
    let few : length out < 2 ^ 32 = subst (λ (b : List ℕ). length b < 2 ^ 32) (sym whole) short in
    subst (λ (b : List ℕ). Spells crls.signed_crl (record { crl = crl; digest = sha256 (crls.signed_bytes crl); signature = signature }) b) whole
    (subst (λ (b : List ℕ). Spells crls.signed_crl (record { crl = crl; digest = sha256 b; signature = signature }) out) e (h few))

-- ---- signed objects

pub object-as : (kind : ObjectKind) (content : List ℕ) (cert : CertValue) (certificate id last once signature out : List ℕ) (moment : ℕ) → out ≡ signed_object.spelling (object_of kind content certificate id moment signature) → certificate ≡ framed (certificates.signed_bytes cert) last → id ≡ sha1 once → moment ≡ cert.not_before → out ≡ object_bytes kind content cert last once signature
object-as kind content cert certificate id last once signature out moment is made named at =
    is
    ∙ (ap (λ (b : List ℕ). signed_object.spelling (object_of kind content b id moment signature)) made
    ∙ (ap (λ (b : List ℕ). signed_object.spelling (object_of kind content (framed (certificates.signed_bytes cert) last) b moment signature)) named
    ∙ ap (λ (m : ℕ). signed_object.spelling (object_of kind content (framed (certificates.signed_bytes cert) last) (sha1 once) m signature)) at))

pub object-read : (kind : ObjectKind) (content : List ℕ) (cert : CertValue) (certificate id last once signature out : List ℕ) (moment : ℕ) → out ≡ signed_object.spelling (object_of kind content certificate id moment signature) → certificate ≡ framed (certificates.signed_bytes cert) last → id ≡ sha1 once → moment ≡ cert.not_before → (length out < 2 ^ 32 → Spells signed_object (object_of kind content certificate id moment signature) out) → length (object_bytes kind content cert last once signature) < 2 ^ 32 → Spells signed_object (object_of kind content (framed (certificates.signed_bytes cert) last) (sha1 once) cert.not_before signature) (object_bytes kind content cert last once signature)
object-read kind content cert certificate id last once signature out moment is made named at h short =
    let whole = object-as kind content cert certificate id last once signature out moment is made named at in
    let few : length out < 2 ^ 32 = subst (λ (b : List ℕ). length b < 2 ^ 32) (sym whole) short in
    subst (λ (b : List ℕ). Spells signed_object (object_of kind content (framed (certificates.signed_bytes cert) last) (sha1 once) cert.not_before signature) b) whole
    (subst (λ (m : ℕ). Spells signed_object (object_of kind content (framed (certificates.signed_bytes cert) last) (sha1 once) m signature) out) at
    (subst (λ (b : List ℕ). Spells signed_object (object_of kind content (framed (certificates.signed_bytes cert) last) b moment signature) out) named
    (subst (λ (b : List ℕ). Spells signed_object (object_of kind content b id moment signature) out) made (h few))))

-- ---- objects of signed bytes

pub framed-object : (o : Object) (signed : SignedBytes) (signature : Signature) (tbs : List ℕ) (Known : List ℕ → Type 0) → o.bytes ≡ signed.bytes
    → o.hash ≡ sha256 signed.bytes → o.once ≡ None → o.signature ≡ signed.signature → signed.bytes ≡ framed tbs signature.bytes
    → signed.signature ≡ signature → Known signature.bytes → IsFramed tbs Known o
framed-object o signed signature tbs Known bytes hash once signs made same known =
    let e : signature ≡ o.signature = sym (signs ∙ same) in
    let whole : signed.bytes ≡ framed tbs o.signature.bytes = made ∙ ap (λ (s : Signature). framed tbs s.bytes) e in
    record {
      once = once;
      object = record {
        bytes = bytes ∙ whole;
        hash = hash ∙ ap sha256 whole;
        known = subst (λ (s : Signature). Known s.bytes) e known;
      };
    }

pub entity-object : (m : ℕ) (kind : ObjectKind) (c : SignedContent) (tbs : List ℕ) (o : Object) (signed : SignedBytes) (signature : Signature)
    → o.bytes ≡ signed.bytes → o.hash ≡ sha256 signed.bytes → o.once ≡ Some c.once → o.signature ≡ signed.signature → signed.signature ≡ signature
    → ((cert : CertValue) → tbs ≡ certificates.signed_bytes cert → cert.not_before ≡ m
    → signed.bytes ≡ object_bytes kind c.content.bytes.items cert signature.bytes c.once.key.bytes c.once.signature.bytes)
    → ((cert : CertValue) → IsCert cert → tbs ≡ certificates.signed_bytes cert → cert.not_before ≡ m
    → IsObject kind c.content.bytes.items cert signature.bytes c.once.key.bytes c.once.signature.bytes) → IsEntity m kind c tbs o
entity-object m kind c tbs o signed signature bytes hash once signs same made known =
    let e : signature ≡ o.signature = sym (signs ∙ same) in
    record {
      once = once;
      object = λ cert is of at.
          let whole : signed.bytes ≡ object_bytes kind c.content.bytes.items cert o.signature.bytes c.once.key.bytes c.once.signature.bytes =
          made cert of at ∙ ap (λ (s : Signature). object_bytes kind c.content.bytes.items cert s.bytes c.once.key.bytes c.once.signature.bytes) e in
          record {
            bytes = bytes ∙ whole;
            hash = hash ∙ ap sha256 whole;
            known = subst (λ (s : Signature). IsObject kind c.content.bytes.items cert s.bytes c.once.key.bytes c.once.signature.bytes) e (known cert is of at);
          };
    }

-- ---- what was answered

signature-in : (left : List ring.Signed) (s : Signature) → IsSignatureIn left s → answer_in left ≡ record { once = []; content = []; last = s.bytes }
signature-in [] s is = absurd is
signature-in (answers.Signature t ∷ left) s is = ap (λ (x : Signature). let a : Answers = record { once = []; content = []; last = x.bytes } in a) (sym is)
signature-in (answers.Once once ∷ left) s is = absurd is

pub framed-answers : (o : Object) (signed : SignedBytes) (s : Signature) (left : List ring.Signed) → IsSignatureIn left s → o.once ≡ None
    → o.signature ≡ signed.signature → signed.signature ≡ s → answers_of o ≡ answer_in left
framed-answers o signed s left is once signs same =
    ap (λ (m : Option OneUse). let a : Answers = record {
      once = option_map_or (λ x. x.key.bytes) m [];
      content = option_map_or (λ x. x.signature.bytes) m [];
      last = o.signature.bytes;
    } in a) once
    ∙ (ap (λ (x : Signature). let a : Answers = record { once = []; content = []; last = x.bytes } in a) (signs ∙ same) ∙ sym (signature-in left s is))

pub entity-answers : (c : SignedContent) (o : Object) (signed : SignedBytes) (s : Signature) (left : List ring.Signed) → IsSignatureIn left s
    → o.once ≡ Some c.once → o.signature ≡ signed.signature → signed.signature ≡ s → answers_of o ≡ entity_answers c (answer_in left).last
entity-answers c o signed s left is once signs same =
    answers-of-once o c once
    ∙ (ap (λ (x : Signature). entity_answers c x.bytes) (signs ∙ same)
    ∙ sym (ap (λ (a : Answers). entity_answers c a.last) (signature-in left s is)))

pub once-answers : (c : SignedContent) (left : List ring.Signed) → IsOnceIn left c.once → content_answers c ≡ answer_in left
once-answers c [] is = absurd is
once-answers c (answers.Signature s ∷ left) is = absurd is
once-answers c (answers.Once once ∷ left) is =
    ap (λ (x : OneUse). let a : Answers = record { once = x.key.bytes; content = x.signature.bytes; last = [] } in a) is
