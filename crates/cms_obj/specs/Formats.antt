-- The format of a signed object (RFC 6488 section 2, RFC 9589): SignedData of RFC 5652 with one
-- digest algorithm, one certificate, one signer and three attributes.
use Rattle.std.specs.Prelude.{◌≡◌, ℕ, Option, Some, None, List, [], ◌∷◌, length, Result, Ok, ⊤, if◌then◌else◌}
use Rattle.sha2.specs.Sha256.{sha256}
use Rattle.moments.specs.Civil.{IsMoment}
use Rattle.der.specs.Tags as tag
use Rattle.der.specs.Spelling.{spelled}
use Rattle.der.specs.declared.shape_fault.ShapeFault.{ShapeFault}
use Rattle.der.specs.Part.{Place, ◌>>=◌, sole_at}
use Rattle.der.specs.Form.{Whole, Front}
use Rattle.der.specs.Forms.{content, leaf, within, sole, both, after, only, preceded, followed, framed, mapped}
use Rattle.der.specs.Leaves.{fixed, exactly, constant, are_same}
use Rattle.object_parts.specs.declared.identifiers.TheConstants.{SIGNED_DATA, CONTENT_TYPE, MESSAGE_DIGEST, SIGNING_TIME, ROA_CONTENT, MANIFEST_CONTENT}
use Rattle.object_parts.specs.TimeFormats.{time}
use Rattle.object_parts.specs.FrameFormats.{identifier, attribute, key_algorithm, digest_algorithm}
use Rattle.cms_obj.specs.declared.values.ObjectKind.{ObjectKind}
use Rattle.cms_obj.specs.declared.values.ObjectKind.TheVariants.{Manifest, Roa}
use Rattle.cms_obj.specs.Values.{ObjectValue, IsElement}

-- ---- the content and the certificate

-- The identifier of a kind of content (RFC 9286 section 4.1, RFC 9582 section 3).
abbrev pub kind_identifier : ObjectKind → List ℕ
kind_identifier Manifest = MANIFEST_CONTENT
kind_identifier Roa = ROA_CONTENT

abbrev pub kind_in : List ℕ → Option ObjectKind
kind_in bytes =
    if are_same bytes MANIFEST_CONTENT then Some Manifest
    else if are_same bytes ROA_CONTENT then Some Roa
    else None

abbrev pub kind : Front ObjectKind
kind = within tag.object_identifier (leaf (λ k. ⊤) kind_identifier kind_in)

-- The kind and the bytes of the content (RFC 5652 section 5.2).
unfoldable pub encapsulated : Front (ObjectKind × List ℕ)
encapsulated = within tag.sequence (both kind (sole tag.context_0 (sole tag.octet_string content)))

-- One whole element of that tag, as its bytes.
abbrev pub element_bytes : ℕ → Whole (List ℕ)
element_bytes tag = record {
  good = IsElement tag;
  spelling = λ bytes. bytes;
  read = λ p. sole_at tag p >>= (λ q. Ok p.left);
}

-- The one certificate (RFC 6488 section 2.1.4), whose own format isn't asked.
unfoldable pub certificates : Front (List ℕ)
certificates = within tag.context_0 (element_bytes tag.sequence)

-- ---- the attributes that are signed (RFC 6488 section 2.1.6.4, RFC 9589)

-- The kind of the content once more (RFC 5652 section 11.1).
abbrev pub content_type : ObjectKind → Front (Unit {0})
content_type k = attribute CONTENT_TYPE (sole tag.object_identifier (exactly (kind_identifier k)))

-- When it was signed (RFC 5652 section 11.3, RFC 9589).
abbrev pub signing_time : Front ℕ
signing_time = attribute SIGNING_TIME (only time)

-- The hash of the content (RFC 5652 section 11.2).
abbrev pub message_digest : List ℕ → Front (Unit {0})
message_digest hash = attribute MESSAGE_DIGEST (sole tag.octet_string (exactly hash))

-- The attributes of a kind of content with that hash.
unfoldable pub attributes : ObjectKind → List ℕ → Whole ℕ
attributes k hash = preceded (content_type k) (followed signing_time (only (message_digest hash)))

-- What is signed is the SHA-256 of these bytes: the attributes as a SET (RFC 5652 section 5.4).
unfoldable pub signed_attributes : ObjectKind → List ℕ → ℕ → List ℕ
signed_attributes k content moment =
    spelled tag.set_of ((attributes k (sha256 content)).spelling moment)

-- The bytes of an element under the tag of a SET.
abbrev pub under_set : List ℕ → List ℕ
under_set [] = []
under_set (b ∷ bytes) = tag.set_of ∷ bytes

-- ---- the signer (RFC 6488 section 2.1.6)

-- Version 3 (RFC 6488 sections 2.1.1 and 2.1.6.1).
abbrev pub version : Front (Unit {0})
version = constant tag.integer (3 ∷ [])

-- The identifier of the key that signs (RFC 6488 section 2.1.6.2).
abbrev pub signer : Front (List ℕ)
signer = within tag.primitive_0 (fixed 20)

-- The algorithm and the 256 bytes of the signature (RFC 6488 sections 2.1.6.5 and 2.1.6.6).
abbrev pub signature : Whole (List ℕ)
signature = preceded key_algorithm (sole tag.octet_string (fixed 256))

-- What is signed for: the time, the bytes of the attributes' element, and the signature.
abbrev pub Signed : Type 0
Signed = ℕ × List ℕ × List ℕ

-- The attributes, and the signature, which is read first.
unfoldable pub signed : ObjectKind → List ℕ → Whole Signed
signed k hash = framed tag.context_0 (attributes k hash) signature

-- The one signer of a content of that kind and hash (RFC 6488 section 2.1).
unfoldable pub signers : ObjectKind → List ℕ → Whole (List ℕ × Signed)
signers k hash =
    sole tag.set_of (sole tag.sequence
    (preceded version (both signer (preceded digest_algorithm (signed k hash)))))

-- ---- the whole (RFC 6488 section 2.1)

-- The one digest algorithm (RFC 6488 section 2.1.2).
abbrev pub digest_algorithms : Front (Unit {0})
digest_algorithms = within tag.set_of (only digest_algorithm)

-- The certificate, and what the signer says, behind a content.
unfoldable pub behind_content : ObjectKind × List ℕ → Whole (List ℕ × (List ℕ × Signed))
behind_content e = both certificates (signers e.0 (sha256 e.1))

-- The kind and the content, the certificate, the signer's identifier, and what it signed.
abbrev pub Parts : Type 0
Parts = (ObjectKind × List ℕ) × (List ℕ × (List ℕ × Signed))

unfoldable pub signed_data : Whole Parts
signed_data =
    sole tag.sequence
    (preceded version (preceded digest_algorithms (after encapsulated behind_content)))

abbrev pub of_parts : Parts → ObjectValue
of_parts ((kind, content), (certificate, (signer, (moment, attributes, signature)))) = record {
  kind = kind;
  content = content;
  certificate = certificate;
  signer = signer;
  moment = moment;
  digest = sha256 (under_set attributes);
  signature = signature;
}

-- What is signed for by the attributes of that kind, hash and time.
abbrev pub signed_of : ObjectKind → List ℕ → ℕ → List ℕ → Signed
signed_of k hash moment bytes =
    (moment, spelled tag.context_0 ((attributes k hash).spelling moment), bytes)

abbrev pub parts_of : ObjectValue → Parts
parts_of v = (
  (v.kind, v.content),
  (v.certificate, (v.signer, signed_of v.kind (sha256 v.content) v.moment v.signature)),
)

-- A signed object that has a spelling: the time lies in the years 2000 to 9999, and the digest is
-- that of the attributes.
pub record IsSignedObject (v : ObjectValue) : Type 0 where
  pub certificate : IsElement tag.sequence v.certificate
  pub signer : length v.signer ≡ 20
  pub moment : IsMoment v.moment
  pub digest : v.digest ≡ sha256 (signed_attributes v.kind v.content v.moment)
  pub signature : length v.signature ≡ 256

-- A signed object (RFC 6488 section 2, RFC 5652 sections 3 and 5.1).
unfoldable pub signed_object : Whole ObjectValue
signed_object =
    mapped (sole tag.sequence (preceded (identifier SIGNED_DATA) (sole tag.context_0 signed_data)))
    of_parts parts_of IsSignedObject

-- The value of an object that is written.
abbrev pub object_of : ObjectKind → List ℕ → List ℕ → List ℕ → ℕ → List ℕ → ObjectValue
object_of k content certificate signer moment signature = record {
  kind = k;
  content = content;
  certificate = certificate;
  signer = signer;
  moment = moment;
  digest = sha256 (signed_attributes k content moment);
  signature = signature;
}
