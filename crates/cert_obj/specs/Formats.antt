-- The format of a certificate (RFC 5280 section 4.1, RFC 6487 section 4).
use Rattle.std.specs.Prelude.{◌≡◌, ℕ, Bool, true, ◌&&◌, nat_le, Option, List, [], ◌∷◌, length, take, drop, slice_index, ◌⊎◌}
use Rattle.std.proofs.Common.{inl, inr}
use Rattle.sha1.specs.Sha1.{sha1}
use Rattle.sha2.specs.Sha256.{sha256}
use Rattle.signer_api.specs.PublicKey.{key_header, key_exponent}
use Rattle.der.specs.Tags as tag
use Rattle.der.specs.Spelling.{spelled}
use Rattle.der.specs.Form.{Whole, Front}
use Rattle.der.specs.Forms.{within, sole, both, after, preceded, tested, choice, mapped}
use Rattle.der.specs.Leaves.{number, constant, octet_bits, are_same}
use Rattle.object_parts.specs.TimeFormats.{period}
use Rattle.object_parts.specs.NameFormats.{name}
use Rattle.object_parts.specs.FrameFormats.{signature_algorithm, key_algorithm, issuer_key, signed}
use Rattle.cert_obj.specs.declared.values.CertKind.{CertKind}
use Rattle.cert_obj.specs.declared.values.CertKind.TheVariants.{Anchor, Authority, EndEntity}
use Rattle.cert_obj.specs.Values.{Sets, UriTexts, CertValue, SignedCert, IsHeld, may_hold, AreUris, IsCert}
use Rattle.cert_obj.specs.Extensions.{basic_constraints, subject_key, authority_usage, entity_usage, key_usage, distribution, issuer_information, authority_information, entity_information, policies}
use Rattle.cert_obj.specs.Holdings.{held, entity_held}

-- ---- the extensions of each kind (RFC 6487 section 4.8)

-- What an authority's extensions say behind keyUsage: its places and its resources.
abbrev pub Published : Type 0
Published = (List ℕ × (List ℕ × List ℕ)) × Option Sets

unfoldable pub published : Whole Published
published = both authority_information (preceded policies held)

unfoldable pub anchor_rest : Whole Published
anchor_rest = preceded (key_usage authority_usage) published

-- The URIs of the issuer's CRL and certificate, and what stands behind them (RFC 6487 sections
-- 4.8.6 and 4.8.7).
abbrev pub IssuedAuthority : Type 0
IssuedAuthority = List ℕ × (List ℕ × Published)

unfoldable pub issued_authority : Whole IssuedAuthority
issued_authority =
    preceded (key_usage authority_usage) (both distribution (both issuer_information published))

abbrev pub Entity : Type 0
Entity = List ℕ × Option Sets

unfoldable pub entity : Whole Entity
entity = both entity_information (preceded policies entity_held)

abbrev pub IssuedEntity : Type 0
IssuedEntity = List ℕ × (List ℕ × Entity)

unfoldable pub issued_entity : Whole IssuedEntity
issued_entity =
    preceded (key_usage entity_usage) (both distribution (both issuer_information entity))

-- An authority's certificate: the anchor's, or one that names the key that issued it.
unfoldable pub authority_extensions : List ℕ → List ℕ → Whole (Published ⊎ IssuedAuthority)
authority_extensions issuer subject =
    preceded basic_constraints (preceded (subject_key subject)
    (choice anchor_rest (preceded (issuer_key issuer) issued_authority)))

unfoldable pub entity_extensions : List ℕ → List ℕ → Whole IssuedEntity
entity_extensions issuer subject =
    preceded (subject_key subject) (preceded (issuer_key issuer) issued_entity)

-- What the extensions say.
pub record Extended : Type 0 where
  pub kind : CertKind
  pub held : Option Sets
  pub uris : UriTexts

pub record IsExtended (e : Extended) : Type 0 where
  pub held : IsHeld e.held
  pub fitting : may_hold e.kind e.held ≡ true
  pub uris : AreUris e.kind e.uris

abbrev pub Kinds : Type 0
Kinds = (Published ⊎ IssuedAuthority) ⊎ IssuedEntity

abbrev pub of_kinds : Kinds → Extended
of_kinds (inl (inl ((folder, (manifest, notify)), held))) = record {
  kind = Anchor;
  held = held;
  uris = record {
    crl = [];
    issuer = [];
    folder = folder;
    manifest = manifest;
    notify = notify;
    object = [];
  };
}
of_kinds (inl (inr (crl, (issuer, ((folder, (manifest, notify)), held))))) = record {
  kind = Authority;
  held = held;
  uris = record {
    crl = crl;
    issuer = issuer;
    folder = folder;
    manifest = manifest;
    notify = notify;
    object = [];
  };
}
of_kinds (inr (crl, (issuer, (object, held)))) = record {
  kind = EndEntity;
  held = held;
  uris = record {
    crl = crl;
    issuer = issuer;
    folder = [];
    manifest = [];
    notify = [];
    object = object;
  };
}

abbrev pub published_of : UriTexts → Option Sets → Published
published_of u h = ((u.folder, (u.manifest, u.notify)), h)

abbrev pub kinds_for : CertKind → UriTexts → Option Sets → Kinds
kinds_for Anchor u h = inl (inl (published_of u h))
kinds_for Authority u h = inl (inr (u.crl, (u.issuer, published_of u h)))
kinds_for EndEntity u h = inr (u.crl, (u.issuer, (u.object, h)))

abbrev pub kinds_of : Extended → Kinds
kinds_of e = kinds_for e.kind e.uris e.held

-- The extensions under an issuer of a subject, each by the identifier of its key.
unfoldable pub kinds : List ℕ → List ℕ → Whole Extended
kinds issuer subject =
    mapped (choice (authority_extensions issuer subject) (entity_extensions issuer subject))
    of_kinds kinds_of IsExtended

unfoldable pub extensions : List ℕ → List ℕ → Whole Extended
extensions issuer subject = sole tag.context_3 (sole tag.sequence (kinds issuer subject))

-- ---- the certificate (RFC 5280 section 4.1)

-- Whether 270 bytes are a public key (RFC 7935 section 3).
unfoldable pub is_public_key : List ℕ → Bool
is_public_key bytes =
    are_same (take 9 bytes) key_header && nat_le 128 (slice_index bytes 9)
    && are_same (drop 265 bytes) key_exponent

-- Whether they are one with that identifier.
abbrev pub is_key_of : List ℕ → List ℕ → Bool
is_key_of subject bytes = are_same (sha1 bytes) subject && is_public_key bytes

-- The subject's key (RFC 6487 section 4.7), whose identifier the subject's name has (section
-- 4.5).
unfoldable pub key_of : List ℕ → Front (List ℕ)
key_of subject =
    within tag.sequence (preceded key_algorithm
    (sole tag.bit_string (tested (octet_bits 270) (is_key_of subject))))

-- The subject's name, its key and the extensions.
unfoldable pub subject : List ℕ → Whole (List ℕ × (List ℕ × Extended))
subject issuer = after name (λ subject. both (key_of subject) (extensions issuer subject))

-- The same, behind the times.
unfoldable pub body : List ℕ → Whole ((ℕ × ℕ) × (List ℕ × (List ℕ × Extended)))
body issuer = both period (subject issuer)

-- Version 3 (RFC 6487 section 4.1).
abbrev pub version : Front (Unit {0})
version = constant tag.context_0 (0x02 ∷ 0x01 ∷ 0x02 ∷ [])

abbrev pub Parts : Type 0
Parts = ℕ × (List ℕ × ((ℕ × ℕ) × (List ℕ × (List ℕ × Extended))))

abbrev pub of_parts : Parts → CertValue
of_parts (serial, (issuer, ((not_before, not_after), (subject, (key, extended))))) = record {
  serial = serial;
  issuer = issuer;
  not_before = not_before;
  not_after = not_after;
  key = key;
  kind = extended.kind;
  held = extended.held;
  uris = extended.uris;
}

abbrev pub extended_of : CertValue → Extended
extended_of c = record { kind = c.kind; held = c.held; uris = c.uris }

abbrev pub parts_of : CertValue → Parts
parts_of c =
    (c.serial, (c.issuer, ((c.not_before, c.not_after), (sha1 c.key, (c.key, extended_of c)))))

-- The content of what is signed (RFC 5280 section 4.1.2).
unfoldable pub tbs_content : Whole CertValue
tbs_content =
    mapped (preceded version (both number (preceded signature_algorithm (after name body))))
    of_parts parts_of IsCert

-- The bytes that are signed.
unfoldable pub signed_bytes : CertValue → List ℕ
signed_bytes c = spelled tag.sequence (tbs_content.spelling c)

abbrev pub of_signed : CertValue × List ℕ × List ℕ → SignedCert
of_signed (cert, bytes, signature) = record { cert = cert; digest = sha256 bytes; signature = signature }

abbrev pub signed_of : SignedCert → CertValue × List ℕ × List ℕ
signed_of y = (y.cert, signed_bytes y.cert, y.signature)

-- A certificate that has a spelling, the digest of the bytes that are signed, and a signature of
-- 256 bytes.
pub record IsSignedCert (y : SignedCert) : Type 0 where
  pub cert : IsCert y.cert
  pub digest : y.digest ≡ sha256 (signed_bytes y.cert)
  pub signature : length y.signature ≡ 256

-- A certificate with its signature (RFC 5280 section 4.1.1).
unfoldable pub signed_cert : Whole SignedCert
signed_cert = mapped (signed tbs_content) of_signed signed_of IsSignedCert
