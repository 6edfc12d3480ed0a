-- What a certificate says, and which certificates have a spelling (RFC 6487 section 4).
use Rattle.std.specs.Prelude.{◌≡◌, ℕ, ◌<◌, ◌^◌, Bool, true, false, nat_lt, Option, Some, None, List, [], ◌∷◌, length, ⊤, string_bytes}
use Rattle.std.specs.List.{list_all}
use Rattle.der.specs.Grammar.{AreBytes}
use Rattle.moments.specs.Civil.{IsMoment}
use Rattle.signer_api.specs.PublicKey.{IsPublicKey}
use Rattle.res_sets.specs.declared.numbers.Family.{Family}
use Rattle.res_sets.specs.declared.numbers.Family.TheVariants.{Asn, V4, V6}
use Rattle.res_sets.specs.declared.holdings.Resources.{Resources}
use Rattle.res_sets.specs.Numbers.{family_end}
use Rattle.res_ext.specs.Formats.{are_canonical}
use Rattle.res_ext.specs.Views.{set_view}
use Rattle.cert_obj.specs.declared.values.CertKind.{CertKind}
use Rattle.cert_obj.specs.declared.values.CertKind.TheVariants.{Anchor, Authority, EndEntity}
use Rattle.cert_obj.specs.declared.values.Held.{Held}
use Rattle.cert_obj.specs.declared.values.Held.TheVariants.{Inherit, Set}
use Rattle.cert_obj.specs.declared.values.CertUris.{CertUris}
use Rattle.cert_obj.specs.declared.values.Cert.{Cert}
use Rattle.cert_obj.specs.declared.values.ReadCert.{ReadCert}

-- A set of each family, as the list of the ends of its ranges.
pub record Sets : Type 0 where
  pub asn : List (ℕ × ℕ)
  pub v4 : List (ℕ × ℕ)
  pub v6 : List (ℕ × ℕ)

-- The URIs of a certificate, as their bytes.
pub record UriTexts : Type 0 where
  pub crl : List ℕ
  pub issuer : List ℕ
  pub folder : List ℕ
  pub manifest : List ℕ
  pub notify : List ℕ
  pub object : List ℕ

-- What is signed (RFC 5280 section 4.1.2): serial, the 20 bytes of the identifier of the issuer's
-- key, the times, the 270 bytes of the key, and what the extensions say. The resources are None
-- where they are the issuer's. Times are in seconds since 1970.
pub record CertValue : Type 0 where
  pub serial : ℕ
  pub issuer : List ℕ
  pub not_before : ℕ
  pub not_after : ℕ
  pub key : List ℕ
  pub kind : CertKind
  pub held : Option Sets
  pub uris : UriTexts

-- It with the SHA-256 of the bytes that are signed, and the signature.
pub record SignedCert : Type 0 where
  pub cert : CertValue
  pub digest : List ℕ
  pub signature : List ℕ

abbrev pub sets_of : Resources → Sets
sets_of r = record { asn = set_view r.asn; v4 = set_view r.v4; v6 = set_view r.v6 }

abbrev pub held_value : Held → Option Sets
held_value Inherit = None
held_value (Set resources) = Some (sets_of resources)

abbrev pub uris_value : CertUris → UriTexts
uris_value u = record {
  crl = string_bytes u.crl;
  issuer = string_bytes u.issuer;
  folder = string_bytes u.folder;
  manifest = string_bytes u.manifest;
  notify = string_bytes u.notify;
  object = string_bytes u.object;
}

abbrev pub cert_value : Cert → CertValue
cert_value c = record {
  serial = c.serial;
  issuer = c.issuer.bytes;
  not_before = c.not_before;
  not_after = c.not_after;
  key = c.key.bytes;
  kind = c.kind;
  held = held_value c.held;
  uris = uris_value c.uris;
}

abbrev pub read_value : ReadCert → SignedCert
read_value r =
    record { cert = cert_value r.cert; digest = r.digest.bytes; signature = r.signature.bytes }

-- ---- what has a spelling

abbrev pub is_ascii_byte : ℕ → Bool
is_ascii_byte b = nat_lt b 128

-- One or more bytes of ASCII: an IA5String that isn't empty (RFC 5280 section 4.2.1.6).
abbrev pub is_uri : List ℕ → Bool
is_uri [] = false
is_uri (c ∷ cs) = list_all is_ascii_byte (c ∷ cs)

-- A URI where the kind has it, and else nothing.
abbrev pub IsUriIf : Bool → List ℕ → Type 0
IsUriIf true uri = is_uri uri ≡ true
IsUriIf false uri = uri ≡ []

-- Another key signs it, whose CRL and certificate it names (RFC 6487 sections 4.8.6 and 4.8.7).
abbrev pub is_issued : CertKind → Bool
is_issued Anchor = false
is_issued Authority = true
is_issued EndEntity = true

-- Its key signs certificates, a CRL and a manifest, and it says where they are published (RFC
-- 6487 section 4.8.8.1).
abbrev pub is_authority : CertKind → Bool
is_authority Anchor = true
is_authority Authority = true
is_authority EndEntity = false

-- Its key signs one object, which it names (RFC 6487 section 4.8.8.2).
abbrev pub is_entity : CertKind → Bool
is_entity Anchor = false
is_entity Authority = false
is_entity EndEntity = true

-- The URIs of a kind's certificate (RFC 6487 sections 4.8.6 to 4.8.8, RFC 8182 section 3.2).
pub record AreUris (kind : CertKind) (uris : UriTexts) : Type 0 where
  pub crl : IsUriIf (is_issued kind) uris.crl
  pub issuer : IsUriIf (is_issued kind) uris.issuer
  pub folder : IsUriIf (is_authority kind) uris.folder
  pub manifest : IsUriIf (is_authority kind) uris.manifest
  pub notify : IsUriIf (is_authority kind) uris.notify
  pub object : IsUriIf (is_entity kind) uris.object

abbrev pub IsListOf : Family → List (ℕ × ℕ) → Type 0
IsListOf family spans = are_canonical (family_end family) 0 spans ≡ true

-- Each list is the canonical one of a set of the family.
pub record AreSets (sets : Sets) : Type 0 where
  pub asn : IsListOf Asn sets.asn
  pub v4 : IsListOf V4 sets.v4
  pub v6 : IsListOf V6 sets.v6

abbrev pub IsHeld : Option Sets → Type 0
IsHeld None = ⊤
IsHeld (Some sets) = AreSets sets

abbrev pub is_empty_list : List (ℕ × ℕ) → Bool
is_empty_list [] = true
is_empty_list (span ∷ spans) = false

abbrev pub has_no_numbers : Option Sets → Bool
has_no_numbers None = true
has_no_numbers (Some sets) = is_empty_list sets.asn

-- The key of an object holds no AS numbers, unless it inherits (RFC 9582 section 5).
abbrev pub may_hold : CertKind → Option Sets → Bool
may_hold Anchor held = true
may_hold Authority held = true
may_hold EndEntity held = has_no_numbers held

-- A certificate that has a spelling: its times lie in the years 2000 to 9999, it has the URIs of
-- its kind, and its resources are canonical sets.
pub record IsCert (c : CertValue) : Type 0 where
  pub serial : c.serial < 2 ^ 64
  pub issuer : (length c.issuer ≡ 20) × AreBytes c.issuer
  pub not_before : IsMoment c.not_before
  pub not_after : IsMoment c.not_after
  pub key : IsPublicKey c.key
  pub held : IsHeld c.held
  pub fitting : may_hold c.kind c.held ≡ true
  pub uris : AreUris c.kind c.uris
