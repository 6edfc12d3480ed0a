-- The row of an object that stands, told from its bytes.
use Rattle.std.specs.Prelude.{◌≡◌, ◌⊎◌, ⊤, ℕ, ◌==◌, Bool, true, false, ◌&&◌, if◌then◌else◌, List, [], ◌∷◌, map, Option, None, Some}
use Rattle.std.specs.String.{string_bytes}
use Rattle.sha2.specs.Sha256.{sha256}
use Rattle.der.specs.Grammar.{AreBytes}
use Rattle.key_ids.specs.declared.identifier.KeyId.{KeyId}
use Rattle.res_sets.specs.Sets.{RangeSet}
use Rattle.res_sets.specs.declared.holdings.Resources.{Resources}
use Rattle.origins.specs.declared.Prefix.{Prefix}
use Rattle.origins.specs.declared.Origin.{Origin}
use Rattle.key_roll.specs.declared.issued.IssuedRow.{IssuedRow}
use Rattle.key_roll.specs.declared.issued.What.{What}
use Rattle.key_roll.specs.declared.issued.What.TheVariants.{Authority, Route, Point}
use Rattle.pub_set.specs.declared.objects.Object.{Object}
use Rattle.cert_obj.specs.declared.values.ReadCert.{ReadCert}
use Rattle.cert_obj.specs.Values.{CertValue, SignedCert, Sets, read_value, sets_of, is_entity}
use Rattle.crl_obj.specs.Values.{SignedCrl}
use Rattle.cms_obj.specs.declared.values.ObjectKind.{ObjectKind}
use Rattle.cms_obj.specs.declared.values.ObjectKind.TheVariants as kind
use Rattle.cms_obj.specs.Values.{ObjectValue}
use Rattle.payloads.specs.ManifestFormats.{Manifest, next_update_of}
use Rattle.payloads.specs.ManifestReading.{manifest_read}
use Rattle.payloads.specs.RoaFormats.{Entry}
use Rattle.payloads.specs.RoaReading.{roa_read}
use Rattle.rp_rules.specs.Objects.{SignedManifest, SignedRoa, value_in, crl_in, manifest_in, roa_in}
use Rattle.rp_rules.specs.Authorities.{key_id}
use Rattle.issue_values.specs.Bodies.{roa_of}
use Rattle.issue_values.specs.Certificates.{prefix_span, prefix_sets}
use Rattle.editions.specs.Held.{HasCertificate}
use Rattle.editions.specs.Table.{IsDated, IsAuthority, IsTold, IsRowOf}
use Rattle.press_core.specs.declared.homes.Home as code
use Rattle.press_core.specs.declared.tables.Told.{Told}
use Rattle.press_core.specs.Tables.{Home, is_at_home, IsAtHome, IsOfProfile, IsOther}

-- ---- what is told of bytes

-- The row of what is told, wherever it stands.
abbrev pub row_with : Told → IssuedRow
row_with told = record {
  uri = [];
  issuer = told.issuer;
  serial = told.serial;
  not_after = told.not_after;
  hash = [];
  what = told.what;
}

-- The bytes say so.
abbrev pub SaysSo : List ℕ → Told → Type 0
SaysSo bytes told = IsTold bytes (row_with told) told.what

-- It is no certificate.
abbrev pub IsNoCertificate : What → Type 0
IsNoCertificate (Authority key held) = ⊥
IsNoCertificate (Route origin) = ⊤
IsNoCertificate Point = ⊤

-- Of bytes that are such it is told what they say, which is no certificate, and else nothing.
abbrev pub Tells : (List ℕ → Type 0) → List ℕ → Option Told → Type 0
Tells Are bytes None = ¬ Are bytes
Tells Are bytes (Some told) = SaysSo bytes told × IsNoCertificate told.what

abbrev pub IsSomeCrl : List ℕ → Type 0
IsSomeCrl bytes = (crl : SignedCrl) × (crl_in bytes ≡ Some crl)

-- A manifest that ends with its certificate, or the ROA of one origin whose certificate holds just
-- the prefix.
abbrev pub IsSomeManifest : List ℕ → Type 0
IsSomeManifest bytes = (manifest : SignedManifest) × (manifest_in bytes ≡ Some manifest)
    × (next_update_of manifest.body ≡ manifest.certificate.cert.not_after)

abbrev pub IsSomeRoa : List ℕ → Type 0
IsSomeRoa bytes = (origin : Origin) × (roa : SignedRoa) × (roa_in bytes ≡ Some roa)
    × (roa.body ≡ roa_of origin)
    × (roa.certificate.cert.held ≡ Some (prefix_sets origin.prefix))

abbrev pub IsSomeSigned : List ℕ → Type 0
IsSomeSigned bytes = IsSomeManifest bytes ⊎ IsSomeRoa bytes

-- ---- what is told of a certificate

-- The certificate of an authority's key, with resources of its own, in its folder.
pub record IsProfiled (homes : List Home) (value : CertValue) (key : KeyId) (held : Resources)
    : Type 0 where
  pub home : is_at_home homes value ≡ true
  pub kind : is_entity value.kind ≡ false
  pub subject : key.bytes ≡ key_id value
  pub resources : value.held ≡ Some (sets_of held)

abbrev pub TellsAuthority : List Home → CertValue → Option Told → Type 0
TellsAuthority homes value None = (key : KeyId) (held : Resources)
    → ¬ IsProfiled homes value key held
TellsAuthority homes value (Some told) = (key : KeyId) × (held : Resources)
    × (told.what ≡ Authority key held) × IsProfiled homes value key held
    × IsDated value (row_with told)

pub record IsSomeAuthority (homes : List Home) (bytes : List ℕ) : Type 0 where
  pub key : KeyId
  pub held : Resources
  pub row : IssuedRow
  pub is : IsAuthority bytes key held row
  pub home : is_at_home homes is.certificate.cert ≡ true

-- The same of its bytes.
abbrev pub TellsCertificate : List Home → List ℕ → Option Told → Type 0
TellsCertificate homes bytes None = ¬ IsSomeAuthority homes bytes
TellsCertificate homes bytes (Some told) = SaysSo bytes told × IsAtHome homes bytes told.what

-- ---- what is told of a signed object

-- The numbers of a set, as the ends of its ranges.
abbrev pub ends_of : RangeSet → List (ℕ × ℕ)
ends_of set = map (λ range. (range.first, range.last)) set.ranges

-- Whether these are the ends of one range, or of none.
abbrev pub is_span : List (ℕ × ℕ) → ℕ × ℕ → Bool
is_span [] span = false
is_span (one ∷ []) span = (one.0 == span.0) && (one.1 == span.1)
is_span (one ∷ other ∷ rest) span = false

abbrev pub is_none : List (ℕ × ℕ) → Bool
is_none [] = true
is_none (one ∷ rest) = false

-- Whether these are just the addresses of the prefix.
abbrev pub are_just : Sets → Prefix → Bool
are_just sets p = is_none sets.asn
    && (if p.v6 then is_none sets.v4 else is_span sets.v4 (prefix_span p))
    && (if p.v6 then is_span sets.v6 (prefix_span p) else is_none sets.v6)

abbrev pub holds_just : Option Sets → Prefix → Bool
holds_just None p = false
holds_just (Some sets) p = are_just sets p

-- The content is a manifest that ends then, or the ROA of one origin, whose prefix is held.
abbrev pub IsOneManifest : List ℕ → CertValue → Type 0
IsOneManifest content value = (body : Manifest) × (value_in (manifest_read content) ≡ Some body)
    × (next_update_of body ≡ value.not_after)

abbrev pub IsOneRoa : List ℕ → CertValue → Origin → Type 0
IsOneRoa content value origin = (value_in (roa_read content) ≡ Some (roa_of origin))
    × (value.held ≡ Some (prefix_sets origin.prefix))

-- So the body of a ROA.
abbrev pub IsRouteOf : ℕ × List Entry → CertValue → Origin → Type 0
IsRouteOf body value origin =
    (body ≡ roa_of origin) × (value.held ≡ Some (prefix_sets origin.prefix))

abbrev pub TellsRoute : ℕ × List Entry → CertValue → Option What → Type 0
TellsRoute body value None = (origin : Origin) → ¬ IsRouteOf body value origin
TellsRoute body value (Some Point) = ⊥
TellsRoute body value (Some (Route origin)) = IsRouteOf body value origin
TellsRoute body value (Some (Authority key held)) = ⊥

abbrev pub TellsManifest : List ℕ → CertValue → Option What → Type 0
TellsManifest content value None = ¬ IsOneManifest content value
TellsManifest content value (Some Point) = IsOneManifest content value
TellsManifest content value (Some (Route origin)) = ⊥
TellsManifest content value (Some (Authority key held)) = ⊥

abbrev pub TellsRoa : List ℕ → CertValue → Option What → Type 0
TellsRoa content value None = (origin : Origin) → ¬ IsOneRoa content value origin
TellsRoa content value (Some Point) = ⊥
TellsRoa content value (Some (Route origin)) = IsOneRoa content value origin
TellsRoa content value (Some (Authority key held)) = ⊥

abbrev pub TellsKind : ObjectKind → List ℕ → CertValue → Option What → Type 0
TellsKind kind.Manifest content value what = TellsManifest content value what
TellsKind kind.Roa content value what = TellsRoa content value what

abbrev pub TellsWhat : ObjectValue → CertValue → Option What → Type 0
TellsWhat object value what = TellsKind object.kind object.content value what

-- ---- what is told of any object

abbrev pub home_value : code.Home → Home
home_value home = record { key = home.key.bytes; folder = string_bytes home.folder }

-- Of what a press makes, what it says.
pub record IsMade (homes : List Home) (bytes : List ℕ) (told : Told) : Type 0 where
  pub profile : IsOfProfile homes bytes
  pub says : SaysSo bytes told

abbrev pub TellsMade : List Home → List ℕ → Option Told → Type 0
TellsMade homes bytes None = ¬ IsOfProfile homes bytes
TellsMade homes bytes (Some told) = IsMade homes bytes told

-- The certificate that the bytes are or have, if there is one.
abbrev pub MayHave : List ℕ → Option ReadCert → Type 0
MayHave bytes None = (certificate : SignedCert) → ¬ HasCertificate bytes certificate
MayHave bytes (Some found) = (certificate : SignedCert) → HasCertificate bytes certificate
    → certificate ≡ read_value found

-- And of others who issued them.
pub record IsStrange (homes : List Home) (bytes : List ℕ) (told : Told) : Type 0 where
  pub other : ¬ IsOfProfile homes bytes
  pub says : IsOther bytes (row_with told)

abbrev pub IsToldOf : List Home → List ℕ → Told → Type 0
IsToldOf homes bytes told = IsMade homes bytes told ⊎ IsStrange homes bytes told

-- ---- its row

-- The row has the object's URI and hash; and it is the object's own, where a press makes such, or
-- that of an object that is never wanted.
pub record IsRowFor (homes : List Home) (object : Object) (row : IssuedRow) : Type 0 where
  pub bytes : AreBytes object.bytes
  pub uri : row.uri ≡ object.uri
  pub hash : row.hash ≡ sha256 object.bytes
  pub told : (IsOfProfile homes object.bytes × IsRowOf object.bytes row)
      ⊎ ((¬ IsOfProfile homes object.bytes) × IsOther object.bytes row)
