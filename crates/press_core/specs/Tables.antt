-- The table of what stands, over whatever objects.
use Rattle.std.specs.Prelude.{◌≡◌, ℕ, ⊤, Bool, true, ◌&&◌, List, map, Contains, Some}
use Rattle.std.specs.Option.{option_map}
use Rattle.std.specs.List.{list_any}
use Rattle.std.specs.Str.{bytes_eq}
use Rattle.sha2.specs.Sha256.{sha256}
use Rattle.key_ids.specs.Uris.{Bases, folder_of}
use Rattle.res_sets.specs.Triples.{HaveNone}
use Rattle.cert_obj.specs.Values.{CertValue, SignedCert}
use Rattle.authority_book.specs.declared.rows.NameRow.{NameRow}
use Rattle.pub_set.specs.declared.objects.Object.{Object}
use Rattle.pub_set.specs.Objects.{content_at, found_at}
use Rattle.key_roll.specs.declared.rows.KeyRow.{KeyRow}
use Rattle.key_roll.specs.declared.issued.IssuedRow.{IssuedRow}
use Rattle.key_roll.specs.declared.issued.What.{What}
use Rattle.key_roll.specs.declared.issued.What.TheVariants.{Authority, Route, Point}
use Rattle.rp_rules.specs.Objects.{certificate_in}
use Rattle.issue_drafts.specs.Publishers.{name_at}
use Rattle.editions.specs.Held.{HasCertificate}
use Rattle.editions.specs.Table.{IsDated, IsRowOf}

-- The table has the hash of what stands at each URI, and no row where nothing does.
abbrev pub IsHashed : List Object → List IssuedRow → Type 0
IsHashed objects issued = (uri : List ℕ)
    → found_at (λ row. row.uri) (λ row. row.hash) issued uri
    ≡ option_map sha256 (content_at objects uri)

-- ---- where keys publish (RFC 6481 section 2.2)

-- A key, by its bytes, and the folder of its authority.
pub record Home : Type 0 where
  pub key : List ℕ
  pub folder : List ℕ

abbrev pub home_of : Bases → List NameRow → KeyRow → Home
home_of site names row =
    record { key = row.key.bytes; folder = folder_of site (name_at names row.desk) }

-- Those of all live keys.
abbrev pub homes_of : Bases → List NameRow → List KeyRow → List Home
homes_of site names rows = map (home_of site names) rows

abbrev pub is_home : CertValue → Home → Bool
is_home cert home = bytes_eq home.key cert.key && bytes_eq home.folder cert.uris.folder

-- Whether the certificate names the folder of its key's authority, and the key is live.
abbrev pub is_at_home : List Home → CertValue → Bool
is_at_home homes cert = list_any (is_home cert) homes

-- ---- objects that a press makes

-- So does each certificate of an authority's key.
abbrev pub IsAtHome : List Home → List ℕ → What → Type 0
IsAtHome homes bytes (Authority key held) = (certificate : SignedCert)
    → certificate_in bytes ≡ Some certificate → is_at_home homes certificate.cert ≡ true
IsAtHome homes bytes (Route origin) = ⊤
IsAtHome homes bytes Point = ⊤

-- The bytes are such as a press makes: a certificate with resources of its own that names the
-- folder of its key's authority, the ROA of one origin whose certificate holds just the prefix, a
-- CRL, or a manifest that ends with its certificate.
pub record IsOfProfile (homes : List Home) (bytes : List ℕ) : Type 0 where
  pub row : IssuedRow
  pub is : IsRowOf bytes row
  pub home : IsAtHome homes bytes row.what

abbrev pub AreOfProfile : List Home → List Object → Type 0
AreOfProfile homes objects =
    (object : Object) → Contains objects object → IsOfProfile homes object.bytes

-- ---- and others

-- A certificate of nothing, which is never wanted.
abbrev pub IsOfNothing : What → Type 0
IsOfNothing (Authority key held) = HaveNone held
IsOfNothing (Route origin) = ⊥
IsOfNothing Point = ⊥

-- The row is that of such; and it has what the certificate says that the bytes are, or that the
-- signed object has.
pub record IsOther (bytes : List ℕ) (row : IssuedRow) : Type 0 where
  pub what : IsOfNothing row.what
  pub dated : (certificate : SignedCert) → HasCertificate bytes certificate
      → IsDated certificate.cert row

-- Each object that a press never makes has such a row.
abbrev pub HasOthers : List Home → List Object → List IssuedRow → Type 0
HasOthers homes objects issued = (object : Object) → Contains objects object
    → ¬ IsOfProfile homes object.bytes
    → (row : IssuedRow) × Contains issued row × (row.uri ≡ object.uri) × IsOther object.bytes row
