-- Where the keys of an edition publish (RFC 6481 section 2).
use Rattle.std.specs.Prelude.{ℕ, Bool, ◌==◌, if◌then◌else◌, List, [], find, slice_get}
use Rattle.std.specs.Prelude.{Option, None, Some, option_map, option_and_then}
use Rattle.std.specs.Option.{option_map_or}
use Rattle.std.specs.Str.{bytes_eq}
use Rattle.key_ids.specs.declared.identifier.KeyId.{KeyId}
use Rattle.key_ids.specs.Uris.{Bases, anchor_uri, cert_uri}
use Rattle.authority_book.specs.declared.rows.NameRow.{NameRow}
use Rattle.key_roll.specs.declared.rows.KeyRow.{KeyRow}
use Rattle.key_roll.specs.declared.issued.IssuedRow.{IssuedRow}
use Rattle.key_roll.specs.declared.issued.What.{What}
use Rattle.key_roll.specs.declared.issued.What.TheVariants.{Authority, Route, Point}
use Rattle.key_roll.specs.declared.work.CertWork.{CertWork}
use Rattle.key_roll.specs.declared.work.KeyName.{KeyName}
use Rattle.issue_values.specs.Publishers.{Publishing}
use Rattle.issue_keys.specs.Keys.{id_of}
use Rattle.issue_keys.specs.Indexes.{has_id}
use Rattle.issue_drafts.specs.WorkKeys.{Keys, key_of, key_named}
use Rattle.issue_drafts.specs.IssueInput.{IssueInput}

abbrev pub is_key : KeyRow → KeyRow → Bool
is_key a b = bytes_eq (id_of a) (id_of b)

-- The identifier of the key that a name stands for.
abbrev pub id_named : Keys → KeyName → Option KeyId
id_named keys name = option_map key_of (key_named keys name)

-- The name stands for that key.
abbrev pub names_key : Keys → KeyName → KeyRow → Bool
names_key keys name row = has_id (id_of row) (id_named keys name)

abbrev pub subject_key : Keys → CertWork → Option KeyId
subject_key keys cert = id_named keys cert.subject

-- The name of a desk's authority.
abbrev pub name_at : List NameRow → ℕ → List ℕ
name_at names desk = option_map_or (λ n. n.name) (slice_get names desk) []

-- The URI of a certificate that the work makes: it is the trust anchor's where the subject is
-- the issuer.
abbrev pub made_uri : Bases → List NameRow → KeyRow → KeyRow → List ℕ
made_uri site names issuer subject =
    if is_key issuer subject then anchor_uri site
    else cert_uri site (name_at names issuer.desk) (id_of subject)

-- The issuer of the first certificate that the work makes for the key.
abbrev pub issuer_for : Keys → List CertWork → KeyRow → Option KeyRow
issuer_for keys certs row =
    option_and_then (λ cert. key_named keys cert.issuer)
    (find (λ cert. names_key keys cert.subject row) certs)

-- The URI of that certificate.
abbrev pub made_for : IssueInput → Keys → KeyRow → Option (List ℕ)
made_for s keys row =
    option_map (λ issuer. made_uri s.site s.names issuer row) (issuer_for keys s.work.certs row)

-- The key that an object certifies, if it is a certificate.
abbrev pub certified_key : What → Option KeyId
certified_key (Authority key held) = Some key
certified_key (Route origin) = None
certified_key Point = None

-- The URI of the first certificate that stands for the key.
abbrev pub standing_for : List IssuedRow → KeyRow → Option (List ℕ)
standing_for issued row =
    option_map (λ r. r.uri) (find (λ r. has_id (id_of row) (certified_key r.what)) issued)

abbrev pub first_of : Option (List ℕ) → Option (List ℕ) → List ℕ → List ℕ
first_of (Some uri) other default = uri
first_of None (Some uri) default = uri
first_of None None default = default

-- The URI of a key's certificate: the trust anchor's, else the one that is made, else the one
-- that stands.
abbrev pub certificate_of : IssueInput → Keys → KeyRow → List ℕ
certificate_of s keys row =
    if row.desk == 0 then anchor_uri s.site
    else first_of (made_for s keys row) (standing_for s.issued row) (anchor_uri s.site)

-- A key as certificates see it.
abbrev pub publishing_of : IssueInput → Keys → KeyRow → Publishing
publishing_of s keys row = record {
  key = row.key.bytes;
  id = id_of row;
  name = name_at s.names row.desk;
  certificate = certificate_of s keys row;
}
