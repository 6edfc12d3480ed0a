-- The bytes of an edition's objects, and what is signed for them (RFC 5280 sections 4.1 and 5.1,
-- RFC 6488 section 2).
use Rattle.std.specs.Prelude.{ℕ, ◌+◌, if◌then◌else◌, List, []}
use Rattle.origins.specs.declared.Origin.{Origin}
use Rattle.res_sets.specs.declared.holdings.Resources.{Resources}
use Rattle.key_roll.specs.declared.rows.KeyRow.{KeyRow}
use Rattle.key_roll.specs.declared.rows.RevokedRow.{RevokedRow}
use Rattle.cert_obj.specs.Values.{CertValue}
use Rattle.cert_obj.specs.Formats as certificates
use Rattle.crl_obj.specs.Values.{CrlValue}
use Rattle.crl_obj.specs.Formats as crls
use Rattle.cms_obj.specs.declared.values.ObjectKind.{ObjectKind}
use Rattle.cms_obj.specs.declared.values.ObjectKind.TheVariants as ObjectKinds
use Rattle.cms_obj.specs.Formats.{signed_attributes}
use Rattle.payloads.specs.RoaFormats.{roa}
use Rattle.payloads.specs.ManifestFormats.{manifest}
use Rattle.issue_values.specs.Certificates as values
use Rattle.issue_values.specs.Bodies.{roa_of, crl_value_of, manifest_value_of}
use Rattle.issue_sign.specs.Signed.{framed, object_bytes}
use Rattle.issue_keys.specs.Keys.{id_of}
use Rattle.issue_drafts.specs.WorkKeys.{Keys}
use Rattle.issue_drafts.specs.IssueInput.{IssueInput}
use Rattle.issue_drafts.specs.Publishers.{is_key, publishing_of}
use Rattle.issue_drafts.specs.Drafts.{Draft, Kind, serial_at, serial_behind}
use Rattle.issue_drafts.specs.Drafts.Kind.{Certificate, Roa, Crl, Manifest}

-- What the signers answered for an object: the key that signed its content once, if there is a
-- content, with that signature, and the issuer's signature of the certificate or the CRL.
pub record Answers : Type 0 where
  pub once : List ℕ
  pub content : List ℕ
  pub last : List ℕ

-- An object with its answers.
pub record Signed : Type 0 where
  pub draft : Draft
  pub answers : Answers

-- ---- certificates and CRLs

-- The certificate of that serial: the trust anchor's, which it signs itself, or another key's.
abbrev pub certificate_with : IssueInput → Keys → KeyRow → KeyRow → Resources → ℕ → CertValue
certificate_with s keys issuer subject held serial =
    if is_key issuer subject
    then values.anchor_certificate s.site s.work.moment (publishing_of s keys issuer) held serial
    else values.authority_certificate s.site s.work.moment (publishing_of s keys issuer)
    (publishing_of s keys subject) held serial

abbrev pub certificate : IssueInput → Keys → List Draft → Draft → KeyRow → Resources → CertValue
certificate s keys all d subject held =
    certificate_with s keys d.issuer subject held (serial_at all d.issuer d.uri)

abbrev pub roa_certificate : IssueInput → Keys → List Draft → Draft → Origin → List ℕ → CertValue
roa_certificate s keys all d origin once =
    values.roa_certificate s.site s.work.moment (publishing_of s keys d.issuer) once origin.prefix
    d.uri (serial_at all d.issuer d.uri)

abbrev pub manifest_certificate : IssueInput → Keys → List Draft → Draft → List ℕ → CertValue
manifest_certificate s keys all d once =
    values.manifest_certificate s.site s.work.moment (publishing_of s keys d.issuer) once
    (serial_behind all d.issuer)

-- The number of a key's new CRL and manifest.
abbrev pub number_of : KeyRow → ℕ
number_of key = key.number + 1

-- ---- contents

abbrev pub roa_content : Origin → List ℕ
roa_content origin = roa.spelling (roa_of origin)

-- What a signed object's one-use key signs.
abbrev pub attributes : IssueInput → ObjectKind → List ℕ → List ℕ
attributes s kind content = signed_attributes kind content s.work.moment

-- ---- the bytes of all but manifests

-- The entries of each key's CRL, as a function of the key.
abbrev pub Entries : Type 0
Entries = KeyRow → List RevokedRow

abbrev pub crl_of : IssueInput → Entries → KeyRow → CrlValue
crl_of s entries key =
    crl_value_of s.work.moment (id_of key) (number_of key) (entries key)

-- The bytes of an object that is no manifest.
abbrev pub bytes_by : IssueInput → Keys → List Draft → Entries → Draft → Kind → Answers → List ℕ
bytes_by s keys all entries d (Certificate subject held) a =
    framed (certificates.signed_bytes (certificate s keys all d subject held)) a.last
bytes_by s keys all entries d (Roa origin) a =
    object_bytes ObjectKinds.Roa (roa_content origin)
    (roa_certificate s keys all d origin a.once) a.last a.once a.content
bytes_by s keys all entries d Crl a =
    framed (crls.signed_bytes (crl_of s entries d.issuer)) a.last
bytes_by s keys all entries d Manifest a = []

abbrev pub bytes_of : IssueInput → Keys → List Draft → Entries → Signed → List ℕ
bytes_of s keys all entries x = bytes_by s keys all entries x.draft x.draft.kind x.answers

-- ---- manifests

-- The files of each key's manifest, as a function of the key.
abbrev pub Files : Type 0
Files = KeyRow → List (List ℕ × List ℕ)

abbrev pub manifest_content : IssueInput → Files → KeyRow → List ℕ
manifest_content s files key =
    manifest.spelling (manifest_value_of s.work.moment (number_of key) (files key))

abbrev pub manifest_bytes : IssueInput → Keys → List Draft → Files → Signed → List ℕ
manifest_bytes s keys all files x =
    object_bytes ObjectKinds.Manifest (manifest_content s files x.draft.issuer)
    (manifest_certificate s keys all x.draft x.answers.once) x.answers.last x.answers.once
    x.answers.content
