-- Which objects an edition makes, where, and with which serials (RFC 6487, RFC 9582, RFC 9286).
use Rattle.std.specs.Prelude.{ℕ, ◌+◌, Bool, true, false, ◌&&◌, List, ◌++◌, count_by}
use Rattle.std.specs.Prelude.{Option, option_map, option_and_then, IsPermutation}
use Rattle.std.specs.List.{filter_map}
use Rattle.std.specs.Ordering.{is_lt}
use Rattle.origins.specs.declared.Origin.{Origin}
use Rattle.res_sets.specs.declared.holdings.Resources.{Resources}
use Rattle.key_ids.specs.Uris.{crl_uri, manifest_uri}
use Rattle.key_roll.specs.declared.rows.KeyRow.{KeyRow}
use Rattle.key_roll.specs.declared.work.CertWork.{CertWork}
use Rattle.key_roll.specs.declared.work.RoaWork.{RoaWork}
use Rattle.key_roll.specs.declared.work.PointWork.{PointWork}
use Rattle.pub_set.specs.Objects.{Rise, uri_cmp}
use Rattle.issue_values.specs.Publishers.{roa_uri}
use Rattle.issue_keys.specs.Keys.{id_of}
use Rattle.issue_drafts.specs.WorkKeys.{Keys, key_named}
use Rattle.issue_drafts.specs.IssueInput.{IssueInput}
use Rattle.issue_drafts.specs.Publishers.{is_key, name_at, made_uri}

-- What an object is.
pub data Kind : Type 0 where
  Certificate : KeyRow → Resources → Kind
  Roa : Origin → Kind
  Crl : Kind
  Manifest : Kind

abbrev pub is_manifest : Kind → Bool
is_manifest (Certificate subject held) = false
is_manifest (Roa origin) = false
is_manifest Crl = false
is_manifest Manifest = true

-- An object to be made: where it is to stand, and the key that issues it.
pub record Draft : Type 0 where
  pub uri : List ℕ
  pub issuer : KeyRow
  pub kind : Kind

abbrev pub certificate_draft : IssueInput → Keys → CertWork → Option Draft
certificate_draft s keys cert =
    option_and_then (λ issuer.
    option_map (λ subject. record {
      uri = made_uri s.site s.names issuer subject;
      issuer = issuer;
      kind = Certificate subject cert.held;
    }) (key_named keys cert.subject)) (key_named keys cert.issuer)

abbrev pub roa_draft : IssueInput → Keys → RoaWork → Option Draft
roa_draft s keys roa = option_map (λ issuer. record {
  uri = roa_uri s.site (name_at s.names issuer.desk) roa.origin;
  issuer = issuer;
  kind = Roa roa.origin;
}) (key_named keys roa.issuer)

abbrev pub crl_draft : IssueInput → Keys → PointWork → Option Draft
crl_draft s keys point = option_map (λ issuer. record {
  uri = crl_uri s.site (name_at s.names issuer.desk) (id_of issuer);
  issuer = issuer;
  kind = Crl;
}) (key_named keys point.key)

abbrev pub manifest_draft : IssueInput → Keys → PointWork → Option Draft
manifest_draft s keys point = option_map (λ issuer. record {
  uri = manifest_uri s.site (name_at s.names issuer.desk) (id_of issuer);
  issuer = issuer;
  kind = Manifest;
}) (key_named keys point.key)

-- All but the manifests, which list the others.
abbrev pub drafts : IssueInput → Keys → List Draft
drafts s keys =
    filter_map (certificate_draft s keys) s.work.certs
    ++ filter_map (roa_draft s keys) s.work.roas
    ++ filter_map (crl_draft s keys) s.work.points

abbrev pub manifests : IssueInput → Keys → List Draft
manifests s keys = filter_map (manifest_draft s keys) s.work.points

-- By rising URI.
pub record AreOrdered (drafts ordered : List Draft) : Type 0 where
  pub permutation : IsPermutation drafts ordered
  pub rising : Rise (λ d. d.uri) ordered

-- ---- serials

abbrev pub has_serial : Kind → Bool
has_serial (Certificate subject held) = true
has_serial (Roa origin) = true
has_serial Crl = false
has_serial Manifest = false

-- The key's certificates and ROAs.
abbrev pub is_numbered : KeyRow → Draft → Bool
is_numbered key d = is_key d.issuer key && has_serial d.kind

-- The key's next serial, and as many as it has certificates and ROAs before that URI.
abbrev pub serial_at : List Draft → KeyRow → List ℕ → ℕ
serial_at all key uri =
    key.next_serial + count_by (λ d. is_numbered key d && is_lt (uri_cmp d.uri uri)) all

-- The serial behind those of all the key's certificates and ROAs.
abbrev pub serial_behind : List Draft → KeyRow → ℕ
serial_behind all key = key.next_serial + count_by (is_numbered key) all
