-- What serves in the set of an edition for each object that it wants, whichever edition made it.
use Rattle.std.proofs.Common.{◌≡◌, ℕ, ◌+◌, true, cond, Some, List, IsSome}
use Rattle.std.specs.Prelude.{Any, Contains, ◌↔◌}
use Rattle.sha1.specs.Sha1.{sha1}
use Rattle.origins.specs.declared.Origin.{Origin}
use Rattle.res_sets.specs.declared.holdings.Resources.{Resources}
use Rattle.key_ids.specs.Uris.{crl_uri, manifest_uri}
use Rattle.entitle.specs.Certified.{names_of}
use Rattle.key_roll.specs.declared.rows.KeyRow.{KeyRow}
use Rattle.key_roll.specs.declared.rows.RevokedRow.{RevokedRow}
use Rattle.cert_obj.specs.Values.{CertValue, SignedCert}
use Rattle.crl_obj.specs.Values.{SignedCrl}
use Rattle.rp_rules.specs.Certificates.{lies_in}
use Rattle.rp_rules.specs.Objects.{SignedManifest, SignedRoa, certificate_in, crl_in, manifest_in, roa_in}
use Rattle.issue_values.specs.Certificates as values
use Rattle.issue_values.specs.Certificates.{certificate_life, point_life}
use Rattle.issue_values.specs.Bodies.{roa_of, crl_value_of, manifest_value_of}
use Rattle.issue_keys.specs.Keys.{id_of}
use Rattle.issue_drafts.specs.Publishers.{is_key, name_at}
use Rattle.issue_drafts.specs.Drafts.{Draft}
use Rattle.issue_drafts.specs.Drafts.Kind.{Certificate, Roa}
use Rattle.editions.specs.Wanted.{all_objects}
use Rattle.editions.specs.Objects.{Issuance, moment_of, AreFiles}
use Rattle.editions.specs.MadeIn.{published_key}

-- The certificate of that serial, made at the moment, of keys at the places that they have in the edition.
abbrev pub certificate_made : Issuance → ℕ → KeyRow → KeyRow → Resources → ℕ → CertValue
certificate_made m made issuer subject held serial =
    cond (is_key issuer subject)
    (values.anchor_certificate m.plan_input.site made (published_key m issuer) held serial)
    (values.authority_certificate m.plan_input.site made (published_key m issuer)
    (published_key m subject) held serial)

-- It is in date, and what the edition wants.
pub record ServesCertificate (m : Issuance) (d : Draft) (subject : KeyRow) (held : Resources)
    (bytes : List ℕ) : Type 0 where
  pub certificate : SignedCert
  pub read : certificate_in bytes ≡ Some certificate
  pub made : ℕ
  pub serial : ℕ
  pub time : lies_in (moment_of m) made (made + certificate_life) ≡ true
  pub says : certificate.cert ≡ certificate_made m made d.issuer subject held serial
  pub vouched : m.vouched d.issuer.key.bytes certificate.digest certificate.signature ≡ true

pub record ServesRoa (m : Issuance) (d : Draft) (origin : Origin) (bytes : List ℕ) : Type 0 where
  pub roa : SignedRoa
  pub read : roa_in bytes ≡ Some roa
  pub body : roa.body ≡ roa_of origin
  pub made : ℕ
  pub serial : ℕ
  pub time : lies_in (moment_of m) made (made + certificate_life) ≡ true
  pub says : roa.certificate.cert ≡ values.roa_certificate m.plan_input.site made (published_key m d.issuer)
      roa.certificate.cert.key origin.prefix d.uri serial
  pub issued : m.vouched d.issuer.key.bytes roa.certificate.digest roa.certificate.signature ≡ true
  pub signer : roa.object.signer ≡ sha1 roa.certificate.cert.key
  pub signed : m.vouched roa.certificate.cert.key roa.object.digest roa.object.signature ≡ true

-- A key's CRL and manifest of one making, which lists the key's files of now.
pub record ServesPoint (m : Issuance) (key : KeyRow) : Type 0 where
  pub made : ℕ
  pub number : ℕ
  pub time : lies_in (moment_of m) made (made + point_life) ≡ true
  -- the CRL
  pub revoked : List RevokedRow
  pub crl_bytes : List ℕ
  pub crl_there : m.new (crl_uri m.plan_input.site (name_at (names_of m.plan_input.basis.configs) key.desk)
      (id_of key)) ≡ Some crl_bytes
  pub crl : SignedCrl
  pub crl_read : crl_in crl_bytes ≡ Some crl
  pub crl_says : crl.crl ≡ crl_value_of made (id_of key) number revoked
  pub crl_vouched : m.vouched key.key.bytes crl.digest crl.signature ≡ true
  -- the manifest
  pub bytes : List ℕ
  pub there : m.new (manifest_uri m.plan_input.site (name_at (names_of m.plan_input.basis.configs) key.desk)
      (id_of key)) ≡ Some bytes
  pub manifest : SignedManifest
  pub read : manifest_in bytes ≡ Some manifest
  pub files : List (List ℕ × List ℕ)
  pub listed : AreFiles m key files
  pub body : manifest.body ≡ manifest_value_of made number files
  pub serial : ℕ
  pub says : manifest.certificate.cert ≡ values.manifest_certificate m.plan_input.site made (published_key m key)
      manifest.certificate.cert.key serial
  pub issued : m.vouched key.key.bytes manifest.certificate.digest manifest.certificate.signature ≡ true
  pub signer : manifest.object.signer ≡ sha1 manifest.certificate.cert.key
  pub signed : m.vouched manifest.certificate.cert.key manifest.object.digest manifest.object.signature ≡ true

-- Just what is wanted stands, and serves.
pub record IsServed (m : Issuance) : Type 0 where
  pub places : (uri : List ℕ) → IsSome (m.new uri)
      ↔ Any (λ d. d.uri ≡ uri) (all_objects m.plan_input m.keys)
  pub certificates : (d : Draft) → Contains (all_objects m.plan_input m.keys) d → (subject : KeyRow)
      (held : Resources) → d.kind ≡ Certificate subject held
      → (bytes : List ℕ) × (m.new d.uri ≡ Some bytes) × ServesCertificate m d subject held bytes
  pub roas : (d : Draft) → Contains (all_objects m.plan_input m.keys) d → (origin : Origin) → d.kind ≡ Roa origin
      → (bytes : List ℕ) × (m.new d.uri ≡ Some bytes) × ServesRoa m d origin bytes
  pub points : (key : KeyRow) → Contains m.keys key → ServesPoint m key
