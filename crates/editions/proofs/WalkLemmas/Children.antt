-- The certificate of a key is accepted under its issuer's point.
use Rattle.std.proofs.Common.{◌≡◌, ℕ, ◌+◌, true, false, not, ◌&&◌, cond, Some, None, List, [], ◌∷◌, ◌++◌, Ok, refl, sym, ap, subst, ◌∙◌, append_assoc}
use Rattle.std.specs.Prelude.{codes}
use Rattle.std.specs.Str.{bytes_eq}
use Rattle.std.proofs.lemmas.Bool.{and_from}
use Rattle.hex.specs.Hex.{encode_lower}
use Rattle.sha1.specs.Sha1.{sha1}
use Rattle.sha2.specs.Sha256.{sha256}
use Rattle.key_ids.specs.Uris.{folder_of, notify_uri, cert_uri}
use Rattle.res_sets.specs.declared.holdings.Resources.{Resources}
use Rattle.cert_obj.specs.Values.{Sets, CertValue, SignedCert, sets_of, is_issued, is_authority}
use Rattle.crl_obj.specs.declared.values.CrlEntry.{CrlEntry}
use Rattle.pub_set.specs.Changes.{Contents}
use Rattle.rp_rules.specs.declared.rules.Rule.TheVariants as rule
use Rattle.rp_rules.specs.Checks.{Checked, ◌>>=◌, tested, found}
use Rattle.rp_rules.specs.Objects.{such, certificate_in, is_authoritys}
use Rattle.rp_rules.specs.Holdings.{held_under}
use Rattle.rp_rules.specs.Authorities.{Authority, certificate_uri_of, manifest_in_folder, is_folder}
use Rattle.rp_rules.specs.Certificates.{WalkContext, File, lies_in, is_among, is_revoked, is_held_under, has_issuer_uris, has_authority_uris, authority_tests, authority_of, accepted_authority, listed_bytes}
use Rattle.rp_rules.specs.Points.{is_certificate_file}
use Rattle.issue_values.specs.Certificates.{certificate_life, authority_certificate}
use Rattle.editions.proofs.WalkLemmas.Checks.{AllKept, tested-kept, found-there, handed-on}
use Rattle.editions.proofs.WalkLemmas.Endings.{ending}
use Rattle.editions.proofs.WalkLemmas.Point.{Seat, publishing, authority_with, crl_at, manifest_at, same-bytes}

-- The key's certificate stands in its issuer's folder, with those resources, and on no such list.
pub record HasCertificate (s : WalkContext) (issuer key : Seat) (held : Contents) (revoked : List CrlEntry)
    (set : Resources) : Type 0 where
  pub bytes : List ℕ
  pub there : held key.certificate ≡ Some bytes
  pub certificate : SignedCert
  pub read : certificate_in bytes ≡ Some certificate
  pub made : ℕ
  pub time : lies_in s.moment made (made + certificate_life) ≡ true
  pub serial : ℕ
  pub says : certificate.cert ≡ authority_certificate s.bases made (publishing issuer)
      (publishing key) set serial
  pub issued : s.vouched issuer.key certificate.digest certificate.signature ≡ true
  pub place : key.certificate ≡ cert_uri s.bases issuer.name (sha1 key.key)
  pub unrevoked : is_revoked revoked certificate.cert.serial ≡ false

-- How it is listed.
abbrev pub key_listed : List ℕ → List ℕ → File
key_listed key bytes = (encode_lower (sha1 key) ++ codes ".cer", sha256 bytes)

module _ (s : WalkContext) (issuer key : Seat) (value : CertValue) (sets : Sets) (held : Contents)
    (revoked : List CrlEntry) (set : Resources) (is : HasCertificate s issuer key held revoked set)
    (inside : is_held_under sets (Some (sets_of set)) ≡ true)
    (folder : is_folder s.bases (folder_of s.bases key.name) ≡ true) where
  abbrev above : Authority
  above = authority_with s issuer value sets

  abbrev place : List ℕ
  place = cert_uri s.bases issuer.name (sha1 key.key)

  abbrev file : File
  file = key_listed key.key is.bytes

  abbrev own : CertValue
  own = authority_certificate s.bases is.made (publishing issuer) (publishing key) set is.serial

  abbrev pub authority : Authority
  authority = authority_with s key own (sets_of set)

  abbrev with_value : CertValue → SignedCert
  with_value cert = record {
    cert = cert;
    digest = is.certificate.digest;
    signature = is.certificate.signature;
  }

  manifest : bytes_eq (manifest_at s key) (manifest_in_folder (folder_of s.bases key.name) own) ≡ true
  manifest =
      ap (λ (uri : List ℕ). bytes_eq (manifest_at s key) uri)
      (append_assoc (folder_of s.bases key.name) (encode_lower (sha1 key.key)) (codes ".mft"))
      ∙ same-bytes (manifest_at s key)

  places : has_authority_uris s.bases above place own ≡ true
  places =
      let f : List ℕ = folder_of s.bases key.name in
      and_from (has_issuer_uris above own && bytes_eq place (certificate_uri_of above own)
      && is_folder s.bases f && bytes_eq (manifest_at s key) (manifest_in_folder f own))
      (bytes_eq (notify_uri s.bases) (notify_uri s.bases))
      (and_from (has_issuer_uris above own && bytes_eq place (certificate_uri_of above own)
      && is_folder s.bases f) (bytes_eq (manifest_at s key) (manifest_in_folder f own))
      (and_from (has_issuer_uris above own && bytes_eq place (certificate_uri_of above own))
      (is_folder s.bases f)
      (and_from (has_issuer_uris above own) (bytes_eq place (certificate_uri_of above own))
      (and_from (bytes_eq (crl_at s issuer) (crl_at s issuer))
      (bytes_eq issuer.certificate issuer.certificate)
      (same-bytes (crl_at s issuer)) (same-bytes issuer.certificate)) (same-bytes place))
      folder) manifest) (same-bytes (notify_uri s.bases))

  kept-at : (seen : List (List ℕ)) → is_among seen place ≡ false
      → is_revoked revoked own.serial ≡ false
      → AllKept (authority_tests s above revoked seen place (with_value own))
  kept-at seen new unrevoked = (
    is.issued,
    (
      same-bytes (sha1 issuer.key),
      (
        is.time,
        (
          inside,
          (
            ap not unrevoked,
            (
              places,
              (ap not new, tt),
            ),
          ),
        ),
      ),
    ),
  )

  such-authority : such is_authoritys (certificate_in is.bytes) ≡ Some is.certificate
  such-authority =
      ap (such is_authoritys) is.read
      ∙ ap (λ (cert : CertValue). cond (is_issued cert.kind && is_authority cert.kind)
      (Some is.certificate) None) is.says

  listed : listed_bytes held place file ≡ Ok is.bytes
  unfolding listed_bytes
  listed =
      handed-on (found place rule.Missing (held place)) is.bytes
      (λ bytes. tested place ((rule.Hash, bytes_eq (sha256 bytes) file.1) ∷ []) bytes)
      (found-there place rule.Missing (held place) is.bytes (ap held (sym is.place) ∙ is.there))
      ∙ tested-kept place ((rule.Hash, bytes_eq (sha256 is.bytes) file.1) ∷ [])
      is.bytes (same-bytes (sha256 is.bytes), tt)

  pub authority-accepted : (seen : List (List ℕ)) → is_among seen place ≡ false
      → accepted_authority s held above revoked seen file ≡ Ok authority
  unfolding accepted_authority
  authority-accepted seen new =
      let last : SignedCert → Checked Authority = λ c.
      tested place (authority_tests s above revoked seen place c) (authority_of above place c) in
      let kept : AllKept (authority_tests s above revoked seen place is.certificate) =
      sym-kept seen new in
      handed-on (listed_bytes held place file) is.bytes
      (λ bytes. found place rule.Shape (such is_authoritys (certificate_in bytes)) >>= last) listed
      ∙ (handed-on (found place rule.Shape (such is_authoritys (certificate_in is.bytes)))
      is.certificate last
      (found-there place rule.Shape (such is_authoritys (certificate_in is.bytes)) is.certificate
      such-authority)
      ∙ (tested-kept place (authority_tests s above revoked seen place is.certificate)
      (authority_of above place is.certificate) kept
      ∙ (ap (λ (cert : CertValue). told (record {
        uri = place;
        cert = cert;
        held = held_under sets cert.held;
      })) is.says
      ∙ ap (λ (uri : List ℕ). told (record { uri = uri; cert = own; held = sets_of set })) (sym is.place))))
    where
      told : Authority → Checked Authority
      told a = Ok a

      sym-kept : (seen : List (List ℕ)) → is_among seen place ≡ false
          → AllKept (authority_tests s above revoked seen place is.certificate)
      sym-kept seen new = subst
          (λ (cert : CertValue). AllKept (authority_tests s above revoked seen place (with_value cert)))
          (sym is.says) (kept-at seen new
          (ap (λ (cert : CertValue). is_revoked revoked cert.serial) (sym is.says) ∙ is.unrevoked))

pub key-kind : (key bytes : List ℕ) → is_certificate_file (key_listed key bytes) ≡ true
key-kind key bytes = ending (encode_lower (sha1 key)) (codes ".cer") (codes ".cer") refl
