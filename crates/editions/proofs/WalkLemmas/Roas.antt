-- The ROA of an origin is accepted under a key's point.
use Rattle.std.proofs.Common.{◌≡◌, ℕ, ◌+◌, Bool, true, false, not, ◌&&◌, Option, Some, List, [], ◌∷◌, map, Ok, refl, ap, ◌∙◌}
use Rattle.std.specs.Prelude.{codes, is_some}
use Rattle.std.specs.Str.{bytes_eq}
use Rattle.std.proofs.lemmas.Bool.{and_from}
use Rattle.hex.specs.Hex.{encode_lower}
use Rattle.sha1.specs.Sha1.{sha1}
use Rattle.sha2.specs.Sha256.{sha256}
use Rattle.origins.specs.declared.Origin.{Origin}
use Rattle.origins.specs.Origin.{origin_text}
use Rattle.cert_obj.specs.Values.{Sets, CertValue}
use Rattle.crl_obj.specs.Values.{CrlValue}
use Rattle.crl_obj.specs.declared.values.CrlEntry.{CrlEntry}
use Rattle.pub_set.specs.Changes.{Contents}
use Rattle.payloads.specs.RoaFormats.{Entry}
use Rattle.rp_rules.specs.declared.rules.Rule.TheVariants as rule
use Rattle.rp_rules.specs.Checks.{Checked, ◌>>=◌, tested, found}
use Rattle.rp_rules.specs.Objects.{SignedManifest, SignedRoa, roa_in}
use Rattle.rp_rules.specs.Holdings.{no_sets, held_under, have_prefixes}
use Rattle.rp_rules.specs.Authorities.{key_id}
use Rattle.rp_rules.specs.Certificates.{WalkContext, File, lies_in, is_among, is_revoked, is_valid_at, is_held_under, names_issuer, has_issuer_uris, listed_bytes}
use Rattle.rp_rules.specs.Points.{Point, is_certificate_file, is_signed, is_identified, is_placed, roa_resources, roa_tests, accepted_roa}
use Rattle.rp_rules.specs.Walk.{Route}
use Rattle.rp_rules.specs.Yield.{yielded_of, yielded_by}
use Rattle.issue_values.specs.Publishers.{roa_uri}
use Rattle.issue_values.specs.Certificates.{certificate_life, prefix_sets, roa_certificate}
use Rattle.issue_values.specs.Bodies.{roa_entry, roa_of}
use Rattle.issue_plan.specs.Uris.{roa_file}
use Rattle.key_ids.specs.Uris.{folder_of}
use Rattle.editions.proofs.WalkLemmas.Checks.{AllKept, tested-kept, found-there, handed-on}
use Rattle.editions.proofs.WalkLemmas.Endings.{ending}
use Rattle.editions.proofs.WalkLemmas.Point.{Seat, publishing, authority_with, crl_at, same-bytes}

-- The ROA of the origin stands in its place, issued under the key and on no such list.
pub record IsOwedRoa (s : WalkContext) (k : Seat) (held : Contents) (revoked : List CrlEntry)
    (origin : Origin) : Type 0 where
  pub bytes : List ℕ
  pub there : held (roa_uri s.bases k.name origin) ≡ Some bytes
  pub roa : SignedRoa
  pub read : roa_in bytes ≡ Some roa
  pub body : roa.body ≡ roa_of origin
  pub made : ℕ
  pub time : lies_in s.moment made (made + certificate_life) ≡ true
  pub serial : ℕ
  pub says : roa.certificate.cert ≡ roa_certificate s.bases made (publishing k)
      roa.certificate.cert.key origin.prefix (roa_uri s.bases k.name origin) serial
  pub issued : s.vouched k.key roa.certificate.digest roa.certificate.signature ≡ true
  pub signer : roa.object.signer ≡ sha1 roa.certificate.cert.key
  pub signed :
      s.vouched roa.certificate.cert.key roa.object.digest roa.object.signature ≡ true
  pub unrevoked : is_revoked revoked roa.certificate.cert.serial ≡ false

-- How it is listed.
abbrev pub roa_listed : Origin → List ℕ → File
roa_listed origin bytes = (roa_file origin, sha256 bytes)

module _ (s : WalkContext) (k : Seat) (value : CertValue) (sets : Sets) (held : Contents)
    (manifest : SignedManifest) (crl : CrlValue) (origin : Origin)
    (is : IsOwedRoa s k held crl.entries origin)
    (inside : is_held_under sets (Some (prefix_sets origin.prefix)) ≡ true)
    (prefix : have_prefixes (prefix_sets origin.prefix) (roa_entry origin ∷ []) ≡ true) where
  abbrev p : Point
  p = record { authority = authority_with s k value sets; manifest = manifest; crl = crl }

  abbrev place : List ℕ
  place = roa_uri s.bases k.name origin

  abbrev file : File
  file = roa_listed origin is.bytes

  abbrev x : SignedRoa
  x = is.roa

  abbrev own : CertValue
  own = roa_certificate s.bases is.made (publishing k) x.certificate.cert.key origin.prefix place is.serial

  signature : is_signed s p.authority x ≡ true
  signature =
      and_from (s.vouched k.key x.certificate.digest x.certificate.signature)
      (s.vouched x.certificate.cert.key x.object.digest x.object.signature) is.issued is.signed

  identity : is_identified p.authority x ≡ true
  identity =
      and_from (names_issuer p.authority x.certificate.cert)
      (bytes_eq x.object.signer (key_id x.certificate.cert))
      (ap (names_issuer p.authority) is.says ∙ same-bytes (sha1 k.key))
      (ap (λ (b : List ℕ). bytes_eq b (key_id x.certificate.cert)) is.signer
      ∙ same-bytes (key_id x.certificate.cert))

  time : is_valid_at s.moment x.certificate.cert ≡ true
  time = ap (is_valid_at s.moment) is.says ∙ is.time

  resources : roa_resources p.authority x ≡ true
  resources =
      let of : Option Sets → List Entry → Bool = λ h entries.
      is_some h && is_held_under sets h && have_prefixes (held_under no_sets h) entries in
      ap (λ (c : CertValue). of c.held x.body.1) is.says
      ∙ (ap (λ (b : ℕ × List Entry). of (Some (prefix_sets origin.prefix)) b.1) is.body
      ∙ and_from (is_held_under sets (Some (prefix_sets origin.prefix)))
      (have_prefixes (prefix_sets origin.prefix) (roa_entry origin ∷ [])) inside prefix)

  placed : is_placed p.authority place x ≡ true
  placed =
      ap (λ (c : CertValue). has_issuer_uris p.authority c && bytes_eq c.uris.object place) is.says
      ∙ and_from (has_issuer_uris p.authority own) (bytes_eq place place)
      (and_from (bytes_eq (crl_at s k) (crl_at s k)) (bytes_eq k.certificate k.certificate)
      (same-bytes (crl_at s k)) (same-bytes k.certificate)) (same-bytes place)

  kept : (seen : List (List ℕ)) → is_among seen place ≡ false → AllKept (roa_tests s p seen place x)
  kept seen new = (
    signature,
    (
      identity,
      (
        time,
        (
          resources,
          (
            ap not is.unrevoked,
            (
              placed,
              (ap not new, tt),
            ),
          ),
        ),
      ),
    ),
  )

  listed : listed_bytes held place file ≡ Ok is.bytes
  unfolding listed_bytes
  listed =
      handed-on (found place rule.Missing (held place)) is.bytes
      (λ bytes. tested place ((rule.Hash, bytes_eq (sha256 bytes) file.1) ∷ []) bytes)
      (found-there place rule.Missing (held place) is.bytes is.there)
      ∙ tested-kept place ((rule.Hash, bytes_eq (sha256 is.bytes) file.1) ∷ [])
      is.bytes (same-bytes (sha256 is.bytes), tt)

  pub roa-accepted : (seen : List (List ℕ)) → is_among seen place ≡ false
      → accepted_roa s held p seen file ≡ Ok x
  unfolding accepted_roa
  roa-accepted seen new =
      let last : SignedRoa → Checked SignedRoa = λ r. tested place (roa_tests s p seen place r) r in
      handed-on (listed_bytes held place file) is.bytes
      (λ bytes. found place rule.Shape (roa_in bytes) >>= last) listed
      ∙ (handed-on (found place rule.Shape (roa_in is.bytes)) x last
      (found-there place rule.Shape (roa_in is.bytes) x is.read)
      ∙ tested-kept place (roa_tests s p seen place x) x (kept seen new))

  pub roa-yields : yielded_by (Route p.authority place x)
      ≡ yielded_of (folder_of s.bases k.name) origin.asn (roa_entry origin) ∷ []
  roa-yields = ap (λ (b : ℕ × List Entry).
      map (yielded_of (folder_of s.bases k.name) b.0) b.1) is.body

pub roa-kind : (origin : Origin) (bytes : List ℕ) → is_certificate_file (roa_listed origin bytes) ≡ false
roa-kind origin bytes = ending (encode_lower (origin_text origin)) (codes ".roa") (codes ".cer") refl
