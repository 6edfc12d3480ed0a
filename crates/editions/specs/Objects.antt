-- The objects of an edition: what each says, and who signed it.
use Rattle.std.specs.Prelude.{◌≡◌, ◌≢◌, ⊤, ℕ, Bool, true, false, List, map, filter, AllPairs}
use Rattle.std.specs.Prelude.{Option, None, Some, option_map, IsSome, ◌↔◌, All, Any, IsPermutation}
use Rattle.std.specs.List.{filter_map}
use Rattle.sha1.specs.Sha1.{sha1}
use Rattle.sha2.specs.Sha256.{sha256}
use Rattle.origins.specs.declared.Origin.{Origin}
use Rattle.res_sets.specs.declared.holdings.Resources.{Resources}
use Rattle.key_roll.specs.declared.rows.KeyRow.{KeyRow}
use Rattle.cert_obj.specs.Values.{CertValue, SignedCert}
use Rattle.crl_obj.specs.Values.{SignedCrl}
use Rattle.payloads.specs.Order.{rises}
use Rattle.payloads.specs.ManifestFormats.{is_name_below}
use Rattle.pub_set.specs.Changes.{Contents}
use Rattle.rp_rules.specs.Certificates.{Vouched}
use Rattle.rp_rules.specs.Objects.{Signed, SignedManifest, SignedRoa, certificate_in, crl_in, manifest_in, roa_in}
use Rattle.issue_values.specs.Bodies.{roa_of, crl_value_of, manifest_value_of}
use Rattle.issue_plan.specs.Keys.{kept}
use Rattle.issue_plan.specs.Wanted.{PlanInput, point_of}
use Rattle.issue_keys.specs.Keys.{id_of}
use Rattle.issue_drafts.specs.Drafts.{Draft, Kind}
use Rattle.issue_drafts.specs.Drafts.{certificate_draft, roa_draft, crl_draft, manifest_draft, drafts}
use Rattle.issue_drafts.specs.Drafts.Kind.{Certificate, Roa, Crl, Manifest}
use Rattle.issue_sign.specs.Objects.{Entries, number_of}
use Rattle.issue_sign.specs.Objects as values
use Rattle.issue_drafts.specs.Files.{name_in, folder_at, is_made_under}
use Rattle.editions.specs.Wanted.{there, whole, all_certificates, all_roas, all_objects, new_objects}
use Rattle.editions.specs.Wanted.{keeps_certificate, keeps_roa, keeps_point}

-- An edition in the making: which signatures are vouched, what it is judged by, its keys, the
-- entries of their CRLs, and the sets before and after it.
pub record Issuance : Type 0 where
  pub vouched : Vouched
  pub plan_input : PlanInput
  pub keys : List KeyRow
  pub entries : Entries
  pub old : Contents
  pub new : Contents

abbrev pub moment_of : Issuance → ℕ
moment_of m = m.plan_input.basis.moment

-- The issuer's key signed the certificate, which says this.
pub record IsIssued (m : Issuance) (issuer : KeyRow) (value : CertValue) (certificate : SignedCert)
    : Type 0 where
  pub says : certificate.cert ≡ value
  pub vouched :
      m.vouched issuer.key.bytes certificate.digest certificate.signature ≡ true

-- The certificate's key signed the object at the edition's moment (RFC 6488 section 2).
pub record IsSigned {Body : Type 0} (m : Issuance) (issuer : KeyRow) (value : CertValue)
    (content : Body) (x : Signed Body) : Type 0 where
  pub body : x.body ≡ content
  pub certificate : IsIssued m issuer value x.certificate
  pub signer : x.object.signer ≡ sha1 x.certificate.cert.key
  pub moment : x.object.moment ≡ moment_of m
  pub vouched :
      m.vouched x.certificate.cert.key x.object.digest x.object.signature ≡ true

-- ---- certificates and CRLs

-- A certificate with the next serial of its issuer, valid from the edition's moment on.
pub record IsCertificate (m : Issuance) (d : Draft) (subject : KeyRow) (held : Resources)
    (bytes : List ℕ) : Type 0 where
  pub certificate : SignedCert
  pub read : certificate_in bytes ≡ Some certificate
  pub issued : IsIssued m d.issuer
      (values.certificate (whole m.plan_input m.keys) (there m.keys)
      (new_objects m.plan_input m.keys) d subject held) certificate

-- A CRL with the next number of its key, of the edition's moment.
pub record IsCrl (m : Issuance) (d : Draft) (bytes : List ℕ) : Type 0 where
  pub crl : SignedCrl
  pub read : crl_in bytes ≡ Some crl
  pub says : crl.crl
      ≡ crl_value_of (moment_of m) (id_of d.issuer) (number_of d.issuer) (m.entries d.issuer)
  pub vouched : m.vouched d.issuer.key.bytes crl.digest crl.signature ≡ true

-- ---- signed objects

-- A ROA for the origin, under a certificate for the key that signed it.
pub record IsRoa (m : Issuance) (d : Draft) (origin : Origin) (bytes : List ℕ) : Type 0 where
  pub roa : SignedRoa
  pub read : roa_in bytes ≡ Some roa
  pub signed : IsSigned m d.issuer
      (values.roa_certificate (whole m.plan_input m.keys) (there m.keys)
      (new_objects m.plan_input m.keys) d origin roa.certificate.cert.key) (roa_of origin) roa

-- An object that stands in the set: its name in the folder, and its hash.
abbrev pub file_of : Contents → List ℕ → Draft → Option (List ℕ × List ℕ)
file_of new folder d = option_map (λ bytes. (name_in folder d.uri, sha256 bytes)) (new d.uri)

-- By rising name, all other files of the key, of which the trust anchor's own certificate is none
-- (RFC 9286 section 4.2.1).
pub record AreFiles (m : Issuance) (key : KeyRow) (files : List (List ℕ × List ℕ)) : Type 0 where
  pub all : IsPermutation
      (filter_map (file_of m.new (folder_at (whole m.plan_input m.keys) key))
      (filter (is_made_under (whole m.plan_input m.keys) key)
      (drafts (whole m.plan_input m.keys) (there m.keys))))
      files
  pub rising : rises is_name_below (map (λ file. file.0) files) ≡ true

-- A manifest with the next number of its key, under a certificate for the key that signed it.
pub record IsManifest (m : Issuance) (d : Draft) (bytes : List ℕ) : Type 0 where
  pub manifest : SignedManifest
  pub read : manifest_in bytes ≡ Some manifest
  pub files : List (List ℕ × List ℕ)
  pub listed : AreFiles m d.issuer files
  pub signed : IsSigned m d.issuer
      (values.manifest_certificate (whole m.plan_input m.keys) (there m.keys)
      (new_objects m.plan_input m.keys) d manifest.certificate.cert.key)
      (manifest_value_of (moment_of m) (number_of d.issuer) files) manifest

-- ---- the set

abbrev pub IsObject : Issuance → Draft → Kind → List ℕ → Type 0
IsObject m d (Certificate subject held) bytes = IsCertificate m d subject held bytes
IsObject m d (Roa origin) bytes = IsRoa m d origin bytes
IsObject m d Crl bytes = IsCrl m d bytes
IsObject m d Manifest bytes = IsManifest m d bytes

-- What is kept stays as it is. Anything else is made anew.
abbrev pub IsLeft : Issuance → Draft → Bool → Type 0
IsLeft m d true = m.new d.uri ≡ m.old d.uri
IsLeft m d false = (bytes : List ℕ) × (m.new d.uri ≡ Some bytes) × IsObject m d d.kind bytes

abbrev pub IsDone : Issuance → Bool → Option Draft → Type 0
IsDone m is_kept None = ⊤
IsDone m is_kept (Some d) = IsLeft m d is_kept

-- Just what is wanted stands in the new set, each at a place of its own: at no other place there is
-- an object, and of each that is wanted the old one, where it is kept, or one that is made.
pub record IsNewSet (m : Issuance) : Type 0 where
  pub apart : AllPairs (λ a b. a.uri ≢ b.uri) (all_objects m.plan_input m.keys)
  pub places : (uri : List ℕ) → IsSome (m.new uri)
      ↔ Any (λ d. d.uri ≡ uri) (all_objects m.plan_input m.keys)
  pub certificates : All (λ cert. IsDone m (keeps_certificate m.plan_input m.keys cert)
      (certificate_draft (whole m.plan_input m.keys) (there m.keys) cert))
      (all_certificates m.plan_input m.keys)
  pub roas : All (λ roa. IsDone m (keeps_roa m.plan_input m.keys roa)
      (roa_draft (whole m.plan_input m.keys) (there m.keys) roa)) (all_roas m.plan_input m.keys)
  pub crls : All (λ key. IsDone m (keeps_point m.plan_input m.keys key)
      (crl_draft (whole m.plan_input m.keys) (there m.keys) (point_of (kept key)))) m.keys
  pub manifests : All (λ key. IsDone m (keeps_point m.plan_input m.keys key)
      (manifest_draft (whole m.plan_input m.keys) (there m.keys) (point_of (kept key)))) m.keys
