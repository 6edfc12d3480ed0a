-- Which edition made what stands, and what of its objects no later look breaks (RFC 6487 section
-- 7.2, RFC 6488 section 3, RFC 9286 section 6).
use Rattle.std.specs.Prelude.{◌≡◌, ℕ, ◌+◌, ◌≤◌, ◌<◌, true, false, List, [], ◌∷◌, ◌++◌, length}
use Rattle.std.specs.Prelude.{take, slice_get, Some, IsSome, All, Contains, ◌≢◌, codes}
use Rattle.der.specs.Grammar.{AreBytes}
use Rattle.origins.specs.declared.Origin.{Origin}
use Rattle.res_sets.specs.declared.holdings.Resources.{Resources}
use Rattle.key_ids.specs.Uris.{Bases, folder_of, manifest_uri}
use Rattle.authority_book.specs.declared.rows.NameRow.{NameRow}
use Rattle.key_roll.specs.declared.rows.KeyRow.{KeyRow}
use Rattle.cert_obj.specs.Values.{SignedCert, sets_of}
use Rattle.crl_obj.specs.Values.{SignedCrl}
use Rattle.pub_set.specs.Changes.{Contents}
use Rattle.rp_rules.specs.Objects.{SignedManifest, SignedRoa, certificate_in}
use Rattle.rp_rules.specs.Authorities.{Authority}
use Rattle.rp_rules.specs.Certificates.{WalkContext, VouchesMore, lies_in, is_valid_at}
use Rattle.rp_rules.specs.Points.{is_current, is_list}
use Rattle.rp_rules.specs.Lasting.{IsLastingAnchor, IsLastingCertificate, IsLastingCrl}
use Rattle.rp_rules.specs.Lasting.{IsLastingManifest, IsLastingRoa}
use Rattle.issue_values.specs.Publishers.{Publishing}
use Rattle.issue_values.specs.Certificates.{certificate_life, point_life, prefix_sets}
use Rattle.issue_values.specs.Bodies.{roa_of}
use Rattle.issue_keys.specs.Keys.{id_of}
use Rattle.issue_drafts.specs.Publishers.{is_key, name_at, publishing_of}
use Rattle.issue_drafts.specs.Drafts.{Draft, Kind}
use Rattle.issue_drafts.specs.Drafts.Kind.{Certificate, Roa, Crl, Manifest}
use Rattle.editions.specs.Edition.{Edition, state_after, set_after}
use Rattle.editions.specs.Clear.{IsElsewhere}
use Rattle.editions.specs.Wanted.{there, whole, all_objects}
use Rattle.editions.specs.Objects.{Issuance, IsObject}
use Rattle.editions.specs.Step.{Premises, IsStep, plan_input_at}

-- ---- keys

-- The same key, of the same authority and signer, whatever its role and its counters.
pub record IsSameKey (one other : KeyRow) : Type 0 where
  pub key : other.key ≡ one.key
  pub desk : other.desk ≡ one.desk
  pub signer : other.signer ≡ one.signer

-- ---- by whom, and since when

-- An edition that follows others, as its objects see it.
abbrev pub issuance_of : (premises : Premises) (clock : ℕ) (editions : List Edition)
    (edition : Edition)
    → IsStep premises clock editions edition → Issuance
issuance_of premises clock editions edition step = record {
  vouched = premises.vouched;
  plan_input =
      plan_input_at premises (state_after editions) edition step.sets step.owed step.issued;
  keys = step.made.keys;
  entries = step.made.entries;
  old = set_after editions;
  new = set_after (editions ++ edition ∷ []);
}

-- The edition at the position made the object, for a draft of what it wanted at the URI, and it
-- stands there unchanged since then.
pub record IsMadeIn (premises : Premises) (editions : List Edition) (uri bytes : List ℕ)
    (position : ℕ) : Type 0 where
  pub edition : Edition
  pub there : slice_get editions position ≡ Some edition
  pub clock : ℕ
  pub step : IsStep premises clock (take position editions) edition
  pub draft : Draft
  pub wanted : Contains (all_objects
      (issuance_of premises clock (take position editions) edition step).plan_input
      step.made.keys) draft
  pub place : draft.uri ≡ uri
  pub object : IsObject (issuance_of premises clock (take position editions) edition step)
      draft draft.kind bytes
  pub since : (later : ℕ) → position ≤ later → later < length editions
      → set_after (take (later + 1) editions) uri ≡ Some bytes

abbrev pub WasMade : Premises → List Edition → List ℕ → List ℕ → Type 0
WasMade premises editions uri bytes =
    (position : ℕ) × IsMadeIn premises editions uri bytes position

-- ---- later looks

-- A look at the repository of an edition, at whatever moment, with no less vouched.
pub record LooksAt (m : Issuance) (s : WalkContext) : Type 0 where
  pub bases : s.bases ≡ m.plan_input.site
  pub vouched : VouchesMore m.vouched s.vouched

-- The key as the edition publishes it.
abbrev pub published_key : Issuance → KeyRow → Publishing
published_key m key = publishing_of (whole m.plan_input m.keys) (there m.keys) key

-- The authority is that of the key, at the places that it has in the edition, whatever else its
-- certificate says.
pub record IsAuthorityOf (m : Issuance) (row : KeyRow) (authority : Authority) : Type 0 where
  pub key : authority.cert.key ≡ row.key.bytes
  pub uri : authority.uri ≡ (published_key m row).certificate
  pub folder :
      authority.cert.uris.folder ≡ folder_of m.plan_input.site (published_key m row).name
  pub manifest : authority.cert.uris.manifest
      ≡ manifest_uri m.plan_input.site (published_key m row).name (id_of row)

-- ---- what lasts of an object

-- The trust anchor's certificate, with these resources, for 52 weeks from the moment on.
pub record LastsAsAnchor (s : WalkContext) (held : Resources) (made : ℕ) (bytes : List ℕ)
    : Type 0 where
  pub certificate : SignedCert
  pub lasting : IsLastingAnchor s bytes certificate
  pub resources : certificate.cert.held ≡ Some (sets_of held)
  pub time : (moment : ℕ)
      → is_valid_at moment certificate.cert ≡ lies_in moment made (made + certificate_life)

-- The certificate of another authority's key.
pub record LastsAsCertificate (s : WalkContext) (issuer : Authority) (uri : List ℕ)
    (held : Resources)
    (made : ℕ) (bytes : List ℕ) : Type 0 where
  pub certificate : SignedCert
  pub lasting : IsLastingCertificate s issuer uri bytes certificate
  pub resources : certificate.cert.held ≡ Some (sets_of held)
  pub time : (moment : ℕ)
      → is_valid_at moment certificate.cert ≡ lies_in moment made (made + certificate_life)

-- The ROA of an origin, whose certificate holds exactly the prefix.
pub record LastsAsRoa (s : WalkContext) (issuer : Authority) (uri : List ℕ) (origin : Origin)
    (made : ℕ)
    (bytes : List ℕ) : Type 0 where
  pub roa : SignedRoa
  pub lasting : IsLastingRoa s issuer uri bytes roa
  pub body : roa.body ≡ roa_of origin
  pub resources : roa.certificate.cert.held ≡ Some (prefix_sets origin.prefix)
  pub time : (moment : ℕ) → is_valid_at moment roa.certificate.cert
      ≡ lies_in moment made (made + certificate_life)

-- A CRL, for a day from the moment on.
pub record LastsAsCrl (s : WalkContext) (issuer : Authority) (uri : List ℕ) (made : ℕ)
    (bytes : List ℕ) : Type 0 where
  pub crl : SignedCrl
  pub lasting : IsLastingCrl s issuer uri bytes crl
  pub time : (moment : ℕ) → lies_in moment crl.crl.this_update crl.crl.next_update
      ≡ lies_in moment made (made + point_life)

-- A manifest, if what it lists is a list.
pub record LastsAsManifest (s : WalkContext) (issuer : Authority) (made : ℕ) (bytes : List ℕ)
    : Type 0 where
  pub manifest : SignedManifest
  pub lasting : is_list issuer manifest.body ≡ true → IsLastingManifest s issuer bytes manifest
  pub time : (moment : ℕ)
      → is_current moment manifest ≡ lies_in moment made (made + point_life)

-- So what is made for a draft. Of the trust anchor's certificate it is said under the anchor's own
-- key and in its folder.
abbrev pub LastsAs : WalkContext → Authority → ℕ → Draft → Kind → List ℕ → Type 0
LastsAs s issuer made d (Certificate subject held) bytes =
    (is_key d.issuer subject ≡ true → issuer.cert.key ≡ s.anchor
    → issuer.cert.uris.folder ≡ folder_of s.bases (codes "ta") → LastsAsAnchor s held made bytes)
    × (is_key d.issuer subject ≡ false → LastsAsCertificate s issuer d.uri held made bytes)
LastsAs s issuer made d (Roa origin) bytes = LastsAsRoa s issuer d.uri origin made bytes
LastsAs s issuer made d Crl bytes = LastsAsCrl s issuer d.uri made bytes
LastsAs s issuer made d Manifest bytes = LastsAsManifest s issuer made bytes

-- ---- places

-- At the places of keys that aren't live nothing stands.
abbrev pub AreClear : Bases → List KeyRow → Contents → Type 0
AreClear site rows set = (id uri : List ℕ) → AreBytes id → All (λ key. id_of key ≢ id) rows
    → IsSome (set uri) → IsElsewhere site id uri

-- Each certificate is that of a live key, and names the folder of the key's authority.
abbrev pub AreAtHome : Bases → List NameRow → List KeyRow → Contents → Type 0
AreAtHome site names rows set = (uri bytes : List ℕ) (certificate : SignedCert)
    → set uri ≡ Some bytes → certificate_in bytes ≡ Some certificate
    → (key : KeyRow) × Contains rows key × (key.key.bytes ≡ certificate.cert.key)
    × (certificate.cert.uris.folder ≡ folder_of site (name_at names key.desk))
