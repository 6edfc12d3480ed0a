-- The publication point of a key is accepted.
use Rattle.std.proofs.Common.{◌≡◌, ◌≢◌, ℕ, ◌+◌, Bool, true, false, ◌||◌, is_none, arith, Some, List, [], ◌∷◌, ◌++◌, Ok, map, codes, refl, sym, ap, ◌∙◌}
use Rattle.std.specs.Prelude.{nat_le}
use Rattle.std.specs.Str.{bytes_eq}
use Rattle.std.proofs.lemmas.Bool.{and_from, not_from_false, false_from_ne_true, eq-eqb, le-leb}
use Rattle.std.proofs.lemmas.List.Folds.{list_any-append}
use Rattle.std.proofs.lemmas.Slice.Eq.{bytes_eq-Decides}
use Rattle.hex.specs.Hex.{encode_lower}
use Rattle.sha1.specs.Sha1.{sha1}
use Rattle.sha2.specs.Sha256.{sha256}
use Rattle.key_ids.specs.Uris.{folder_of, crl_uri, manifest_uri}
use Rattle.key_roll.specs.declared.rows.RevokedRow.{RevokedRow}
use Rattle.cert_obj.specs.Values.{Sets, CertValue}
use Rattle.crl_obj.specs.Values.{CrlValue, SignedCrl}
use Rattle.payloads.specs.ManifestFormats.{Manifest}
use Rattle.pub_set.specs.Changes.{Contents}
use Rattle.rp_rules.specs.declared.rules.Rule.TheVariants as rule
use Rattle.rp_rules.specs.Checks.{Checked, ◌>>=◌, tested, found}
use Rattle.rp_rules.specs.Objects.{SignedManifest, manifest_in, crl_in}
use Rattle.rp_rules.specs.Authorities.{Authority, key_id}
use Rattle.rp_rules.specs.Certificates.{WalkContext, File, lies_in, is_valid_at, names_issuer, has_issuer_uris, is_among, is_revoked, is_signed_under, listed_bytes}
use Rattle.rp_rules.specs.Points.{Point, crl_file, is_list, manifest_tests, accepted_manifest, crl_tests, accepted_crl, point_tests, accepted_point}
use Rattle.issue_values.specs.Publishers.{Publishing}
use Rattle.issue_values.specs.Certificates.{manifest_certificate, point_life}
use Rattle.issue_values.specs.Bodies.{crl_entry, crl_value_of, manifest_value_of}
use Rattle.editions.proofs.WalkLemmas.Checks.{AllKept, tested-kept, found-there, handed-on}

-- ---- a key

-- A key as certificates see it: by its bytes, its authority's name, and the URI of its certificate.
pub record Seat : Type 0 where
  pub key : List ℕ
  pub name : List ℕ
  pub certificate : List ℕ

abbrev pub publishing : Seat → Publishing
publishing k = record {
  key = k.key;
  id = sha1 k.key;
  name = k.name;
  certificate = k.certificate;
}

-- The authority of a certificate that says so, and else what the value says.
abbrev pub authority_with : WalkContext → Seat → CertValue → Sets → Authority
authority_with s k value held = record {
  uri = k.certificate;
  cert = record value {
    key = k.key;
    uris = record value.uris {
      folder = folder_of s.bases k.name;
      manifest = manifest_uri s.bases k.name (sha1 k.key);
    };
  };
  held = held;
}

pub same-bytes : (bytes : List ℕ) → bytes_eq bytes bytes ≡ true
same-bytes bytes = (bytes_eq-Decides bytes bytes).1 refl

both-not : (a b : Bool) → a ≡ false → b ≡ false → (a || b) ≡ false
both-not true b e f = absurd cc
both-not false b e f = f

-- One more that is another.
pub among-one : (uris : List (List ℕ)) (one uri : List ℕ) → is_among uris uri ≡ false → one ≢ uri
    → is_among (uris ++ one ∷ []) uri ≡ false
among-one uris one uri new apart =
    list_any-append (λ other. bytes_eq other uri) uris (one ∷ [])
    ∙ both-not (is_among uris uri) (is_among (one ∷ []) uri) new
    (both-not (bytes_eq one uri) false
    (false_from_ne_true (bytes_eq one uri) (λ t. apart ((bytes_eq-Decides one uri).0 t))) refl)

pub lies-in : (moment life : ℕ) → lies_in moment moment (moment + life) ≡ true
lies-in moment life =
    and_from (nat_le moment moment) (nat_le moment (moment + life))
    (le-leb moment moment (omega arith)) (le-leb moment (moment + life) (omega arith))

-- ---- what stands

abbrev pub crl_at : WalkContext → Seat → List ℕ
crl_at s k = crl_uri s.bases k.name (sha1 k.key)

abbrev pub manifest_at : WalkContext → Seat → List ℕ
manifest_at s k = manifest_uri s.bases k.name (sha1 k.key)

-- The CRL of that moment and number, with these entries.
pub record HasCrl (s : WalkContext) (k : Seat) (held : Contents) (made number : ℕ) (revoked : List RevokedRow)
    : Type 0 where
  pub bytes : List ℕ
  pub there : held (crl_at s k) ≡ Some bytes
  pub crl : SignedCrl
  pub read : crl_in bytes ≡ Some crl
  pub says : crl.crl ≡ crl_value_of made (sha1 k.key) number revoked
  pub issued : s.vouched k.key crl.digest crl.signature ≡ true

-- The manifest of that moment and number, with these files. Its certificate has none of these entries.
pub record HasManifest (s : WalkContext) (k : Seat) (held : Contents) (made number : ℕ)
    (revoked : List RevokedRow) (files : List File) : Type 0 where
  pub bytes : List ℕ
  pub there : held (manifest_at s k) ≡ Some bytes
  pub manifest : SignedManifest
  pub read : manifest_in bytes ≡ Some manifest
  pub body : manifest.body ≡ manifest_value_of made number files
  pub serial : ℕ
  pub says : manifest.certificate.cert ≡ manifest_certificate s.bases made (publishing k)
      manifest.certificate.cert.key serial
  pub issued : s.vouched k.key manifest.certificate.digest manifest.certificate.signature ≡ true
  pub signer : manifest.object.signer ≡ sha1 manifest.certificate.cert.key
  pub signed :
      s.vouched manifest.certificate.cert.key manifest.object.digest manifest.object.signature
      ≡ true
  pub unrevoked : is_revoked (map crl_entry revoked) manifest.certificate.cert.serial ≡ false

-- How the CRL is listed.
abbrev pub crl_listed : Seat → List ℕ → File
crl_listed k bytes = (encode_lower (sha1 k.key) ++ codes ".crl", sha256 bytes)

-- ---- it is accepted

module _ (s : WalkContext) (k : Seat) (value : CertValue) (sets : Sets) (held : Contents) (made number : ℕ)
    (revoked : List RevokedRow) (files : List File) (crl : HasCrl s k held made number revoked)
    (m : HasManifest s k held made number revoked files)
    (time : lies_in s.moment made (made + point_life) ≡ true)
    (other : manifest_at s k ≢ crl_at s k)
    (listed : is_list (authority_with s k value sets) (manifest_value_of made number files) ≡ true)
    (first : crl_file (manifest_value_of made number files) ≡ Some (crl_listed k crl.bytes)) where
  abbrev authority : Authority
  authority = authority_with s k value sets

  abbrev uri : List ℕ
  uri = manifest_at s k

  abbrev cert : CertValue
  cert = m.manifest.certificate.cert

  abbrev own : CertValue
  own = manifest_certificate s.bases made (publishing k) cert.key m.serial

  placed : has_issuer_uris authority own ≡ true
  placed = and_from (bytes_eq (crl_at s k) (crl_at s k))
      (bytes_eq k.certificate k.certificate)
      (same-bytes (crl_at s k)) (same-bytes k.certificate)

  -- Where neither is visited yet.
  module _ (before : List (List ℕ)) (fresh : is_among before (manifest_at s k) ≡ false)
      (fresh_crl : is_among before (crl_at s k) ≡ false) where
    manifest-kept : AllKept (manifest_tests s authority before m.manifest)
    manifest-kept = (
      and_from (is_signed_under s authority m.manifest.certificate)
          (s.vouched cert.key m.manifest.object.digest m.manifest.object.signature)
          m.issued m.signed,
      (
        and_from (names_issuer authority cert) (bytes_eq m.manifest.object.signer (key_id cert))
            (ap (names_issuer authority) m.says ∙ same-bytes (sha1 k.key))
            ((bytes_eq-Decides m.manifest.object.signer (key_id cert)).1 m.signer),
        (
          and_from (is_valid_at s.moment cert)
              (lies_in s.moment m.manifest.body.1.0 m.manifest.body.1.1.0)
              (ap (is_valid_at s.moment) m.says ∙ time)
              (ap (λ (b : Manifest). lies_in s.moment b.1.0 b.1.1.0) m.body
              ∙ time),
          (
            ap (λ (c : CertValue). is_none c.held) m.says,
            (
              and_from (has_issuer_uris authority cert) (bytes_eq cert.uris.object uri)
                  (ap (has_issuer_uris authority) m.says ∙ placed)
                  (ap (λ (c : CertValue). bytes_eq c.uris.object uri) m.says ∙ same-bytes uri),
              (
                ap (is_list authority) m.body ∙ listed,
                (
                  not_from_false (is_among before uri) fresh,
                  tt,
                ),
              ),
            ),
          ),
        ),
      ),
    )

    manifest-accepted : accepted_manifest s held authority before ≡ Ok m.manifest
    unfolding accepted_manifest
    manifest-accepted =
        let test : SignedManifest → Checked SignedManifest = λ x.
        tested uri (manifest_tests s authority before x) x in
        let shaped : List ℕ → Checked SignedManifest = λ bytes.
        found uri rule.Shape (manifest_in bytes) >>= test in
        handed-on (found uri rule.Missing (held uri)) m.bytes shaped
        (found-there uri rule.Missing (held uri) m.bytes m.there)
        ∙ (handed-on (found uri rule.Shape (manifest_in m.bytes)) m.manifest test
        (found-there uri rule.Shape (manifest_in m.bytes) m.manifest m.read)
        ∙ tested-kept uri (manifest_tests s authority before m.manifest) m.manifest manifest-kept)

    -- ---- the CRL

    abbrev file : File
    file = crl_listed k crl.bytes

    abbrev visited : List (List ℕ)
    visited = before ++ uri ∷ []

    crl-kept : AllKept (crl_tests s authority visited (crl_at s k) crl.crl)
    crl-kept = (
      crl.issued,
      (
        ap (λ (v : CrlValue). bytes_eq v.issuer (sha1 k.key)) crl.says
            ∙ same-bytes (sha1 k.key),
        (
          ap (λ (v : CrlValue). lies_in s.moment v.this_update v.next_update) crl.says
              ∙ time,
          (
            same-bytes (crl_at s k),
            (
              not_from_false (is_among visited (crl_at s k))
                  (among-one before uri (crl_at s k) fresh_crl other),
              tt,
            ),
          ),
        ),
      ),
    )

    listed-crl : listed_bytes held (crl_at s k) file ≡ Ok crl.bytes
    unfolding listed_bytes
    listed-crl =
        let test : List ℕ → Checked (List ℕ) = λ bytes.
        tested (crl_at s k) ((rule.Hash, bytes_eq (sha256 bytes) file.1) ∷ []) bytes in
        handed-on (found (crl_at s k) rule.Missing (held (crl_at s k))) crl.bytes test
        (found-there (crl_at s k) rule.Missing (held (crl_at s k)) crl.bytes crl.there)
        ∙ tested-kept (crl_at s k) ((rule.Hash, bytes_eq (sha256 crl.bytes) file.1) ∷ []) crl.bytes
        (same-bytes (sha256 crl.bytes), tt)

    crl-accepted : accepted_crl s held authority visited file ≡ Ok crl.crl.crl
    unfolding accepted_crl
    crl-accepted =
        let test : SignedCrl → Checked CrlValue = λ c.
        tested (crl_at s k) (crl_tests s authority visited (crl_at s k) c) c.crl in
        let shaped : List ℕ → Checked CrlValue = λ bytes.
        found (crl_at s k) rule.Shape (crl_in bytes) >>= test in
        handed-on (listed_bytes held (crl_at s k) file) crl.bytes shaped listed-crl
        ∙ (handed-on (found (crl_at s k) rule.Shape (crl_in crl.bytes)) crl.crl test
        (found-there (crl_at s k) rule.Shape (crl_in crl.bytes) crl.crl crl.read)
        ∙ tested-kept (crl_at s k) (crl_tests s authority visited (crl_at s k) crl.crl)
        crl.crl.crl crl-kept)

    -- ---- both

    abbrev pub point : Point
    point = record { authority = authority; manifest = m.manifest; crl = crl.crl.crl }

    point-kept : AllKept (point_tests m.manifest crl.crl.crl)
    point-kept = (
      not_from_false (is_revoked crl.crl.crl.entries cert.serial)
          (ap (λ (v : CrlValue). is_revoked v.entries cert.serial) crl.says ∙ m.unrevoked),
      (
        eq-eqb crl.crl.crl.number m.manifest.body.0
            (ap (λ (v : CrlValue). v.number) crl.says
            ∙ sym (ap (λ (b : Manifest). b.0) m.body)),
        tt,
      ),
    )

    pub point-accepted : accepted_point s held authority before ≡ Ok point
    unfolding accepted_point
    point-accepted =
        let with_crl : SignedManifest → CrlValue → Checked Point = λ x c.
        tested uri (point_tests x c) (record { authority = authority; manifest = x; crl = c }) in
        let with_file : SignedManifest → File → Checked Point = λ x f.
        accepted_crl s held authority visited f >>= with_crl x in
        let with_manifest : SignedManifest → Checked Point = λ x.
        found uri rule.List (crl_file x.body) >>= with_file x in
        handed-on (accepted_manifest s held authority before) m.manifest with_manifest manifest-accepted
        ∙ (handed-on (found uri rule.List (crl_file m.manifest.body)) file (with_file m.manifest)
        (found-there uri rule.List (crl_file m.manifest.body) file (ap crl_file m.body ∙ first))
        ∙ (handed-on (accepted_crl s held authority visited file) crl.crl.crl (with_crl m.manifest)
        crl-accepted
        ∙ tested-kept uri (point_tests m.manifest crl.crl.crl) point point-kept))
