-- The laws of the format of a certificate.
use Rattle.std.proofs.Common.{◌≡◌, ℕ, true, ◌&&◌, leb, Option, List, [], ◌∷◌, length, take, drop, refl, sym, ap, ◌∙◌, inl, inr}
use Rattle.std.specs.Prelude.{slice_index}
use Rattle.std.proofs.lemmas.Bool.{and_parts, and_from, leb-true, le-leb}
use Rattle.sha1.specs.Sha1.{sha1}
use Rattle.sha2.specs.Sha256.{sha256}
use Rattle.signer_api.specs.PublicKey.{IsPublicKey, key_header, key_exponent}
use Rattle.der.specs.Tags as tag
use Rattle.der.specs.Form.{IsWhole, IsFront}
use Rattle.der.specs.Forms.{sole, both, after, preceded, tested, choice, EitherOf}
use Rattle.der.specs.Leaves.{number, octet_bits, are_same}
use Rattle.der.specs.laws.FormLaws.{within-law}
use Rattle.der.specs.laws.SequenceLaws.{after-law, both-law}
use Rattle.der.specs.laws.FrameLaws.{sole-law, preceded-law}
use Rattle.der.specs.laws.ValueLaws.{IsBijection, mapped-law, tested-law}
use Rattle.der.specs.laws.KindLaws.{AreApart, choice-law}
use Rattle.der.specs.laws.LeafLaws.{number-law, constant-law, octet_bits-law, same-self, same-lists}
use Rattle.object_parts.specs.declared.identifiers.TheConstants.{BASIC_CONSTRAINTS, SUBJECT_KEY_IDENTIFIER, AUTHORITY_KEY_IDENTIFIER, KEY_USAGE}
use Rattle.object_parts.specs.TimeFormats.{period}
use Rattle.object_parts.specs.laws.TimeLaws.{period-law}
use Rattle.object_parts.specs.NameFormats.{name}
use Rattle.object_parts.specs.laws.NameLaws.{name-law}
use Rattle.object_parts.specs.FrameFormats.{signature_algorithm, key_algorithm, issuer_key, signed}
use Rattle.object_parts.specs.laws.FrameLaws.{signature_algorithm-law, key_algorithm-law, issuer_key-law, signed-law, same-identifier}
use Rattle.cert_obj.specs.declared.values.CertKind.{CertKind}
use Rattle.cert_obj.specs.declared.values.CertKind.TheVariants.{Anchor, Authority, EndEntity}
use Rattle.cert_obj.specs.Values.{Sets, UriTexts, CertValue, SignedCert, IsHeld, may_hold, AreUris, IsCert}
use Rattle.cert_obj.specs.Extensions.{uri, access, distribution_points, issuer_access_uris}
use Rattle.cert_obj.specs.Extensions.{authority_access_uris, entity_access_uris, basic_constraints}
use Rattle.cert_obj.specs.Extensions.{subject_key, authority_usage, entity_usage, key_usage}
use Rattle.cert_obj.specs.Extensions.{distribution, issuer_information, authority_information}
use Rattle.cert_obj.specs.Extensions.{entity_information, policies}
use Rattle.cert_obj.specs.laws.ExtensionLaws.{basic_constraints-law, subject_key-law, key_usage-law, distribution-law, issuer_information-law, authority_information-law, entity_information-law, policies-law}
use Rattle.cert_obj.specs.Holdings.{held, entity_held}
use Rattle.cert_obj.specs.laws.HoldingLaws.{held-law, entity_held-law}
use Rattle.cert_obj.specs.laws.IdentifierLaws.{sha1-length, sha1-bytes}
use Rattle.cert_obj.specs.Formats.{published, anchor_rest, issued_authority, entity, issued_entity, authority_extensions, entity_extensions, Extended, IsExtended, Kinds, of_kinds, kinds_for, kinds_of, kinds, extensions, is_public_key, is_key_of, key_of, subject, body, version, Parts, of_parts, parts_of, tbs_content, signed_bytes, of_signed, signed_of, IsSignedCert, signed_cert}

-- ---- the extensions of each kind

pub published-law : IsWhole published
unfolding published
published-law =
    both-law authority_information (preceded policies held) authority_information-law
    (preceded-law policies held policies-law tt held-law)

pub anchor_rest-law : IsWhole anchor_rest
unfolding anchor_rest
anchor_rest-law = preceded-law (key_usage authority_usage) published
    (key_usage-law authority_usage) tt published-law

pub issued_authority-law : IsWhole issued_authority
unfolding issued_authority
issued_authority-law =
    preceded-law (key_usage authority_usage)
    (both distribution (both issuer_information published)) (key_usage-law authority_usage) tt
    (both-law distribution (both issuer_information published) distribution-law
    (both-law issuer_information published issuer_information-law published-law))

pub entity-law : IsWhole entity
unfolding entity
entity-law =
    both-law entity_information (preceded policies entity_held) entity_information-law
    (preceded-law policies entity_held policies-law tt entity_held-law)

pub issued_entity-law : IsWhole issued_entity
unfolding issued_entity
issued_entity-law =
    preceded-law (key_usage entity_usage) (both distribution (both issuer_information entity))
    (key_usage-law entity_usage) tt
    (both-law distribution (both issuer_information entity) distribution-law
    (both-law issuer_information entity issuer_information-law entity-law))

-- The third extension tells whether it is the anchor's, and the first whether it is an authority's.
anchor-apart : (issuer : List ℕ)
    → AreApart anchor_rest (preceded (issuer_key issuer) issued_authority)
unfolding anchor_rest
anchor-apart issuer = record {
  apart = λ x y good ok e.
      differ (same-identifier KEY_USAGE AUTHORITY_KEY_IDENTIFIER _ _ (published.spelling x)
      (issued_authority.spelling y) e);
}
  where
    differ : KEY_USAGE ≡ AUTHORITY_KEY_IDENTIFIER → ⊥
    differ e = cc

pub authority_kinds-law : (issuer : List ℕ)
    → IsWhole (choice anchor_rest (preceded (issuer_key issuer) issued_authority))
authority_kinds-law issuer =
    choice-law anchor_rest (preceded (issuer_key issuer) issued_authority) anchor_rest-law
    (preceded-law (issuer_key issuer) issued_authority (issuer_key-law issuer) tt
    issued_authority-law) (anchor-apart issuer)

pub authority_extensions-law : (issuer subject : List ℕ)
    → IsWhole (authority_extensions issuer subject)
unfolding authority_extensions
authority_extensions-law issuer subject =
    preceded-law basic_constraints
    (preceded (subject_key subject)
    (choice anchor_rest (preceded (issuer_key issuer) issued_authority)))
    basic_constraints-law tt
    (preceded-law (subject_key subject)
    (choice anchor_rest (preceded (issuer_key issuer) issued_authority))
    (subject_key-law subject) tt (authority_kinds-law issuer))

pub entity_extensions-law : (issuer subject : List ℕ) → IsWhole (entity_extensions issuer subject)
unfolding entity_extensions
entity_extensions-law issuer subject =
    preceded-law (subject_key subject) (preceded (issuer_key issuer) issued_entity)
    (subject_key-law subject) tt
    (preceded-law (issuer_key issuer) issued_entity (issuer_key-law issuer) tt issued_entity-law)

kinds-apart : (issuer subject : List ℕ)
    → AreApart (authority_extensions issuer subject) (entity_extensions issuer subject)
unfolding authority_extensions entity_extensions
kinds-apart issuer subject = record {
  apart = λ x y good ok e.
      differ (same-identifier BASIC_CONSTRAINTS SUBJECT_KEY_IDENTIFIER _ _
      ((preceded (subject_key subject)
      (choice anchor_rest (preceded (issuer_key issuer) issued_authority))).spelling x)
      ((preceded (issuer_key issuer) issued_entity).spelling y) e);
}
  where
    differ : BASIC_CONSTRAINTS ≡ SUBJECT_KEY_IDENTIFIER → ⊥
    differ e = cc

pub both_kinds-law : (issuer subject : List ℕ)
    → IsWhole (choice (authority_extensions issuer subject) (entity_extensions issuer subject))
both_kinds-law issuer subject =
    choice-law (authority_extensions issuer subject) (entity_extensions issuer subject)
    (authority_extensions-law issuer subject) (entity_extensions-law issuer subject)
    (kinds-apart issuer subject)

abbrev IsKind : List ℕ → List ℕ → Kinds → Type 0
IsKind issuer subject x = EitherOf (authority_extensions issuer subject).good
    (entity_extensions issuer subject).good x

abbrev extended : CertKind → UriTexts → Option Sets → Extended
extended kind uris held = record { kind = kind; held = held; uris = uris }

-- What is told of a kind, and that it is told back.
kind-back : (issuer subject : List ℕ) (kind : CertKind) (u : UriTexts) (h : Option Sets)
    → IsHeld h → may_hold kind h ≡ true → AreUris kind u
    → IsKind issuer subject (kinds_for kind u h)
    × (of_kinds (kinds_for kind u h) ≡ extended kind u h)
unfolding authority_extensions entity_extensions anchor_rest issued_authority issued_entity
    published entity uri access distribution_points issuer_access_uris authority_access_uris
    entity_access_uris
    held entity_held
kind-back issuer subject Anchor u h is fits good = (
  (((tt, good.folder), ((tt, good.manifest), (tt, good.notify))), is),
  λ i. extended Anchor
      (record {
        crl = sym good.crl i;
        issuer = sym good.issuer i;
        folder = u.folder;
        manifest = u.manifest;
        notify = u.notify;
        object = sym good.object i;
      }) h,
)
kind-back issuer subject Authority u h is fits good = (
  (
    (tt, good.crl),
    ((tt, good.issuer), (((tt, good.folder), ((tt, good.manifest), (tt, good.notify))), is)),
  ),
  λ i. extended Authority
      (record {
        crl = u.crl;
        issuer = u.issuer;
        folder = u.folder;
        manifest = u.manifest;
        notify = u.notify;
        object = sym good.object i;
      }) h,
)
kind-back issuer subject EndEntity u h is fits good = (
  ((tt, good.crl), ((tt, good.issuer), ((tt, good.object), (is, fits)))),
  λ i. extended EndEntity
      (record {
        crl = u.crl;
        issuer = u.issuer;
        folder = sym good.folder i;
        manifest = sym good.manifest i;
        notify = sym good.notify i;
        object = u.object;
      }) h,
)

kind-there : (issuer subject : List ℕ) (x : Kinds) → IsKind issuer subject x
    → IsExtended (of_kinds x) × (kinds_of (of_kinds x) ≡ x)
unfolding authority_extensions entity_extensions anchor_rest issued_authority issued_entity
    published entity uri access distribution_points issuer_access_uris authority_access_uris
    entity_access_uris
    held entity_held
kind-there issuer subject (inl (inl p)) good = (
  record {
    held = good.1;
    fitting = refl;
    uris = record {
      crl = refl;
      issuer = refl;
      folder = good.0.0.1;
      manifest = good.0.1.0.1;
      notify = good.0.1.1.1;
      object = refl;
    };
  },
  refl,
)
kind-there issuer subject (inl (inr x)) good = (
  record {
    held = good.1.1.1;
    fitting = refl;
    uris = record {
      crl = good.0.1;
      issuer = good.1.0.1;
      folder = good.1.1.0.0.1;
      manifest = good.1.1.0.1.0.1;
      notify = good.1.1.0.1.1.1;
      object = refl;
    };
  },
  refl,
)
kind-there issuer subject (inr x) good = (
  record {
    held = good.1.1.1.0;
    fitting = good.1.1.1.1;
    uris = record {
      crl = good.0.1;
      issuer = good.1.0.1;
      folder = refl;
      manifest = refl;
      notify = refl;
      object = good.1.1.0.1;
    };
  },
  refl,
)

pub kinds-law : (issuer subject : List ℕ) → IsWhole (kinds issuer subject)
unfolding kinds
kinds-law issuer subject =
    mapped-law (choice (authority_extensions issuer subject) (entity_extensions issuer subject))
    of_kinds kinds_of IsExtended (both_kinds-law issuer subject)
    (record {
      back = λ e good. kind-back issuer subject e.kind e.uris e.held good.held
          good.fitting good.uris;
      there = λ x good. kind-there issuer subject x good;
    })

pub extensions-law : (issuer subject : List ℕ) → IsWhole (extensions issuer subject)
unfolding extensions
extensions-law issuer subject =
    sole-law tag.context_3 (sole tag.sequence (kinds issuer subject))
    (sole-law tag.sequence (kinds issuer subject) (kinds-law issuer subject))

-- ---- the certificate

pub key-tested : (bytes : List ℕ) → IsPublicKey bytes → is_public_key bytes ≡ true
unfolding is_public_key
key-tested bytes is =
    let header : are_same (take 9 bytes) key_header ≡ true =
    ap (λ (l : List ℕ). are_same l key_header) is.header ∙ same-self key_header in
    let exponent : are_same (drop 265 bytes) key_exponent ≡ true =
    ap (λ (l : List ℕ). are_same l key_exponent) is.exponent ∙ same-self key_exponent in
    and_from _ _ (and_from _ _ header (le-leb 128 (slice_index bytes 9) is.modulus)) exponent

pub tested-key : (bytes : List ℕ) → length bytes ≡ 270 → is_public_key bytes ≡ true
    → IsPublicKey bytes
unfolding is_public_key
tested-key bytes long e =
    let a = and_parts (are_same (take 9 bytes) key_header && leb 128 (slice_index bytes 9))
    (are_same (drop 265 bytes) key_exponent) e in
    let b = and_parts (are_same (take 9 bytes) key_header) (leb 128 (slice_index bytes 9)) a.0 in
    record {
      whole = long;
      header = same-lists _ _ b.0;
      modulus = leb-true _ _ b.1;
      exponent = same-lists _ _ a.1;
    }

pub key_of-law : (subject : List ℕ) → IsFront (key_of subject)
unfolding key_of
key_of-law subject =
    within-law tag.sequence
    (preceded key_algorithm
    (sole tag.bit_string (tested (octet_bits 270) (is_key_of subject))))
    (preceded-law key_algorithm
    (sole tag.bit_string (tested (octet_bits 270) (is_key_of subject))) key_algorithm-law tt
    (sole-law tag.bit_string (tested (octet_bits 270) (is_key_of subject))
    (tested-law (octet_bits 270) (is_key_of subject) (octet_bits-law 270))))

pub subject-law : (issuer : List ℕ) → IsWhole (subject issuer)
unfolding subject
subject-law issuer =
    after-law name (λ key. both (key_of key) (extensions issuer key)) name-law
    (λ key good. both-law (key_of key) (extensions issuer key) (key_of-law key)
    (extensions-law issuer key))

pub body-law : (issuer : List ℕ) → IsWhole (body issuer)
unfolding body
body-law issuer = both-law period (subject issuer) period-law (subject-law issuer)

abbrev IsParts : Parts → Type 0
IsParts x = (both number (preceded signature_algorithm (after name body))).good x

cert-back : (c : CertValue) → IsCert c → IsParts (parts_of c) × (of_parts (parts_of c) ≡ c)
unfolding name period body subject key_of extensions kinds
cert-back c good = (
  (
    good.serial,
    (
      good.issuer,
      (
        (good.not_before, good.not_after),
        (
          (sha1-length c.key, sha1-bytes c.key),
          (
            (good.key.whole, and_from _ _ (same-self (sha1 c.key)) (key-tested c.key good.key)),
            record { held = good.held; fitting = good.fitting; uris = good.uris },
          ),
        ),
      ),
    ),
  ),
  refl,
)

abbrev with_subject : Parts → List ℕ → Parts
with_subject x s = (x.0, (x.1.0, (x.1.1.0, (s, x.1.1.1.1))))

cert-there : (x : Parts) → IsParts x → IsCert (of_parts x) × (parts_of (of_parts x) ≡ x)
unfolding name period body subject key_of extensions kinds
cert-there x good =
    let key : List ℕ = x.1.1.1.1.0 in
    let tests = and_parts (are_same (sha1 key) x.1.1.1.0) (is_public_key key) good.1.1.1.1.0.1 in (
      record {
        serial = good.0;
        issuer = good.1.0;
        not_before = good.1.1.0.0;
        not_after = good.1.1.0.1;
        key = tested-key key good.1.1.1.1.0.0 tests.1;
        held = good.1.1.1.1.1.held;
        fitting = good.1.1.1.1.1.fitting;
        uris = good.1.1.1.1.1.uris;
      },
      ap (with_subject x) (same-lists (sha1 key) x.1.1.1.0 tests.0),
    )

pub tbs_content-law : IsWhole tbs_content
unfolding tbs_content
tbs_content-law =
    mapped-law (preceded version (both number (preceded signature_algorithm (after name body))))
    of_parts parts_of IsCert
    (preceded-law version (both number (preceded signature_algorithm (after name body)))
    (constant-law tag.context_0 (0x02 ∷ 0x01 ∷ 0x02 ∷ [])) tt
    (both-law number (preceded signature_algorithm (after name body)) number-law
    (preceded-law signature_algorithm (after name body) signature_algorithm-law tt
    (after-law name body name-law (λ issuer good. body-law issuer)))))
    (record { back = cert-back; there = cert-there })

abbrev with_digest : SignedCert → List ℕ → SignedCert
with_digest y digest = record { cert = y.cert; digest = digest; signature = y.signature }

abbrev with_bytes : CertValue × List ℕ × List ℕ → List ℕ → CertValue × List ℕ × List ℕ
with_bytes x bytes = (x.0, bytes, x.2)

signed-parts : IsBijection (signed tbs_content).good of_signed signed_of IsSignedCert
unfolding tbs_content signed_bytes
signed-parts = record {
  back = λ y good. ((good.cert, refl, good.signature), ap (with_digest y) (sym good.digest));
  there = λ x good. (
    record { cert = good.0; digest = ap sha256 good.1; signature = good.2 },
    ap (with_bytes x) (sym good.1),
  );
}

pub signed_cert-law : IsWhole signed_cert
unfolding signed_cert
signed_cert-law = mapped-law (signed tbs_content) of_signed signed_of IsSignedCert
    (signed-law tbs_content tbs_content-law) signed-parts
