-- Accepted certificates (RFC 6487 section 7).
use Rattle.std.specs.Prelude.{◌≡◌, ℕ, ◌==◌, Bool, true, not, ◌&&◌, nat_le, is_some, List, [], ◌∷◌, Option, codes}
use Rattle.std.specs.List.{list_any}
use Rattle.std.specs.Str.{bytes_eq}
use Rattle.sha2.specs.Sha256.{sha256}
use Rattle.key_ids.specs.Uris.{Bases, anchor_uri, folder_of, notify_uri}
use Rattle.pub_set.specs.Changes.{Contents}
use Rattle.cert_obj.specs.Values.{Sets, CertValue, SignedCert}
use Rattle.crl_obj.specs.declared.values.CrlEntry.{CrlEntry}
use Rattle.rp_rules.specs.declared.rules.Rule.TheVariants as rule
use Rattle.rp_rules.specs.Checks.{Checked, Test, ◌>>=◌, tested, found}
use Rattle.rp_rules.specs.Objects.{such, certificate_in, is_anchors, is_authoritys}
use Rattle.rp_rules.specs.Holdings.{are_inside, no_sets, held_under}
use Rattle.rp_rules.specs.Authorities.{Authority, key_id, crl_uri_of, certificate_uri_of}
use Rattle.rp_rules.specs.Authorities.{manifest_in_folder, listed_uri, is_folder}

-- Whether a signature of a digest is vouched under a key.
abbrev pub Vouched : Type 0
Vouched = List ℕ → List ℕ → List ℕ → Bool

-- How a set is looked at: which signatures are vouched, the anchor's key, the bases, the moment.
-- The moment is in seconds since 1970.
pub record WalkContext : Type 0 where
  pub vouched : Vouched
  pub anchor : List ℕ
  pub bases : Bases
  pub moment : ℕ

-- The same, with other signatures vouched.
abbrev pub vouching : WalkContext → Vouched → WalkContext
vouching s vouched = record s { vouched = vouched }

-- What the one vouches the other vouches too.
abbrev pub VouchesMore : Vouched → Vouched → Type 0
VouchesMore less more = (key digest signature : List ℕ)
    → less key digest signature ≡ true → more key digest signature ≡ true

-- ---- what several kinds of objects have to keep

-- The moment is neither before the first second nor after the last.
abbrev pub lies_in : ℕ → ℕ → ℕ → Bool
lies_in moment first last = nat_le first moment && nat_le moment last

-- Validity (RFC 5280 section 4.1.2.5).
abbrev pub is_valid_at : ℕ → CertValue → Bool
is_valid_at moment cert = lies_in moment cert.not_before cert.not_after

-- Signed under the issuer's key, whose identifier the issuer's name has.
abbrev pub is_signed_under : WalkContext → Authority → SignedCert → Bool
is_signed_under s issuer c = s.vouched issuer.cert.key c.digest c.signature

abbrev pub names_issuer : Authority → CertValue → Bool
names_issuer issuer cert = bytes_eq cert.issuer (key_id issuer.cert)

-- The places of the issuer's CRL and certificate (RFC 6487 sections 4.8.6 and 4.8.7).
abbrev pub has_issuer_uris : Authority → CertValue → Bool
has_issuer_uris issuer cert =
    bytes_eq cert.uris.crl (crl_uri_of issuer) && bytes_eq cert.uris.issuer issuer.uri

abbrev pub is_among : List (List ℕ) → List ℕ → Bool
is_among uris uri = list_any (λ other. bytes_eq other uri) uris

abbrev pub is_revoked : List CrlEntry → ℕ → Bool
is_revoked entries serial = list_any (λ (e : CrlEntry). e.serial == serial) entries

-- ---- the anchor's certificate (RFC 8630 section 2.3)

-- Its own places: the folder and the manifest of `ta`, and the notification file (RFC 6487
-- section 4.8.8.1).
abbrev pub has_anchor_uris : Bases → CertValue → Bool
has_anchor_uris bases cert =
    bytes_eq cert.uris.folder (folder_of bases (codes "ta"))
    && bytes_eq cert.uris.manifest (manifest_in_folder (folder_of bases (codes "ta")) cert)
    && bytes_eq cert.uris.notify (notify_uri bases)

-- It is signed by its own key, which is the one handed in, and doesn't inherit.
abbrev pub anchor_tests : WalkContext → SignedCert → List Test
anchor_tests s c =
    (rule.Signature, s.vouched s.anchor c.digest c.signature)
    ∷ (rule.Identity, bytes_eq c.cert.issuer (key_id c.cert) && bytes_eq c.cert.key s.anchor)
    ∷ (rule.Time, is_valid_at s.moment c.cert)
    ∷ (rule.Resources, is_some c.cert.held)
    ∷ (rule.Place, has_anchor_uris s.bases c.cert)
    ∷ []

abbrev pub anchor_of : List ℕ → SignedCert → Authority
anchor_of uri c = record { uri = uri; cert = c.cert; held = held_under no_sets c.cert.held }

unfoldable pub accepted_anchor : WalkContext → Contents → Checked Authority
accepted_anchor s held =
    found (anchor_uri s.bases) rule.Missing (held (anchor_uri s.bases)) >>= (λ bytes.
    found (anchor_uri s.bases) rule.Shape (such is_anchors (certificate_in bytes)) >>= (λ c.
    tested (anchor_uri s.bases) (anchor_tests s c) (anchor_of (anchor_uri s.bases) c)))

-- ---- files that a manifest lists (RFC 9286 section 4.2.1)

-- A listed file: its name, and the hash of its bytes.
abbrev pub File : Type 0
File = List ℕ × List ℕ

-- The bytes of a listed file, which is in the set and has the hash (RFC 9286 sections 6.4, 6.5).
unfoldable pub listed_bytes : Contents → List ℕ → File → Checked (List ℕ)
listed_bytes held uri file =
    found uri rule.Missing (held uri) >>= (λ bytes.
    tested uri ((rule.Hash, bytes_eq (sha256 bytes) file.1) ∷ []) bytes)

-- ---- an authority's certificate (RFC 6487 sections 7.1 and 7.2)

-- Its own place, and those that it names: the folder of some name, the manifest of its key there,
-- and the notification file.
abbrev pub has_authority_uris : Bases → Authority → List ℕ → CertValue → Bool
has_authority_uris bases issuer uri cert =
    has_issuer_uris issuer cert && bytes_eq uri (certificate_uri_of issuer cert)
    && is_folder bases cert.uris.folder
    && bytes_eq cert.uris.manifest (manifest_in_folder cert.uris.folder cert)
    && bytes_eq cert.uris.notify (notify_uri bases)

-- Inherited resources are inside the issuer's (RFC 6487 section 7.1).
abbrev pub is_held_under : Sets → Option Sets → Bool
is_held_under issuers held = are_inside (held_under issuers held) issuers

abbrev pub authority_tests : WalkContext → Authority → List CrlEntry → List (List ℕ) → List ℕ
    → SignedCert → List Test
authority_tests s issuer revoked visited uri c =
    (rule.Signature, is_signed_under s issuer c)
    ∷ (rule.Identity, names_issuer issuer c.cert)
    ∷ (rule.Time, is_valid_at s.moment c.cert)
    ∷ (rule.Resources, is_held_under issuer.held c.cert.held)
    ∷ (rule.Revoked, not (is_revoked revoked c.cert.serial))
    ∷ (rule.Place, has_authority_uris s.bases issuer uri c.cert)
    ∷ (rule.Depth, not (is_among visited uri))
    ∷ []

abbrev pub authority_of : Authority → List ℕ → SignedCert → Authority
authority_of issuer uri c =
    record { uri = uri; cert = c.cert; held = held_under issuer.held c.cert.held }

-- The certificate that an issuer lists, under its CRL's entries, once these URIs are visited.
unfoldable pub accepted_authority : WalkContext → Contents → Authority → List CrlEntry
    → List (List ℕ) → File → Checked Authority
accepted_authority s held issuer revoked visited file =
    let uri = listed_uri issuer file.0 in
    listed_bytes held uri file >>= (λ bytes.
    found uri rule.Shape (such is_authoritys (certificate_in bytes)) >>= (λ c.
    tested uri (authority_tests s issuer revoked visited uri c) (authority_of issuer uri c)))
