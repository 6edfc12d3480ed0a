-- Accepted publication points (RFC 9286 section 6): the manifest of an authority, the CRL that it
-- lists, and the ROAs (RFC 6488 section 3, RFC 9582 section 5).
use Rattle.std.specs.Prelude.{ℕ, ◌==◌, Bool, true, not, ◌&&◌, ◌||◌, is_some, is_none, nat_eq, List, [], ◌∷◌, ◌++◌, Option, None, Some, length, map, codes}
use Rattle.std.specs.List.{list_all, filter, ends_with}
use Rattle.std.specs.Str.{bytes_eq}
use Rattle.pub_set.specs.Changes.{Contents}
use Rattle.crl_obj.specs.Values.{CrlValue, SignedCrl}
use Rattle.payloads.specs.ManifestFormats.{Manifest, names, manifest_number, listed_files}
use Rattle.payloads.specs.ManifestFormats.{this_update_of, next_update_of}
use Rattle.payloads.specs.RoaFormats.{roa_entries}
use Rattle.rp_rules.specs.declared.rules.Rule.TheVariants as rule
use Rattle.rp_rules.specs.Checks.{Checked, Test, ◌>>=◌, tested, found}
use Rattle.rp_rules.specs.Objects.{Signed, SignedManifest, SignedRoa, crl_in, manifest_in, roa_in}
use Rattle.rp_rules.specs.Holdings.{no_sets, held_under, have_prefixes}
use Rattle.rp_rules.specs.Authorities.{Authority, key_id, listed_uri, crl_uri_of, manifest_place}
use Rattle.rp_rules.specs.Certificates.{WalkContext, File, lies_in, is_valid_at, is_signed_under}
use Rattle.rp_rules.specs.Certificates.{names_issuer, has_issuer_uris, is_among, is_revoked}
use Rattle.rp_rules.specs.Certificates.{is_held_under, listed_bytes}

-- ---- signed objects (RFC 6488 section 3)

-- The certificate is signed under the issuer's key, and the object under the certificate's.
abbrev pub is_signed : {Body : Type 0} → WalkContext → Authority → Signed Body → Bool
is_signed s issuer x =
    is_signed_under s issuer x.certificate
    && s.vouched x.certificate.cert.key x.object.digest x.object.signature

-- The certificate names the issuer, and the object the certificate's key (RFC 6488 section 3).
abbrev pub is_identified : {Body : Type 0} → Authority → Signed Body → Bool
is_identified issuer x =
    names_issuer issuer x.certificate.cert && bytes_eq x.object.signer (key_id x.certificate.cert)

-- The places of the issuer's CRL and certificate, and the object's own.
abbrev pub is_placed : {Body : Type 0} → Authority → List ℕ → Signed Body → Bool
is_placed issuer uri x =
    has_issuer_uris issuer x.certificate.cert && bytes_eq x.certificate.cert.uris.object uri

-- ---- the manifest (RFC 9286 sections 4.4 and 6)

abbrev pub files_of : Manifest → List File
files_of manifest = listed_files manifest

abbrev pub is_certificate_file : File → Bool
is_certificate_file file = ends_with nat_eq file.0 (codes ".cer")

abbrev pub is_roa_file : File → Bool
is_roa_file file = ends_with nat_eq file.0 (codes ".roa")

abbrev pub is_crl_file : File → Bool
is_crl_file file = ends_with nat_eq file.0 (codes ".crl")

abbrev pub is_file_in_use : File → Bool
is_file_in_use file = is_certificate_file file || is_roa_file file || is_crl_file file

-- No name stands before or behind itself.
abbrev pub are_distinct : List (List ℕ) → Bool
are_distinct [] = true
are_distinct (name ∷ names) = not (is_among names name) && are_distinct names

-- One CRL, each name once, no name of its own, and files of the three kinds alone (RFC 9286
-- sections 2 and 4.2.2).
abbrev pub is_list : Authority → Manifest → Bool
is_list authority manifest =
    (length (filter is_crl_file (files_of manifest)) == 1) && are_distinct (names manifest)
    && not (is_among (map (listed_uri authority) (names manifest)) (manifest_place authority))
    && list_all is_file_in_use (files_of manifest)

-- The update interval (RFC 9286 section 6.3), and the certificate's validity.
abbrev pub is_current : ℕ → SignedManifest → Bool
is_current moment m =
    is_valid_at moment m.certificate.cert && lies_in moment (this_update_of m.body) (next_update_of m.body)

abbrev pub manifest_tests : WalkContext → Authority → List (List ℕ) → SignedManifest → List Test
manifest_tests s authority visited m =
    (rule.Signature, is_signed s authority m)
    ∷ (rule.Identity, is_identified authority m)
    ∷ (rule.Time, is_current s.moment m)
    ∷ (rule.Resources, is_none m.certificate.cert.held)
    ∷ (rule.Place, is_placed authority (manifest_place authority) m)
    ∷ (rule.List, is_list authority m.body)
    ∷ (rule.Depth, not (is_among visited (manifest_place authority)))
    ∷ []

unfoldable pub accepted_manifest : WalkContext → Contents → Authority → List (List ℕ)
    → Checked SignedManifest
accepted_manifest s held authority visited =
    let uri = manifest_place authority in
    found uri rule.Missing (held uri) >>= (λ bytes.
    found uri rule.Shape (manifest_in bytes) >>= (λ m.
    tested uri (manifest_tests s authority visited m) m))

-- ---- the CRL (RFC 6487 section 5, RFC 5280 section 6.3.3)

abbrev pub crl_tests : WalkContext → Authority → List (List ℕ) → List ℕ → SignedCrl → List Test
crl_tests s authority visited uri c =
    (rule.Signature, s.vouched authority.cert.key c.digest c.signature)
    ∷ (rule.Identity, bytes_eq c.crl.issuer (key_id authority.cert))
    ∷ (rule.Time, lies_in s.moment c.crl.this_update c.crl.next_update)
    ∷ (rule.Place, bytes_eq uri (crl_uri_of authority))
    ∷ (rule.Depth, not (is_among visited uri))
    ∷ []

unfoldable pub accepted_crl : WalkContext → Contents → Authority → List (List ℕ) → File
    → Checked CrlValue
accepted_crl s held authority visited file =
    let uri = listed_uri authority file.0 in
    listed_bytes held uri file >>= (λ bytes.
    found uri rule.Shape (crl_in bytes) >>= (λ c.
    tested uri (crl_tests s authority visited uri c) c.crl))

-- ---- the point

pub record Point : Type 0 where
  pub authority : Authority
  pub manifest : SignedManifest
  pub crl : CrlValue

abbrev pub first_of : List File → Option File
first_of [] = None
first_of (file ∷ files) = Some file

-- The CRL that a manifest lists, and the other files.
abbrev pub crl_file : Manifest → Option File
crl_file manifest = first_of (filter is_crl_file (files_of manifest))

abbrev pub other_files : Point → List File
other_files p = filter (λ file. not (is_crl_file file)) (files_of p.manifest.body)

-- Once the CRL is accepted: the manifest's certificate isn't on it, and both have one number.
abbrev pub point_tests : SignedManifest → CrlValue → List Test
point_tests m crl =
    (rule.Revoked, not (is_revoked crl.entries m.certificate.cert.serial))
    ∷ (rule.List, crl.number == manifest_number m.body)
    ∷ []

unfoldable pub accepted_point : WalkContext → Contents → Authority → List (List ℕ) → Checked Point
accepted_point s held authority visited =
    let uri = manifest_place authority in
    accepted_manifest s held authority visited >>= (λ m.
    found uri rule.List (crl_file m.body) >>= (λ file.
    accepted_crl s held authority (visited ++ uri ∷ []) file >>= (λ crl.
    tested uri (point_tests m crl) (record { authority = authority; manifest = m; crl = crl }))))

-- ---- ROAs (RFC 9582 section 5)

-- The certificate has resources of its own, which are inside the issuer's and have the prefixes
-- (RFC 9582 section 5).
abbrev pub roa_resources : Authority → SignedRoa → Bool
roa_resources issuer r =
    is_some r.certificate.cert.held && is_held_under issuer.held r.certificate.cert.held
    && have_prefixes (held_under no_sets r.certificate.cert.held) (roa_entries r.body)

abbrev pub roa_tests : WalkContext → Point → List (List ℕ) → List ℕ → SignedRoa → List Test
roa_tests s p visited uri r =
    (rule.Signature, is_signed s p.authority r)
    ∷ (rule.Identity, is_identified p.authority r)
    ∷ (rule.Time, is_valid_at s.moment r.certificate.cert)
    ∷ (rule.Resources, roa_resources p.authority r)
    ∷ (rule.Revoked, not (is_revoked p.crl.entries r.certificate.cert.serial))
    ∷ (rule.Place, is_placed p.authority uri r)
    ∷ (rule.Depth, not (is_among visited uri))
    ∷ []

unfoldable pub accepted_roa : WalkContext → Contents → Point → List (List ℕ) → File
    → Checked SignedRoa
accepted_roa s held p visited file =
    let uri = listed_uri p.authority file.0 in
    listed_bytes held uri file >>= (λ bytes.
    found uri rule.Shape (roa_in bytes) >>= (λ r.
    tested uri (roa_tests s p visited uri r) r))
