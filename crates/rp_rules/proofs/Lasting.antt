-- What is accepted keeps the rules, one by one; and those that last are kept in another walk too.
use Rattle.std.proofs.Common.{◌≡◌, ℕ, Bool, true, ◌&&◌, List, [], ◌∷◌, ◌++◌, Option, Some, Ok, refl, ap, subst, ◌∙◌}
use Rattle.std.specs.Prelude.{◌↔◌, if◌then◌else◌, is_some}
use Rattle.std.specs.Str.{bytes_eq}
use Rattle.std.proofs.lemmas.Bool.{and_parts, and_from, not_from_false}
use Rattle.sha2.specs.Sha256.{sha256}
use Rattle.key_ids.specs.Uris.{Bases, anchor_uri}
use Rattle.pub_set.specs.Changes.{Contents}
use Rattle.cert_obj.specs.Values.{SignedCert}
use Rattle.crl_obj.specs.declared.values.CrlEntry.{CrlEntry}
use Rattle.crl_obj.specs.Values.{CrlValue, SignedCrl}
use Rattle.payloads.specs.RoaFormats.{roa_entries}
use Rattle.rp_rules.specs.declared.rules.Rule.{Rule}
use Rattle.rp_rules.specs.declared.rules.Rule.TheVariants as rule
use Rattle.rp_rules.specs.Checks.{Checked, Test, ◌>>=◌, tested, found, refused}
use Rattle.rp_rules.specs.Objects.{Signed, SignedManifest, SignedRoa, such, certificate_in, is_anchors, is_authoritys, crl_in, manifest_in, roa_in}
use Rattle.rp_rules.specs.Holdings.{no_sets, held_under, have_prefixes}
use Rattle.rp_rules.specs.Authorities.{Authority, key_id, listed_uri, crl_uri_of, manifest_place}
use Rattle.rp_rules.specs.Certificates.{WalkContext, File, is_among, is_revoked, is_signed_under, names_issuer, is_held_under, has_anchor_uris, has_authority_uris, listed_bytes, anchor_tests, anchor_of, accepted_anchor, authority_tests, authority_of, accepted_authority}
use Rattle.rp_rules.specs.Points.{Point, is_signed, is_identified, is_placed, is_list, manifest_tests, accepted_manifest, crl_tests, accepted_crl, crl_file, point_tests, accepted_point, roa_tests, accepted_roa}
use Rattle.rp_rules.specs.Lasting.{IsSameIssuer, LooksAgain, IsLastingAnchor, KeepsAnchorRules, IsLastingCertificate, KeepsCertificateRules, IsLastingCrl, KeepsCrlRules, IsLastingManifest, KeepsManifestRules, KeepsPointRules, IsLastingRoa, KeepsRoaRules}
use Rattle.rp_rules.proofs.Lists.{bytes-same, not-true}
use Rattle.rp_rules.proofs.Kept.{AllKept, bind-ok, tested-ok, found-ok, read-ok, listed-ok}

-- ---- checks

pub tested-kept : {A : Type 0} (uri : List ℕ) (ts : List Test) (x : A) → AllKept ts → tested uri ts x ≡ Ok x
tested-kept uri [] x kept = refl
tested-kept uri (t ∷ ts) x kept = ap (λ b. if b then tested uri ts x else refused uri t.0) kept.0 ∙ tested-kept uri ts x kept.1

-- Bytes that say something, which keeps the rules.
read-kept : {A B : Type 0} (m : Checked (List ℕ)) (uri : List ℕ) (rule : Rule) (read : List ℕ → Option A) (ts : A → List Test) (give : A → B) (bytes : List ℕ) (a : A)
    → m ≡ Ok bytes → read bytes ≡ Some a → AllKept (ts a)
    → (m >>= (λ bytes. found uri rule (read bytes) >>= (λ a. tested uri (ts a) (give a)))) ≡ Ok (give a)
read-kept {A} {B} m uri rule read ts give bytes a one two kept =
    ap (λ (c : Checked (List ℕ)). c >>= (λ bytes. found uri rule (read bytes) >>= (λ a. tested uri (ts a) (give a)))) one
    ∙ (ap (λ (o : Option A). found uri rule o >>= (λ a. tested uri (ts a) (give a))) two
    ∙ tested-kept uri (ts a) (give a) kept)

listed-kept : (held : Contents) (uri : List ℕ) (file : File) (bytes : List ℕ) → held uri ≡ Some bytes → sha256 bytes ≡ file.1 → listed_bytes held uri file ≡ Ok bytes
unfolding listed_bytes
listed-kept held uri file bytes there hash =
    ap (λ (o : Option (List ℕ)). found uri rule.Missing o >>= (λ bs. tested uri ((rule.Hash, bytes_eq (sha256 bs) file.1) ∷ []) bs)) there
    ∙ tested-kept uri ((rule.Hash, bytes_eq (sha256 bytes) file.1) ∷ []) bytes (bytes-same (sha256 bytes) file.1 hash, tt)

-- ---- the anchor's certificate

anchor-there : (s : WalkContext) (held : Contents) (anchor : Authority) → accepted_anchor s held ≡ Ok anchor → KeepsAnchorRules s held anchor
unfolding accepted_anchor
anchor-there s held anchor e =
    let uri = anchor_uri s.bases in
    let one = read-ok (found uri rule.Missing (held uri)) uri rule.Shape (λ bytes. such is_anchors (certificate_in bytes)) (anchor_tests s) (anchor_of uri) anchor e in
    let c : SignedCert = one.2 in
    let identity = and_parts (bytes_eq c.cert.issuer (key_id c.cert)) (bytes_eq c.cert.key s.anchor) one.5.1.0 in
    record {
      bytes = one.0;
      certificate = c;
      lasting = record {
        shape = one.3;
        signature = one.5.0;
        issuer = identity.0;
        key = identity.1;
        resources = one.5.1.1.1.0;
        place = one.5.1.1.1.1.0;
      };
      present = record { there = found-ok uri rule.Missing (held uri) one.0 one.1; time = one.5.1.1.0 };
      gives = one.4;
    }

anchor-back : (s : WalkContext) (held : Contents) (anchor : Authority) → KeepsAnchorRules s held anchor → accepted_anchor s held ≡ Ok anchor
unfolding accepted_anchor
anchor-back s held anchor k =
    let uri = anchor_uri s.bases in
    let c = k.certificate in
    let l = k.lasting in
    read-kept (found uri rule.Missing (held uri)) uri rule.Shape (λ bytes. such is_anchors (certificate_in bytes)) (anchor_tests s) (anchor_of uri) k.bytes c
    (ap (found uri rule.Missing) k.present.there) l.shape
    (l.signature, (and_from (bytes_eq c.cert.issuer (key_id c.cert)) (bytes_eq c.cert.key s.anchor) l.issuer l.key, (k.present.time, (l.resources, (l.place, tt)))))
    ∙ ap Ok k.gives

pub anchor-rules : (s : WalkContext) (held : Contents) (anchor : Authority) → (accepted_anchor s held ≡ Ok anchor) ↔ KeepsAnchorRules s held anchor
anchor-rules s held anchor = (anchor-there s held anchor, anchor-back s held anchor)

-- ---- an authority's certificate

certificate-there : (s : WalkContext) (held : Contents) (issuer : Authority) (revoked : List CrlEntry) (seen : List (List ℕ)) (file : File) (child : Authority) → accepted_authority s held issuer revoked seen file ≡ Ok child → KeepsCertificateRules s held issuer revoked seen file child
unfolding accepted_authority
certificate-there s held issuer revoked seen file child e =
    let uri = listed_uri issuer file.0 in
    let one = read-ok (listed_bytes held uri file) uri rule.Shape (λ bytes. such is_authoritys (certificate_in bytes)) (authority_tests s issuer revoked seen uri) (authority_of issuer uri) child e in
    let listed = listed-ok held uri file one.0 one.1 in
    record {
      bytes = one.0;
      certificate = one.2;
      lasting = record { shape = one.3; signature = one.5.0; identity = one.5.1.0; place = one.5.1.1.1.1.1.0 };
      listed = record { there = listed.0; hash = listed.1; new = not-true (is_among seen uri) one.5.1.1.1.1.1.1.0 };
      present = record { time = one.5.1.1.0; resources = one.5.1.1.1.0; unrevoked = not-true (is_revoked revoked one.2.cert.serial) one.5.1.1.1.1.0 };
      gives = one.4;
    }

certificate-back : (s : WalkContext) (held : Contents) (issuer : Authority) (revoked : List CrlEntry) (seen : List (List ℕ)) (file : File) (child : Authority) → KeepsCertificateRules s held issuer revoked seen file child → accepted_authority s held issuer revoked seen file ≡ Ok child
unfolding accepted_authority
certificate-back s held issuer revoked seen file child k =
    let uri = listed_uri issuer file.0 in
    let l = k.lasting in
    read-kept (listed_bytes held uri file) uri rule.Shape (λ bytes. such is_authoritys (certificate_in bytes)) (authority_tests s issuer revoked seen uri) (authority_of issuer uri) k.bytes k.certificate
    (listed-kept held uri file k.bytes k.listed.there k.listed.hash) l.shape (
      l.signature,
      (
        l.identity,
        (
          k.present.time,
          (
            k.present.resources,
            (
              not_from_false (is_revoked revoked k.certificate.cert.serial) k.present.unrevoked,
              (l.place, (not_from_false (is_among seen uri) k.listed.new, tt)),
            ),
          ),
        ),
      ),
    )
    ∙ ap Ok k.gives

pub certificate-rules : (s : WalkContext) (held : Contents) (issuer : Authority) (revoked : List CrlEntry) (seen : List (List ℕ)) (file : File) (child : Authority) → (accepted_authority s held issuer revoked seen file ≡ Ok child) ↔ KeepsCertificateRules s held issuer revoked seen file child
certificate-rules s held issuer revoked seen file child = (certificate-there s held issuer revoked seen file child, certificate-back s held issuer revoked seen file child)

-- ---- a CRL

crl-there : (s : WalkContext) (held : Contents) (issuer : Authority) (seen : List (List ℕ)) (file : File) (crl : CrlValue) → accepted_crl s held issuer seen file ≡ Ok crl → KeepsCrlRules s held issuer seen file crl
unfolding accepted_crl
crl-there s held issuer seen file crl e =
    let uri = listed_uri issuer file.0 in
    let one = read-ok (listed_bytes held uri file) uri rule.Shape crl_in (crl_tests s issuer seen uri) (λ c. c.crl) crl e in
    let listed = listed-ok held uri file one.0 one.1 in
    record {
      bytes = one.0;
      signed = one.2;
      lasting = record { shape = one.3; signature = one.5.0; identity = one.5.1.0; place = one.5.1.1.1.0 };
      listed = record { there = listed.0; hash = listed.1; new = not-true (is_among seen uri) one.5.1.1.1.1.0 };
      time = one.5.1.1.0;
      gives = one.4;
    }

crl-back : (s : WalkContext) (held : Contents) (issuer : Authority) (seen : List (List ℕ)) (file : File) (crl : CrlValue) → KeepsCrlRules s held issuer seen file crl → accepted_crl s held issuer seen file ≡ Ok crl
unfolding accepted_crl
crl-back s held issuer seen file crl k =
    let uri = listed_uri issuer file.0 in
    let l = k.lasting in
    read-kept (listed_bytes held uri file) uri rule.Shape crl_in (crl_tests s issuer seen uri) (λ c. c.crl) k.bytes k.signed
    (listed-kept held uri file k.bytes k.listed.there k.listed.hash) l.shape
    (l.signature, (l.identity, (k.time, (l.place, (not_from_false (is_among seen uri) k.listed.new, tt)))))
    ∙ ap Ok k.gives

pub crl-rules : (s : WalkContext) (held : Contents) (issuer : Authority) (seen : List (List ℕ)) (file : File) (crl : CrlValue) → (accepted_crl s held issuer seen file ≡ Ok crl) ↔ KeepsCrlRules s held issuer seen file crl
crl-rules s held issuer seen file crl = (crl-there s held issuer seen file crl, crl-back s held issuer seen file crl)

-- ---- a manifest

manifest-there : (s : WalkContext) (held : Contents) (issuer : Authority) (seen : List (List ℕ)) (m : SignedManifest) → accepted_manifest s held issuer seen ≡ Ok m → KeepsManifestRules s held issuer seen m
unfolding accepted_manifest
manifest-there s held issuer seen m e =
    let uri = manifest_place issuer in
    let one = read-ok (found uri rule.Missing (held uri)) uri rule.Shape manifest_in (manifest_tests s issuer seen) (λ x. x) m e in
    let all : AllKept (manifest_tests s issuer seen m) = subst (λ (x : SignedManifest). AllKept (manifest_tests s issuer seen x)) one.4 one.5 in
    record {
      bytes = one.0;
      lasting = record { shape = one.3 ∙ ap Some one.4; signature = all.0; identity = all.1.0; resources = all.1.1.1.0; place = all.1.1.1.1.0; list = all.1.1.1.1.1.0 };
      there = found-ok uri rule.Missing (held uri) one.0 one.1;
      time = all.1.1.0;
      new = not-true (is_among seen uri) all.1.1.1.1.1.1.0;
    }

manifest-back : (s : WalkContext) (held : Contents) (issuer : Authority) (seen : List (List ℕ)) (m : SignedManifest) → KeepsManifestRules s held issuer seen m → accepted_manifest s held issuer seen ≡ Ok m
unfolding accepted_manifest
manifest-back s held issuer seen m k =
    let uri = manifest_place issuer in
    let l = k.lasting in
    read-kept (found uri rule.Missing (held uri)) uri rule.Shape manifest_in (manifest_tests s issuer seen) (λ x. x) k.bytes m
    (ap (found uri rule.Missing) k.there) l.shape
    (l.signature, (l.identity, (k.time, (l.resources, (l.place, (l.list, (not_from_false (is_among seen uri) k.new, tt)))))))

pub manifest-rules : (s : WalkContext) (held : Contents) (issuer : Authority) (seen : List (List ℕ)) (m : SignedManifest) → (accepted_manifest s held issuer seen ≡ Ok m) ↔ KeepsManifestRules s held issuer seen m
manifest-rules s held issuer seen m = (manifest-there s held issuer seen m, manifest-back s held issuer seen m)

-- ---- a point

abbrev made : Authority → SignedManifest → CrlValue → Point
made authority m crl = record { authority = authority; manifest = m; crl = crl }

abbrev behind-crl : Authority → SignedManifest → CrlValue → Checked Point
behind-crl authority m crl = tested (manifest_place authority) (point_tests m crl) (made authority m crl)

abbrev behind-list : WalkContext → Contents → Authority → List (List ℕ) → SignedManifest → File → Checked Point
behind-list s held authority seen m file = accepted_crl s held authority (seen ++ manifest_place authority ∷ []) file >>= behind-crl authority m

abbrev behind-manifest : WalkContext → Contents → Authority → List (List ℕ) → SignedManifest → Checked Point
behind-manifest s held authority seen m = found (manifest_place authority) rule.List (crl_file m.body) >>= behind-list s held authority seen m

point-there : (s : WalkContext) (held : Contents) (authority : Authority) (seen : List (List ℕ)) (p : Point) → accepted_point s held authority seen ≡ Ok p → KeepsPointRules s held authority seen p
unfolding accepted_point
point-there s held authority seen p e =
    let m = bind-ok (accepted_manifest s held authority seen) (behind-manifest s held authority seen) p e in
    let file = bind-ok (found (manifest_place authority) rule.List (crl_file m.0.body)) (behind-list s held authority seen m.0) p m.2 in
    let crl = bind-ok (accepted_crl s held authority (seen ++ manifest_place authority ∷ []) file.0) (behind-crl authority m.0) p file.2 in
    let same = tested-ok (manifest_place authority) (point_tests m.0 crl.0) (made authority m.0 crl.0) p crl.2 in
    subst (KeepsPointRules s held authority seen) same.0 (record {
      above = refl;
      manifest = (manifest-rules s held authority seen m.0).0 m.1;
      file = file.0;
      first = found-ok (manifest_place authority) rule.List (crl_file m.0.body) file.0 file.1;
      crl = (crl-rules s held authority (seen ++ manifest_place authority ∷ []) file.0 crl.0).0 crl.1;
      unrevoked = not-true (is_revoked crl.0.entries m.0.certificate.cert.serial) same.1.0;
      number = same.1.1.0;
    })

point-back : (s : WalkContext) (held : Contents) (authority : Authority) (seen : List (List ℕ)) (p : Point) → KeepsPointRules s held authority seen p → accepted_point s held authority seen ≡ Ok p
unfolding accepted_point
point-back s held authority seen p k =
    let m : SignedManifest = p.manifest in
    ap (λ (c : Checked SignedManifest). c >>= behind-manifest s held authority seen) ((manifest-rules s held authority seen m).1 k.manifest)
    ∙ (ap (λ (o : Option File). found (manifest_place authority) rule.List o >>= behind-list s held authority seen m) k.first
    ∙ (ap (λ (c : Checked CrlValue). c >>= behind-crl authority m) ((crl-rules s held authority (seen ++ manifest_place authority ∷ []) k.file p.crl).1 k.crl)
    ∙ (tested-kept (manifest_place authority) (point_tests m p.crl) (made authority m p.crl)
    (not_from_false (is_revoked p.crl.entries m.certificate.cert.serial) k.unrevoked, (k.number, tt))
    ∙ ap (λ (a : Authority). Ok (made a m p.crl)) k.above)))

pub point-rules : (s : WalkContext) (held : Contents) (authority : Authority) (seen : List (List ℕ)) (p : Point) → (accepted_point s held authority seen ≡ Ok p) ↔ KeepsPointRules s held authority seen p
point-rules s held authority seen p = (point-there s held authority seen p, point-back s held authority seen p)

-- ---- a ROA

-- Parts of the rule on resources.
abbrev inside_of : Point → SignedRoa → Bool
inside_of p x = is_held_under p.authority.held x.certificate.cert.held

abbrev have_of : SignedRoa → Bool
have_of x = have_prefixes (held_under no_sets x.certificate.cert.held) (roa_entries x.body)

roa-there : (s : WalkContext) (held : Contents) (p : Point) (seen : List (List ℕ)) (file : File) (r : SignedRoa) → accepted_roa s held p seen file ≡ Ok r → KeepsRoaRules s held p seen file r
unfolding accepted_roa
roa-there s held p seen file r e =
    let uri = listed_uri p.authority file.0 in
    let one = read-ok (listed_bytes held uri file) uri rule.Shape roa_in (roa_tests s p seen uri) (λ x. x) r e in
    let all : AllKept (roa_tests s p seen uri r) = subst (λ (x : SignedRoa). AllKept (roa_tests s p seen uri x)) one.4 one.5 in
    let listed = listed-ok held uri file one.0 one.1 in
    let outer = and_parts (is_some r.certificate.cert.held && inside_of p r) (have_of r) all.1.1.1.0 in
    let inner = and_parts (is_some r.certificate.cert.held) (inside_of p r) outer.0 in
    record {
      bytes = one.0;
      lasting = record { shape = one.3 ∙ ap Some one.4; signature = all.0; identity = all.1.0; own = inner.0; prefixes = outer.1; place = all.1.1.1.1.1.0 };
      listed = record { there = listed.0; hash = listed.1; new = not-true (is_among seen uri) all.1.1.1.1.1.1.0 };
      present = record { time = all.1.1.0; resources = inner.1; unrevoked = not-true (is_revoked p.crl.entries r.certificate.cert.serial) all.1.1.1.1.0 };
    }

roa-back : (s : WalkContext) (held : Contents) (p : Point) (seen : List (List ℕ)) (file : File) (r : SignedRoa) → KeepsRoaRules s held p seen file r → accepted_roa s held p seen file ≡ Ok r
unfolding accepted_roa
roa-back s held p seen file r k =
    let uri = listed_uri p.authority file.0 in
    let l = k.lasting in
    read-kept (listed_bytes held uri file) uri rule.Shape roa_in (roa_tests s p seen uri) (λ x. x) k.bytes r
    (listed-kept held uri file k.bytes k.listed.there k.listed.hash) l.shape (
      l.signature,
      (
        l.identity,
        (
          k.present.time,
          (
            and_from (is_some r.certificate.cert.held && inside_of p r) (have_of r) (and_from (is_some r.certificate.cert.held) (inside_of p r) l.own k.present.resources) l.prefixes,
            (not_from_false (is_revoked p.crl.entries r.certificate.cert.serial) k.present.unrevoked, (l.place, (not_from_false (is_among seen uri) k.listed.new, tt))),
          ),
        ),
      ),
    )

pub roa-rules : (s : WalkContext) (held : Contents) (p : Point) (seen : List (List ℕ)) (file : File) (r : SignedRoa) → (accepted_roa s held p seen file ≡ Ok r) ↔ KeepsRoaRules s held p seen file r
roa-rules s held p seen file r = (roa-there s held p seen file r, roa-back s held p seen file r)

-- ---- another walk

-- The authority with that key in those places.
abbrev placed : Authority → List ℕ → List ℕ → List ℕ → List ℕ → Authority
placed a key uri folder manifest = record {
  uri = uri;
  cert = record a.cert { key = key; uris = record a.cert.uris { folder = folder; manifest = manifest } };
  held = a.held;
}

-- What is told of an authority by its key and its places alone is the same of another one with these.
told-same : {X : Type 0} (tell : Authority → X) (one other : Authority) → IsSameIssuer one other
    → tell (placed one other.cert.key other.uri other.cert.uris.folder other.cert.uris.manifest) ≡ tell (placed one one.cert.key one.uri one.cert.uris.folder one.cert.uris.manifest)
told-same tell one other same =
    ap (λ (x : List ℕ). tell (placed one x other.uri other.cert.uris.folder other.cert.uris.manifest)) same.key
    ∙ (ap (λ (x : List ℕ). tell (placed one one.cert.key x other.cert.uris.folder other.cert.uris.manifest)) same.uri
    ∙ (ap (λ (x : List ℕ). tell (placed one one.cert.key one.uri x other.cert.uris.manifest)) same.folder
    ∙ ap (λ (x : List ℕ). tell (placed one one.cert.key one.uri one.cert.uris.folder x)) same.manifest))

still-signed : (s other : WalkContext) (one two : Authority) (c : SignedCert) → LooksAgain s other → IsSameIssuer one two → is_signed_under s one c ≡ true → is_signed_under other two c ≡ true
still-signed s other one two c again same e =
    again.vouched two.cert.key c.digest c.signature (ap (λ (key : List ℕ). s.vouched key c.digest c.signature) same.key ∙ e)

still-both : {Body : Type 0} (s other : WalkContext) (one two : Authority) (x : Signed Body) → LooksAgain s other → IsSameIssuer one two → is_signed s one x ≡ true → is_signed other two x ≡ true
still-both s other one two x again same e =
    let both = and_parts (is_signed_under s one x.certificate) (s.vouched x.certificate.cert.key x.object.digest x.object.signature) e in
    and_from (is_signed_under other two x.certificate) (other.vouched x.certificate.cert.key x.object.digest x.object.signature)
    (still-signed s other one two x.certificate again same both.0)
    (again.vouched x.certificate.cert.key x.object.digest x.object.signature both.1)

pub anchor-lasts : (s other : WalkContext) (bytes : List ℕ) (c : SignedCert) → LooksAgain s other → IsLastingAnchor s bytes c → IsLastingAnchor other bytes c
anchor-lasts s other bytes c again l = record {
  shape = l.shape;
  signature = again.vouched other.anchor c.digest c.signature (ap (λ (key : List ℕ). s.vouched key c.digest c.signature) again.anchor ∙ l.signature);
  issuer = l.issuer;
  key = ap (bytes_eq c.cert.key) again.anchor ∙ l.key;
  resources = l.resources;
  place = ap (λ (bases : Bases). has_anchor_uris bases c.cert) again.bases ∙ l.place;
}

pub certificate-lasts : (s other : WalkContext) (one two : Authority) (uri bytes : List ℕ) (c : SignedCert) → LooksAgain s other → IsSameIssuer one two
    → IsLastingCertificate s one uri bytes c → IsLastingCertificate other two uri bytes c
certificate-lasts s other one two uri bytes c again same l = record {
  shape = l.shape;
  signature = still-signed s other one two c again same l.signature;
  identity = told-same (λ (a : Authority). names_issuer a c.cert) one two same ∙ l.identity;
  place = ap (λ (bases : Bases). has_authority_uris bases two uri c.cert) again.bases
      ∙ (told-same (λ (a : Authority). has_authority_uris s.bases a uri c.cert) one two same ∙ l.place);
}

pub crl-lasts : (s other : WalkContext) (one two : Authority) (uri bytes : List ℕ) (c : SignedCrl) → LooksAgain s other → IsSameIssuer one two
    → IsLastingCrl s one uri bytes c → IsLastingCrl other two uri bytes c
crl-lasts s other one two uri bytes c again same l = record {
  shape = l.shape;
  signature = again.vouched two.cert.key c.digest c.signature (ap (λ (key : List ℕ). s.vouched key c.digest c.signature) same.key ∙ l.signature);
  identity = told-same (λ (a : Authority). bytes_eq c.crl.issuer (key_id a.cert)) one two same ∙ l.identity;
  place = told-same (λ (a : Authority). bytes_eq uri (crl_uri_of a)) one two same ∙ l.place;
}

pub manifest-lasts : (s other : WalkContext) (one two : Authority) (bytes : List ℕ) (m : SignedManifest) → LooksAgain s other → IsSameIssuer one two
    → IsLastingManifest s one bytes m → IsLastingManifest other two bytes m
manifest-lasts s other one two bytes m again same l = record {
  shape = l.shape;
  signature = still-both s other one two m again same l.signature;
  identity = told-same (λ (a : Authority). is_identified a m) one two same ∙ l.identity;
  resources = l.resources;
  place = told-same (λ (a : Authority). is_placed a (manifest_place a) m) one two same ∙ l.place;
  list = told-same (λ (a : Authority). is_list a m.body) one two same ∙ l.list;
}

pub roa-lasts : (s other : WalkContext) (one two : Authority) (uri bytes : List ℕ) (r : SignedRoa) → LooksAgain s other → IsSameIssuer one two
    → IsLastingRoa s one uri bytes r → IsLastingRoa other two uri bytes r
roa-lasts s other one two uri bytes r again same l = record {
  shape = l.shape;
  signature = still-both s other one two r again same l.signature;
  identity = told-same (λ (a : Authority). is_identified a r) one two same ∙ l.identity;
  own = l.own;
  prefixes = l.prefixes;
  place = told-same (λ (a : Authority). is_placed a uri r) one two same ∙ l.place;
}
