-- The walk depends on what is vouched through the signatures that it asks for alone.
use Rattle.std.proofs.Common.{◌≡◌, ℕ, zero, suc, Bool, true, false, cond, not, List, [], ◌∷◌, ◌++◌, map, Option, None, Some, Ok, Err, refl, sym, ap, ap₂, subst, ◌∙◌, inl, inr}
use Rattle.std.specs.Prelude.{if◌then◌else◌, ◌&&◌}
use Rattle.std.specs.List.{Contains, filter, flat_map}
use Rattle.std.proofs.lemmas.List.Elements.{Contains-append_left, Contains-append_right}
use Rattle.pub_set.specs.declared.objects.Object.{Object}
use Rattle.pub_set.specs.Objects.{content_at}
use Rattle.pub_set.specs.Changes.{Contents}
use Rattle.key_ids.specs.Uris.{anchor_uri}
use Rattle.cert_obj.specs.Values.{CertValue, SignedCert}
use Rattle.crl_obj.specs.declared.values.CrlEntry.{CrlEntry}
use Rattle.crl_obj.specs.Values.{CrlValue, SignedCrl}
use Rattle.rp_rules.specs.declared.rules.Rule.{Rule}
use Rattle.rp_rules.specs.declared.rules.Rule.TheVariants as rule
use Rattle.rp_rules.specs.Checks.{Checked, Test, ◌>>=◌, tested, found}
use Rattle.rp_rules.specs.Objects.{Signed, SignedManifest, SignedRoa, such, certificate_in, is_anchors, is_authoritys, crl_in, manifest_in, roa_in}
use Rattle.rp_rules.specs.Authorities.{Authority, listed_uri, manifest_place}
use Rattle.rp_rules.specs.Certificates.{WalkContext, Vouched, vouching, File, anchor_tests, anchor_of, accepted_anchor, listed_bytes, authority_tests, authority_of, accepted_authority}
use Rattle.rp_rules.specs.Points.{Point, is_signed, is_crl_file, first_of, files_of, crl_file, other_files, manifest_tests, accepted_manifest, crl_tests, accepted_crl, point_tests, accepted_point, roa_tests, accepted_roa, is_certificate_file}
use Rattle.rp_rules.specs.Walk.{Visit, Certificate, Published, Route, Below, visited, visit_file, visit_files, visit_below, walk}
use Rattle.rp_rules.specs.Asked.{Asked, asked, of_certificate, of_crl, of_signed, asked_of, asked_if, asked_at, files_if, files_in, published, asked_under, IsThere, IsAsked, SaysSame}
use Rattle.items.specs.laws.ElementLaws.{none, here, there, first-or-rest}
use Rattle.rp_rules.proofs.Kept.{bind-ok, tested-ok, found-ok, read-ok, listed-ok}

-- ---- checks

bind-same : {A B : Type 0} (m n : Checked A) (f g : A → Checked B) → n ≡ m → ((a : A) → m ≡ Ok a → g a ≡ f a) → (n >>= g) ≡ (m >>= f)
bind-same (Ok a) n f g same rest = ap (λ k. k >>= g) same ∙ rest a refl
bind-same (Err r) n f g same rest = ap (λ k. k >>= g) same

either-same : {A : Type 0} (b : Bool) (m m' n n' : Checked A) → m' ≡ m → n' ≡ n → (if b then m' else n') ≡ (if b then m else n)
either-same true m m' n n' one other = one
either-same false m m' n n' one other = other

such-ok : {A : Type 0} (test : A → Bool) (o : Option A) (x : A) → such test o ≡ Some x → o ≡ Some x
such-ok test None x e = e
such-ok test (Some y) x e = by-test (test y) e
  where
    by-test : (b : Bool) → (if b then Some y else None) ≡ Some x → Some y ≡ Some x
    by-test true e = e
    by-test false e = absurd cc

abbrev tail : List Test → List Test
tail [] = []
tail (t ∷ ts) = ts

-- Bytes that say something, which is tested.
read-same : {A B : Type 0} (m : Checked (List ℕ)) (uri : List ℕ) (rule : Rule) (read : List ℕ → Option A) (ts us : A → List Test) (give : A → B)
    → ((bytes : List ℕ) → m ≡ Ok bytes → (a : A) → read bytes ≡ Some a → us a ≡ ts a)
    → (m >>= (λ bytes. found uri rule (read bytes) >>= (λ a. tested uri (us a) (give a)))) ≡ (m >>= (λ bytes. found uri rule (read bytes) >>= (λ a. tested uri (ts a) (give a))))
read-same {A = A} {B = B} m uri rule read ts us give all =
    bind-same {A = List ℕ} {B = B} m m (λ bytes. found uri rule (read bytes) >>= (λ a. tested uri (ts a) (give a))) (λ bytes. found uri rule (read bytes) >>= (λ a. tested uri (us a) (give a))) refl
    (λ bytes e. bind-same {A = A} {B = B} (found uri rule (read bytes)) (found uri rule (read bytes)) (λ a. tested uri (ts a) (give a)) (λ a. tested uri (us a) (give a)) refl
    (λ a says. ap (λ (tests : List Test). tested uri tests (give a)) (all bytes e a (found-ok uri rule (read bytes) a says))))

-- ---- what is asked of bytes

in-certificate : (key bytes : List ℕ) (c : SignedCert) → certificate_in bytes ≡ Some c → Contains (asked_of key bytes) (asked key c.digest c.signature)
in-certificate key bytes c says =
    let first : Contains (of_certificate key (certificate_in bytes)) (asked key c.digest c.signature) =
    subst (λ (o : Option SignedCert). Contains (of_certificate key o) (asked key c.digest c.signature)) (sym says) (here (asked key c.digest c.signature) []) in
    Contains-append_left _ _ _ (Contains-append_left _ _ _ (Contains-append_left _ _ _ first))

in-crl : (key bytes : List ℕ) (c : SignedCrl) → crl_in bytes ≡ Some c → Contains (asked_of key bytes) (asked key c.digest c.signature)
in-crl key bytes c says =
    let first : Contains (of_crl key (crl_in bytes)) (asked key c.digest c.signature) =
    subst (λ (o : Option SignedCrl). Contains (of_crl key o) (asked key c.digest c.signature)) (sym says) (here (asked key c.digest c.signature) []) in
    Contains-append_left _ _ _ (Contains-append_left _ _ _ (Contains-append_right (of_certificate key (certificate_in bytes)) _ _ first))

-- Both signatures of a signed object.
record BothIn {Body : Type 0} (all : List Asked) (key : List ℕ) (x : Signed Body) : Type 0 where
  outer : Contains all (asked key x.certificate.digest x.certificate.signature)
  inner : Contains all (asked x.certificate.cert.key x.object.digest x.object.signature)

in-signed : {Body : Type 0} (key : List ℕ) (o : Option (Signed Body)) (x : Signed Body) → o ≡ Some x → BothIn (of_signed key o) key x
in-signed key o x says = subst (λ p. BothIn (of_signed key p) key x) (sym says) (record {
  outer = here (asked key x.certificate.digest x.certificate.signature) (asked x.certificate.cert.key x.object.digest x.object.signature ∷ []);
  inner = there (asked key x.certificate.digest x.certificate.signature) (asked x.certificate.cert.key x.object.digest x.object.signature ∷ []) (asked x.certificate.cert.key x.object.digest x.object.signature)
      (here (asked x.certificate.cert.key x.object.digest x.object.signature) []);
})

in-manifest : (key bytes : List ℕ) (m : SignedManifest) → manifest_in bytes ≡ Some m → BothIn (asked_of key bytes) key m
in-manifest key bytes m says =
    let both = in-signed key (manifest_in bytes) m says in
    let front = of_certificate key (certificate_in bytes) ++ of_crl key (crl_in bytes) in
    record {
      outer = Contains-append_left _ _ _ (Contains-append_right front _ _ both.outer);
      inner = Contains-append_left _ _ _ (Contains-append_right front _ _ both.inner);
    }

in-roa : (key bytes : List ℕ) (r : SignedRoa) → roa_in bytes ≡ Some r → BothIn (asked_of key bytes) key r
in-roa key bytes r says =
    let both = in-signed key (roa_in bytes) r says in
    let front = of_certificate key (certificate_in bytes) ++ of_crl key (crl_in bytes) ++ of_signed key (manifest_in bytes) in
    record { outer = Contains-append_right front _ _ both.outer; inner = Contains-append_right front _ _ both.inner }

-- ---- what is published

in-flat : {X Y : Type 0} (f : X → List Y) (xs : List X) (x : X) (y : Y) → Contains xs x → Contains (f x) y → Contains (flat_map f xs) y
in-flat f [] x y c d = absurd (none x c)
in-flat f (z ∷ zs) x y c d = elim (first-or-rest z zs x c) [
  | inl same ↦ Contains-append_left (f z) (flat_map f zs) y (subst (λ w. Contains (f w) y) (sym same) d)
  | inr rest ↦ Contains-append_right (f z) (flat_map f zs) y (in-flat f zs x y rest d)
]

in-map : {X Y : Type 0} (f : X → Y) (xs : List X) (x : X) → Contains xs x → Contains (map f xs) (f x)
in-map f [] x c = absurd (none x c)
in-map f (z ∷ zs) x c = elim (first-or-rest z zs x c) [
  | inl same ↦ subst (λ w. Contains (f z ∷ map f zs) (f w)) same (here (f z) (map f zs))
  | inr rest ↦ there (f z) (map f zs) (f x) (in-map f zs x rest)
]

part-at : {X : Type 0} (b : Bool) (y : X) (kept ys : List X) (x : X) → (Contains kept x → Contains ys x) → Contains (cond b (y ∷ kept) kept) x → Contains (y ∷ ys) x
part-at true y kept ys x rest c = elim (first-or-rest y kept x c) [
  | inl same ↦ subst (λ z. Contains (y ∷ ys) z) same (here y ys)
  | inr later ↦ there y ys x (rest later)
]
part-at false y kept ys x rest c = there y ys x (rest c)

part-of : {X : Type 0} (test : X → Bool) (xs : List X) (x : X) → Contains (filter test xs) x → Contains xs x
part-of test [] x c = absurd (none x c)
part-of test (y ∷ ys) x c = part-at (test y) y (filter test ys) ys x (part-of test ys x) c

first-in : (xs : List File) (f : File) → first_of xs ≡ Some f → Contains xs f
first-in [] f e = absurd cc
first-in (x ∷ xs) f e = subst (λ (g : File). Contains (x ∷ xs) g) (same x f e) (here x xs)
  where
    same : (a b : File) → Some a ≡ Some b → a ≡ b
    same a b e = cc

-- An authority whose certificate stands in the set.
record IsKnown (held : Contents) (a : Authority) : Type 0 where
  cert : SignedCert
  there : IsThere held cert
  same : cert.cert ≡ a.cert

-- The manifest stands in its place.
record IsManifestOf (held : Contents) (a : Authority) (m : SignedManifest) : Type 0 where
  bytes : List ℕ
  there : held (manifest_place a) ≡ Some bytes
  says : manifest_in bytes ≡ Some m

file-published : (held : Contents) (a : Authority) (m : SignedManifest) (file : File) → IsManifestOf held a m → Contains (files_of m.body) file → Contains (published held a.cert) (listed_uri a file.0)
file-published held a m file is listed =
    let files : Contains (files_in (held a.cert.uris.manifest)) file =
    subst (λ (o : Option (List ℕ)). Contains (files_in o) file) (sym is.there) (subst (λ (o : Option SignedManifest). Contains (files_if o) file) (sym is.says) listed) in
    there a.cert.uris.manifest (map (λ (f : File). a.cert.uris.folder ++ f.0) (files_in (held a.cert.uris.manifest))) (listed_uri a file.0)
    (in-map (λ (f : File). a.cert.uris.folder ++ f.0) (files_in (held a.cert.uris.manifest)) file files)

-- What is asked under an authority's key of the bytes at a published URI.
asked-there : (s : WalkContext) (held : Contents) (a : Authority) (uri bytes : List ℕ) (x : Asked) → IsKnown held a → Contains (published held a.cert) uri → held uri ≡ Some bytes → Contains (asked_of a.cert.key bytes) x → IsAsked s held x
asked-there s held a uri bytes x known there-published there-bytes c =
    let at : Contains (asked_at held a.cert.key uri) x = subst (λ (o : Option (List ℕ)). Contains (asked_if a.cert.key o) x) (sym there-bytes) c in
    let under : Contains (asked_under held a.cert) x = in-flat (asked_at held a.cert.key) (published held a.cert) uri x there-published at in
    inr (known.cert, known.there, subst (λ (v : CertValue). Contains (asked_under held v) x) (sym known.same) under)

-- ---- objects

signed-same : {Body : Type 0} (s : WalkContext) (other : Vouched) (held : Contents) (a : Authority) (uri bytes : List ℕ) (x : Signed Body) → SaysSame s other held → IsKnown held a → Contains (published held a.cert) uri → held uri ≡ Some bytes → BothIn (asked_of a.cert.key bytes) a.cert.key x
    → is_signed (vouching s other) a x ≡ is_signed s a x
signed-same s other held a uri bytes x says known in-place there-bytes both =
    ap₂ (λ (p q : Bool). p && q)
    (says (asked a.cert.key x.certificate.digest x.certificate.signature) (asked-there s held a uri bytes (asked a.cert.key x.certificate.digest x.certificate.signature) known in-place there-bytes both.outer))
    (says (asked x.certificate.cert.key x.object.digest x.object.signature) (asked-there s held a uri bytes (asked x.certificate.cert.key x.object.digest x.object.signature) known in-place there-bytes both.inner))

anchor-same : (s : WalkContext) (other : Vouched) (held : Contents) → SaysSame s other held → accepted_anchor (vouching s other) held ≡ accepted_anchor s held
unfolding accepted_anchor
anchor-same s other held says =
    let uri = anchor_uri s.bases in
    read-same (found uri rule.Missing (held uri)) uri rule.Shape (λ bytes. such is_anchors (certificate_in bytes)) (anchor_tests s) (anchor_tests (vouching s other)) (anchor_of uri)
    (λ bytes e c reads.
    let first : Contains (asked_at held s.anchor uri) (asked s.anchor c.digest c.signature) = subst (λ (o : Option (List ℕ)). Contains (asked_if s.anchor o) (asked s.anchor c.digest c.signature)) (sym (found-ok uri rule.Missing (held uri) bytes e))
    (in-certificate s.anchor bytes c (such-ok is_anchors (certificate_in bytes) c reads)) in
    ap (λ (b : Bool). (rule.Signature, b) ∷ tail (anchor_tests s c)) (says (asked s.anchor c.digest c.signature) (inl first)))

authority-same : (s : WalkContext) (other : Vouched) (held : Contents) (issuer : Authority) (revoked : List CrlEntry) (seen : List (List ℕ)) (file : File) → SaysSame s other held → IsKnown held issuer → Contains (published held issuer.cert) (listed_uri issuer file.0)
    → accepted_authority (vouching s other) held issuer revoked seen file ≡ accepted_authority s held issuer revoked seen file
unfolding accepted_authority
authority-same s other held issuer revoked seen file says known in-place =
    let uri = listed_uri issuer file.0 in
    read-same (listed_bytes held uri file) uri rule.Shape (λ bytes. such is_authoritys (certificate_in bytes)) (authority_tests s issuer revoked seen uri) (authority_tests (vouching s other) issuer revoked seen uri) (authority_of issuer uri)
    (λ bytes e c reads. ap (λ (b : Bool). (rule.Signature, b) ∷ tail (authority_tests s issuer revoked seen uri c)) (says (asked issuer.cert.key c.digest c.signature)
    (asked-there s held issuer uri bytes (asked issuer.cert.key c.digest c.signature) known in-place (listed-ok held uri file bytes e).0 (in-certificate issuer.cert.key bytes c (such-ok is_authoritys (certificate_in bytes) c reads)))))

manifest-same : (s : WalkContext) (other : Vouched) (held : Contents) (a : Authority) (seen : List (List ℕ)) → SaysSame s other held → IsKnown held a → accepted_manifest (vouching s other) held a seen ≡ accepted_manifest s held a seen
unfolding accepted_manifest
manifest-same s other held a seen says known =
    let uri = manifest_place a in
    read-same (found uri rule.Missing (held uri)) uri rule.Shape manifest_in (manifest_tests s a seen) (manifest_tests (vouching s other) a seen) (λ m. m)
    (λ bytes e m reads. ap (λ (b : Bool). (rule.Signature, b) ∷ tail (manifest_tests s a seen m))
    (signed-same s other held a uri bytes m says known (here uri (map (λ (f : File). a.cert.uris.folder ++ f.0) (files_in (held a.cert.uris.manifest)))) (found-ok uri rule.Missing (held uri) bytes e) (in-manifest a.cert.key bytes m reads)))

crl-same : (s : WalkContext) (other : Vouched) (held : Contents) (a : Authority) (seen : List (List ℕ)) (file : File) → SaysSame s other held → IsKnown held a → Contains (published held a.cert) (listed_uri a file.0)
    → accepted_crl (vouching s other) held a seen file ≡ accepted_crl s held a seen file
unfolding accepted_crl
crl-same s other held a seen file says known in-place =
    let uri = listed_uri a file.0 in
    read-same (listed_bytes held uri file) uri rule.Shape crl_in (crl_tests s a seen uri) (crl_tests (vouching s other) a seen uri) (λ c. c.crl)
    (λ bytes e c reads. ap (λ (b : Bool). (rule.Signature, b) ∷ tail (crl_tests s a seen uri c)) (says (asked a.cert.key c.digest c.signature)
    (asked-there s held a uri bytes (asked a.cert.key c.digest c.signature) known in-place (listed-ok held uri file bytes e).0 (in-crl a.cert.key bytes c reads))))

roa-same : (s : WalkContext) (other : Vouched) (held : Contents) (p : Point) (seen : List (List ℕ)) (file : File) → SaysSame s other held → IsKnown held p.authority → Contains (published held p.authority.cert) (listed_uri p.authority file.0)
    → accepted_roa (vouching s other) held p seen file ≡ accepted_roa s held p seen file
unfolding accepted_roa
roa-same s other held p seen file says known in-place =
    let uri = listed_uri p.authority file.0 in
    read-same (listed_bytes held uri file) uri rule.Shape roa_in (roa_tests s p seen uri) (roa_tests (vouching s other) p seen uri) (λ r. r)
    (λ bytes e r reads. ap (λ (b : Bool). (rule.Signature, b) ∷ tail (roa_tests s p seen uri r))
    (signed-same s other held p.authority uri bytes r says known in-place (listed-ok held uri file bytes e).0 (in-roa p.authority.cert.key bytes r reads)))

-- ---- points

manifest-there : (s : WalkContext) (held : Contents) (a : Authority) (seen : List (List ℕ)) (m : SignedManifest) → accepted_manifest s held a seen ≡ Ok m → IsManifestOf held a m
unfolding accepted_manifest
manifest-there s held a seen m e =
    let uri = manifest_place a in
    let one = read-ok (found uri rule.Missing (held uri)) uri rule.Shape manifest_in (manifest_tests s a seen) (λ x. x) m e in
    record { bytes = one.0; there = found-ok uri rule.Missing (held uri) one.0 one.1; says = one.3 ∙ ap Some one.4 }

abbrev made : Authority → SignedManifest → CrlValue → Checked Point
made a m crl = tested (manifest_place a) (point_tests m crl) (record { authority = a; manifest = m; crl = crl })

abbrev behind-list : WalkContext → Contents → Authority → List (List ℕ) → SignedManifest → File → Checked Point
behind-list s held a seen m file = accepted_crl s held a (seen ++ manifest_place a ∷ []) file >>= made a m

abbrev behind-manifest : WalkContext → Contents → Authority → List (List ℕ) → SignedManifest → Checked Point
behind-manifest s held a seen m = found (manifest_place a) rule.List (crl_file m.body) >>= behind-list s held a seen m

point-same : (s : WalkContext) (other : Vouched) (held : Contents) (a : Authority) (seen : List (List ℕ)) → SaysSame s other held → IsKnown held a → accepted_point (vouching s other) held a seen ≡ accepted_point s held a seen
unfolding accepted_point
point-same s other held a seen says known =
    bind-same (accepted_manifest s held a seen) (accepted_manifest (vouching s other) held a seen) (behind-manifest s held a seen) (behind-manifest (vouching s other) held a seen)
    (manifest-same s other held a seen says known) (λ m e.
    bind-same (found (manifest_place a) rule.List (crl_file m.body)) (found (manifest_place a) rule.List (crl_file m.body)) (behind-list s held a seen m) (behind-list (vouching s other) held a seen m) refl (λ file first.
    let listed = part-of is_crl_file (files_of m.body) file (first-in (filter is_crl_file (files_of m.body)) file (found-ok (manifest_place a) rule.List (crl_file m.body) file first)) in
    bind-same (accepted_crl s held a (seen ++ manifest_place a ∷ []) file) (accepted_crl (vouching s other) held a (seen ++ manifest_place a ∷ []) file) (made a m) (made a m)
    (crl-same s other held a (seen ++ manifest_place a ∷ []) file says known (file-published held a m file (manifest-there s held a seen m e) listed)) (λ crl f. refl)))

-- The authority of an accepted point, and its manifest.
record IsPoint (held : Contents) (a : Authority) (p : Point) : Type 0 where
  above : p.authority ≡ a
  manifest : IsManifestOf held a p.manifest

point-there : (s : WalkContext) (held : Contents) (a : Authority) (seen : List (List ℕ)) (p : Point) → accepted_point s held a seen ≡ Ok p → IsPoint held a p
unfolding accepted_point
point-there s held a seen p e =
    let m = bind-ok (accepted_manifest s held a seen) (behind-manifest s held a seen) p e in
    let file = bind-ok (found (manifest_place a) rule.List (crl_file m.0.body)) (behind-list s held a seen m.0) p m.2 in
    let crl = bind-ok (accepted_crl s held a (seen ++ manifest_place a ∷ []) file.0) (made a m.0) p file.2 in
    let same = tested-ok (manifest_place a) (point_tests m.0 crl.0) (record { authority = a; manifest = m.0; crl = crl.0 }) p crl.2 in
    subst (λ (q : Point). IsPoint held a q) same.0 (record { above = refl; manifest = manifest-there s held a seen m.0 m.1 })

-- ---- the walk

child-known : (s : WalkContext) (held : Contents) (issuer : Authority) (revoked : List CrlEntry) (seen : List (List ℕ)) (file : File) (child : Authority) → accepted_authority s held issuer revoked seen file ≡ Ok child → IsKnown held child
unfolding accepted_authority
child-known s held issuer revoked seen file child e =
    let uri = listed_uri issuer file.0 in
    let one = read-ok (listed_bytes held uri file) uri rule.Shape (λ bytes. such is_authoritys (certificate_in bytes)) (authority_tests s issuer revoked seen uri) (authority_of issuer uri) child e in
    record {
      cert = one.2;
      there = record { uri = uri; bytes = one.0; there = (listed-ok held uri file one.0 one.1).0; says = such-ok is_authoritys (certificate_in one.0) one.2 one.3 };
      same = ap (λ (a : Authority). a.cert) one.4;
    }

anchor-known : (s : WalkContext) (held : Contents) (anchor : Authority) → accepted_anchor s held ≡ Ok anchor → IsKnown held anchor
unfolding accepted_anchor
anchor-known s held anchor e =
    let uri = anchor_uri s.bases in
    let one = read-ok (found uri rule.Missing (held uri)) uri rule.Shape (λ bytes. such is_anchors (certificate_in bytes)) (anchor_tests s) (anchor_of uri) anchor e in
    record {
      cert = one.2;
      there = record { uri = uri; bytes = one.0; there = found-ok uri rule.Missing (held uri) one.0 one.1; says = such-ok is_anchors (certificate_in one.0) one.2 one.3 };
      same = ap (λ (a : Authority). a.cert) one.4;
    }

-- Both go on alike below an authority of the set.
abbrev GoesAlike : Contents → Below → Below → Type 0
GoesAlike held below other = (a : Authority) (visits : List Visit) → IsKnown held a → other a visits ≡ below a visits

file-same : (s : WalkContext) (other : Vouched) (held : Contents) (below below' : Below) (p : Point) (file : File) (visits : List Visit) → SaysSame s other held → GoesAlike held below below' → IsKnown held p.authority → Contains (published held p.authority.cert) (listed_uri p.authority file.0)
    → visit_file (vouching s other) held below' p file visits ≡ visit_file s held below p file visits
unfolding visit_file
file-same s other held below below' p file visits says alike known in-place =
    either-same (is_certificate_file file)
    (accepted_authority s held p.authority p.crl.entries (visited visits) file >>= (λ a. below a (visits ++ Certificate a ∷ [])))
    (accepted_authority (vouching s other) held p.authority p.crl.entries (visited visits) file >>= (λ a. below' a (visits ++ Certificate a ∷ [])))
    (accepted_roa s held p (visited visits) file >>= (λ roa. Ok (visits ++ Route p.authority (listed_uri p.authority file.0) roa ∷ [])))
    (accepted_roa (vouching s other) held p (visited visits) file >>= (λ roa. Ok (visits ++ Route p.authority (listed_uri p.authority file.0) roa ∷ [])))
    (bind-same (accepted_authority s held p.authority p.crl.entries (visited visits) file) (accepted_authority (vouching s other) held p.authority p.crl.entries (visited visits) file)
    (λ a. below a (visits ++ Certificate a ∷ [])) (λ a. below' a (visits ++ Certificate a ∷ []))
    (authority-same s other held p.authority p.crl.entries (visited visits) file says known in-place)
    (λ a e. alike a (visits ++ Certificate a ∷ []) (child-known s held p.authority p.crl.entries (visited visits) file a e)))
    (ap (λ m. m >>= (λ roa. Ok (visits ++ Route p.authority (listed_uri p.authority file.0) roa ∷ []))) (roa-same s other held p (visited visits) file says known in-place))

files-same : (s : WalkContext) (other : Vouched) (held : Contents) (below below' : Below) (p : Point) (files : List File) (visits : List Visit) → SaysSame s other held → GoesAlike held below below' → IsKnown held p.authority
    → ((file : File) → Contains files file → Contains (published held p.authority.cert) (listed_uri p.authority file.0))
    → visit_files (vouching s other) held below' p files visits ≡ visit_files s held below p files visits
unfolding visit_files
files-same s other held below below' p [] visits says alike known places = refl
files-same s other held below below' p (file ∷ files) visits says alike known places =
    bind-same (visit_file s held below p file visits) (visit_file (vouching s other) held below' p file visits) (visit_files s held below p files) (visit_files (vouching s other) held below' p files)
    (file-same s other held below below' p file visits says alike known (places file (here file files)))
    (λ next e. files-same s other held below below' p files next says alike known (λ f c. places f (there file files f c)))

below-same : (levels : ℕ) (s : WalkContext) (other : Vouched) (held : Contents) → SaysSame s other held → GoesAlike held (visit_below levels s held) (visit_below levels (vouching s other) held)
unfolding visit_below
below-same zero s other held says a visits known = refl
below-same (suc levels) s other held says a visits known =
    bind-same (accepted_point s held a (visited visits)) (accepted_point (vouching s other) held a (visited visits))
    (λ p. visit_files s held (visit_below levels s held) p (other_files p) (visits ++ Published p ∷ []))
    (λ p. visit_files (vouching s other) held (visit_below levels (vouching s other) held) p (other_files p) (visits ++ Published p ∷ []))
    (point-same s other held a (visited visits) says known)
    (λ p e.
    let is = point-there s held a (visited visits) p e in
    let manifest : IsManifestOf held p.authority p.manifest = subst (λ (b : Authority). IsManifestOf held b p.manifest) (sym is.above) is.manifest in
    files-same s other held (visit_below levels s held) (visit_below levels (vouching s other) held) p (other_files p) (visits ++ Published p ∷ []) says (below-same levels s other held says)
    (subst (λ (b : Authority). IsKnown held b) (sym is.above) known)
    (λ file c. file-published held p.authority p.manifest file manifest (part-of (λ (f : File). not (is_crl_file f)) (files_of p.manifest.body) file c)))

walk-same : (s : WalkContext) (other : Vouched) (held : Contents) → SaysSame s other held → walk (vouching s other) held ≡ walk s held
unfolding walk
walk-same s other held says =
    bind-same (accepted_anchor s held) (accepted_anchor (vouching s other) held)
    (λ anchor. visit_below 65 s held anchor (Certificate anchor ∷ [])) (λ anchor. visit_below 65 (vouching s other) held anchor (Certificate anchor ∷ []))
    (anchor-same s other held says)
    (λ anchor e. below-same 65 s other held says anchor (Certificate anchor ∷ []) (anchor-known s held anchor e))

pub same_walk : (s : WalkContext) (other : Vouched) (objects : List Object) → SaysSame s other (content_at objects) → walk (vouching s other) (content_at objects) ≡ walk s (content_at objects)
same_walk s other objects says = walk-same s other (content_at objects) says
