-- What a walk visits: each authority's point too, and each URI is one of a key, of a ROA, or the anchor's.
use Rattle.std.proofs.Common.{◌≡◌, ℕ, zero, suc, ◌+◌, ◌-◌, ◌<◌, ◌≤◌, ◌||◌, nat_lt, nat_le, nat_eq, Bool, true, false, not, cond, List, [], ◌∷◌, ◌++◌, take, drop, length, codes, Option, None, Some, Ok, Err, refl, sym, ap, subst, ◌∙◌, arith, ◌⊎◌, inl, inr, append_assoc, length-append, length-take, length-drop, get_or-append-add, get_or, take_at, take-add, leb-true, ltb-true}
use Rattle.std.specs.Prelude.{if◌then◌else◌, ⊤, Contains}
use Rattle.std.specs.List.{list_all, ends_with}
use Rattle.std.specs.Str.{bytes_eq}
use Rattle.std.proofs.lemmas.Bool.{and_parts}
use Rattle.std.proofs.lemmas.Bool.Decides.{Decides-eqb}
use Rattle.std.proofs.lemmas.List.Sums.{AllPass-from_list_all}
use Rattle.std.proofs.lemmas.List.Elements.{Contains-append_left, Contains-push, Contains-push_cases}
use Rattle.std.proofs.lemmas.Slice.Eq.{bytes_eq-Decides, starts_is, ends_is}
use Rattle.items.specs.laws.ElementLaws.{none, here, first-or-rest, from-filter}
use Rattle.items.specs.laws.AmongLaws.{In, contains-in}
use Rattle.names.specs.Name.{IsName, is_name_byte}
use Rattle.sha2.specs.Sha256.{sha256}
use Rattle.key_ids.specs.Uris.{Bases, anchor_uri, folder_of, cert_uri, crl_uri, manifest_uri}
use Rattle.cert_obj.specs.Values.{SignedCert}
use Rattle.crl_obj.specs.Values.{CrlValue, SignedCrl}
use Rattle.crl_obj.specs.declared.values.CrlEntry.{CrlEntry}
use Rattle.pub_set.specs.Changes.{Contents}
use Rattle.rp_rules.specs.declared.rules.Rule.{Rule}
use Rattle.rp_rules.specs.declared.rules.Rule.TheVariants as rule
use Rattle.rp_rules.specs.Checks.{Refused, Checked, Test, ◌>>=◌, tested, found}
use Rattle.rp_rules.specs.Objects.{SignedManifest, SignedRoa, such, certificate_in, is_anchors, is_authoritys, crl_in, manifest_in}
use Rattle.rp_rules.specs.Authorities.{Authority, key_id, listed_uri, crl_uri_of, manifest_place, certificate_uri_of, manifest_in_folder, is_authority_name, between, is_folder}
use Rattle.rp_rules.specs.Certificates.{WalkContext, File, lies_in, listed_bytes, anchor_tests, anchor_of, accepted_anchor, authority_tests, authority_of, accepted_authority}
use Rattle.rp_rules.specs.Points.{Point, is_certificate_file, is_crl_file, is_roa_file, is_file_in_use, files_of, is_list, other_files, manifest_tests, accepted_manifest, crl_tests, accepted_crl, crl_file, point_tests, accepted_point, accepted_roa}
use Rattle.rp_rules.specs.Walk.{Visit, Certificate, Published, Route, Below, uris_of, visited, visit_file, visit_files, visit_below, walk}
use Rattle.rp_rules.specs.Accepted.{IsAccepted, AreAccepted}
use Rattle.issue_values.specs.UriEndings.{last_byte}

-- ---- checks

same-ok : {A : Type 0} (x y : A) (m : Checked A) → m ≡ Ok x → m ≡ Ok y → x ≡ y
same-ok x y m one other = cc

bind-ok : {A B : Type 0} (m : Checked A) (f : A → Checked B) (y : B) → (m >>= f) ≡ Ok y → (x : A) × (m ≡ Ok x) × (f x ≡ Ok y)
bind-ok (Ok x) f y e = (x, refl, e)
bind-ok (Err r) f y e = absurd cc

abbrev AllKept : List Test → Type 0
AllKept [] = ⊤
AllKept (t ∷ ts) = (t.1 ≡ true) × AllKept ts

if-ok : {A : Type 0} (b : Bool) (m : Checked A) (r : Refused) (y : A) → (if b then m else Err r) ≡ Ok y → (b ≡ true) × (m ≡ Ok y)
if-ok true m r y e = (refl, e)
if-ok false m r y e = absurd cc

tested-ok : {A : Type 0} (uri : List ℕ) (ts : List Test) (x y : A) → tested uri ts x ≡ Ok y → (x ≡ y) × AllKept ts
tested-ok uri [] x y e = (same-ok x y (Ok x) refl e, tt)
tested-ok uri (t ∷ ts) x y e =
    let one = if-ok t.1 (tested uri ts x) (record { uri = uri; rule = t.0 }) y e in
    let rest = tested-ok uri ts x y one.1 in
    (rest.0, (one.0, rest.1))

found-ok : {A : Type 0} (uri : List ℕ) (rule : Rule) (o : Option A) (x : A) → found uri rule o ≡ Ok x → o ≡ Some x
found-ok uri rule None x e = absurd cc
found-ok uri rule (Some y) x e = ap Some (same-ok y x (Ok y) refl e)

-- What was read, and what it keeps.
read-ok : {A B : Type 0} (m : Checked (List ℕ)) (uri : List ℕ) (rule : Rule) (read : List ℕ → Option A) (ts : A → List Test) (give : A → B) (y : B)
    → (m >>= (λ bytes. found uri rule (read bytes) >>= (λ a. tested uri (ts a) (give a)))) ≡ Ok y
    → (bytes : List ℕ) × (m ≡ Ok bytes) × (a : A) × (read bytes ≡ Some a) × (give a ≡ y) × AllKept (ts a)
read-ok {A = A} {B = B} m uri rule read ts give y e =
    let one = bind-ok {A = List ℕ} {B = B} m (λ bytes. found uri rule (read bytes) >>= (λ a. tested uri (ts a) (give a))) y e in
    let two = bind-ok {A = A} {B = B} (found uri rule (read one.0)) (λ a. tested uri (ts a) (give a)) y one.2 in
    let three = tested-ok uri (ts two.0) (give two.0) y two.2 in
    (one.0, one.1, two.0, found-ok uri rule (read one.0) two.0 two.1, three.0, three.1)

same-bytes : (xs ys : List ℕ) → bytes_eq xs ys ≡ true → xs ≡ ys
same-bytes xs ys e = (bytes_eq-Decides xs ys).0 e

-- ---- folders

named-text : (text : List ℕ) → is_authority_name text ≡ true → IsName text
named-text text e =
    let two = and_parts _ _ e in
    let one = and_parts _ _ two.0 in
    let some = one.0 in
    let short = one.1 in
    record { not_empty = lower some; short = upper short; plain = AllPass-from_list_all is_name_byte text two.1 }
  where
    lower : nat_lt 0 (length text) ≡ true → 0 < length text
    lower h = ltb-true 0 (length text) h

    upper : nat_le (length text) 64 ≡ true → length text ≤ 64
    upper h = leb-true (length text) 64 h

-- What stands between a front and an end.
in-between : (front end text : List ℕ) → text ≡ front ++ drop (length front) text → text ≡ take (length text - length end) text ++ end
    → 0 < length (between (length front) (length end) text) → text ≡ (front ++ between (length front) (length end) text) ++ end
in-between front end text starts ends some =
    let r = length front in
    let n = length end in
    let k = length text - (r + n) in
    let long = length-take k (drop r text) in
    let left = length-drop r text in
    let fits : r + n < length text = omega (arith, long, left, some) in
    let place : length text - n ≡ r + k = omega (arith, fits) in
    let first : take r text ≡ front = ap (λ (xs : List ℕ). take r xs) starts ∙ take_at front (drop r text) r refl in
    let both : take (length text - n) text ≡ front ++ take k (drop r text) =
    ap (λ (j : ℕ). take j text) place ∙ (take-add r k text ∙ ap (λ (xs : List ℕ). xs ++ take k (drop r text)) first) in
    ends ∙ ap (λ (xs : List ℕ). xs ++ end) both

-- The folder of an authority is that of a name.
record IsNameFolder (site : Bases) (folder : List ℕ) : Type 0 where
  name : List ℕ
  plain : IsName name
  is : folder ≡ folder_of site name

named-folder : (site : Bases) (folder : List ℕ) → is_folder site folder ≡ true → IsNameFolder site folder
named-folder site folder e =
    let two = and_parts _ _ e in
    let one = and_parts _ _ two.0 in
    let starts = (starts_is Decides-eqb folder site.rsync _ refl).0 one.0 in
    let ends = (ends_is Decides-eqb folder (codes "/0/") _ refl).0 one.1 in
    let plain = named-text (between (length site.rsync) 3 folder) two.1 in
    let some = plain.not_empty in
    record { name = between (length site.rsync) 3 folder; plain = plain; is = in-between site.rsync (codes "/0/") folder starts ends some }

-- ---- authorities

-- An authority publishes in the folder of a name, and its manifest stands there.
pub record IsNamed (site : Bases) (a : Authority) : Type 0 where
  pub name : List ℕ
  pub plain : IsName name
  pub folder : a.cert.uris.folder ≡ folder_of site name
  pub manifest : manifest_place a ≡ manifest_uri site name (key_id a.cert)

named-by : (site : Bases) (a : Authority) (name : List ℕ) → IsName name → a.cert.uris.folder ≡ folder_of site name
    → a.cert.uris.manifest ≡ manifest_in_folder a.cert.uris.folder a.cert → IsNamed site a
named-by site a name plain folder manifest = record {
  name = name;
  plain = plain;
  folder = folder;
  manifest = manifest ∙ (ap (λ (f : List ℕ). manifest_in_folder f a.cert) folder ∙ append_assoc (folder_of site name) _ _);
}

anchor-ok : (s : WalkContext) (held : Contents) (a : Authority) → accepted_anchor s held ≡ Ok a → (a.uri ≡ anchor_uri s.bases) × IsNamed s.bases a
unfolding accepted_anchor
anchor-ok s held a e =
    let uri = anchor_uri s.bases in
    let one = read-ok (found uri rule.Missing (held uri)) uri rule.Shape (λ bytes. such is_anchors (certificate_in bytes)) (anchor_tests s) (anchor_of uri) a e in
    let c = one.2 in
    let place = and_parts _ _ (and_parts _ _ one.5.1.1.1.1.0).0 in
    let folder = same-bytes c.cert.uris.folder (folder_of s.bases (codes "ta")) place.0 in
    let manifest = same-bytes c.cert.uris.manifest (manifest_in_folder (folder_of s.bases (codes "ta")) c.cert) place.1 in
    let named : IsNamed s.bases (anchor_of uri c) = named-by s.bases (anchor_of uri c) (codes "ta") (named-text (codes "ta") refl) folder
    (manifest ∙ ap (λ (f : List ℕ). manifest_in_folder f c.cert) (sym folder)) in
    subst (λ (b : Authority). (b.uri ≡ uri) × IsNamed s.bases b) one.4 (refl, named)

-- The trust anchor's certificate, where a walk begins.
pub record HasAnchor (s : WalkContext) (held : Contents) : Type 0 where
  pub bytes : List ℕ
  pub there : held (anchor_uri s.bases) ≡ Some bytes
  pub certificate : SignedCert
  pub read : certificate_in bytes ≡ Some certificate
  pub subject : certificate.cert.key ≡ s.anchor
  pub folder : certificate.cert.uris.folder ≡ folder_of s.bases (codes "ta")

such-some : {X : Type 0} (test : X → Bool) (o : Option X) (x : X) → such test o ≡ Some x → o ≡ Some x
such-some test None x e = absurd cc
such-some {X} test (Some y) x e = by (test y) e
  where
    by : (b : Bool) → cond b (Some y) None ≡ Some x → Some y ≡ Some x
    by true same = same
    by false none = absurd cc

anchor-read : (s : WalkContext) (held : Contents) (a : Authority) → accepted_anchor s held ≡ Ok a → HasAnchor s held
unfolding accepted_anchor
anchor-read s held a e =
    let uri = anchor_uri s.bases in
    let one = read-ok (found uri rule.Missing (held uri)) uri rule.Shape (λ bytes. such is_anchors (certificate_in bytes)) (anchor_tests s) (anchor_of uri) a e in
    let c = one.2 in
    let place = and_parts _ _ (and_parts _ _ one.5.1.1.1.1.0).0 in
    record {
      bytes = one.0;
      there = found-ok uri rule.Missing (held uri) one.0 one.1;
      certificate = c;
      read = such-some is_anchors (certificate_in one.0) c one.3;
      subject = same-bytes c.cert.key s.anchor (and_parts _ _ one.5.1.0).1;
      folder = same-bytes c.cert.uris.folder (folder_of s.bases (codes "ta")) place.0;
    }

authority-ok : (s : WalkContext) (held : Contents) (issuer : Authority) (revoked : List CrlEntry) (seen : List (List ℕ)) (file : File) (child : Authority)
    → accepted_authority s held issuer revoked seen file ≡ Ok child → (child.uri ≡ certificate_uri_of issuer child.cert) × IsNamed s.bases child
unfolding accepted_authority
authority-ok s held issuer revoked seen file child e =
    let uri = listed_uri issuer file.0 in
    let one = read-ok (listed_bytes held uri file) uri rule.Shape (λ bytes. such is_authoritys (certificate_in bytes)) (authority_tests s issuer revoked seen uri) (authority_of issuer uri) child e in
    let c = one.2 in
    let four = and_parts _ _ one.5.1.1.1.1.1.0 in
    let three = and_parts _ _ four.0 in
    let two = and_parts _ _ three.0 in
    let at = (and_parts _ _ two.0).1 in
    let folder = named-folder s.bases c.cert.uris.folder two.1 in
    let manifest = same-bytes c.cert.uris.manifest (manifest_in_folder c.cert.uris.folder c.cert) three.1 in
    let named : IsNamed s.bases (authority_of issuer uri c) = named-by s.bases (authority_of issuer uri c) folder.name folder.plain folder.is manifest in
    subst (λ (b : Authority). (b.uri ≡ certificate_uri_of issuer b.cert) × IsNamed s.bases b) one.4
    (same-bytes uri (certificate_uri_of issuer c.cert) at, named)

-- ---- points

-- The CRL was read from bytes of the set, and is of that moment.
pub record IsDatedCrl (s : WalkContext) (held : Contents) (crl : CrlValue) : Type 0 where
  pub uri : List ℕ
  pub bytes : List ℕ
  pub there : held uri ≡ Some bytes
  pub signed : SignedCrl
  pub read : crl_in bytes ≡ Some signed
  pub is : signed.crl ≡ crl
  pub past : crl.this_update ≤ s.moment

listed-there : (held : Contents) (uri : List ℕ) (file : File) (bytes : List ℕ) → listed_bytes held uri file ≡ Ok bytes → held uri ≡ Some bytes
unfolding listed_bytes
listed-there held uri file bytes e =
    let one = bind-ok (found uri rule.Missing (held uri)) (λ bs. tested uri ((rule.Hash, bytes_eq (sha256 bs) file.1) ∷ []) bs) bytes e in
    let two = tested-ok uri ((rule.Hash, bytes_eq (sha256 one.0) file.1) ∷ []) one.0 bytes one.2 in
    found-ok uri rule.Missing (held uri) one.0 one.1 ∙ ap Some two.0

begun : (m a b : ℕ) → lies_in m a b ≡ true → a ≤ m
begun m a b e = let one = (and_parts (nat_le a m) (nat_le m b) e).0 in leb-true a m one

crl-ok : (s : WalkContext) (held : Contents) (authority : Authority) (seen : List (List ℕ)) (file : File) (crl : CrlValue)
    → accepted_crl s held authority seen file ≡ Ok crl → IsDatedCrl s held crl
unfolding accepted_crl
crl-ok s held authority seen file crl e =
    let uri = listed_uri authority file.0 in
    let one = read-ok (listed_bytes held uri file) uri rule.Shape crl_in (crl_tests s authority seen uri) (λ c. c.crl) crl e in
    record {
      uri = uri;
      bytes = one.0;
      there = listed-there held uri file one.0 one.1;
      signed = one.2;
      read = one.3;
      is = one.4;
      past = subst (λ (c : CrlValue). c.this_update ≤ s.moment) one.4 (begun s.moment one.2.crl.this_update one.2.crl.next_update one.5.1.1.0);
    }

manifest-ok : (s : WalkContext) (held : Contents) (authority : Authority) (seen : List (List ℕ)) (m : SignedManifest) → accepted_manifest s held authority seen ≡ Ok m → is_list authority m.body ≡ true
unfolding accepted_manifest
manifest-ok s held authority seen m e =
    let uri = manifest_place authority in
    let one = read-ok (found uri rule.Missing (held uri)) uri rule.Shape manifest_in (manifest_tests s authority seen) (λ x. x) m e in
    subst (λ (x : SignedManifest). is_list authority x.body ≡ true) one.4 one.5.1.1.1.1.1.0

-- What a point that is accepted for an authority keeps.
pub record IsPointOf (s : WalkContext) (held : Contents) (authority : Authority) (p : Point) : Type 0 where
  pub above : p.authority ≡ authority
  pub list : is_list authority p.manifest.body ≡ true
  pub crl : IsDatedCrl s held p.crl

abbrev made : Authority → SignedManifest → CrlValue → Point
made authority m crl = record { authority = authority; manifest = m; crl = crl }

abbrev behind-crl : Authority → SignedManifest → CrlValue → Checked Point
behind-crl authority m crl = tested (manifest_place authority) (point_tests m crl) (made authority m crl)

abbrev behind-list : WalkContext → Contents → Authority → List (List ℕ) → SignedManifest → File → Checked Point
behind-list s held authority seen m file = accepted_crl s held authority (seen ++ manifest_place authority ∷ []) file >>= behind-crl authority m

abbrev behind-manifest : WalkContext → Contents → Authority → List (List ℕ) → SignedManifest → Checked Point
behind-manifest s held authority seen m = found (manifest_place authority) rule.List (crl_file m.body) >>= behind-list s held authority seen m

point-ok : (s : WalkContext) (held : Contents) (authority : Authority) (seen : List (List ℕ)) (p : Point) → accepted_point s held authority seen ≡ Ok p → IsPointOf s held authority p
unfolding accepted_point
point-ok s held authority seen p e =
    let m = bind-ok (accepted_manifest s held authority seen) (behind-manifest s held authority seen) p e in
    let file = bind-ok (found (manifest_place authority) rule.List (crl_file m.0.body)) (behind-list s held authority seen m.0) p m.2 in
    let crl = bind-ok (accepted_crl s held authority (seen ++ manifest_place authority ∷ []) file.0) (behind-crl authority m.0) p file.2 in
    let same = tested-ok (manifest_place authority) (point_tests m.0 crl.0) (made authority m.0 crl.0) p crl.2 in
    subst (λ (q : Point). IsPointOf s held authority q) same.0 (record {
      above = refl;
      list = manifest-ok s held authority seen m.0 m.1;
      crl = crl-ok s held authority (seen ++ manifest_place authority ∷ []) file.0 crl.0 crl.1;
    })

-- ---- each authority has its point

pub record HasPoint (visits : List Visit) (authority : Authority) : Type 0 where
  pub point : Point
  pub known : Contains visits (Published point)
  pub above : point.authority ≡ authority

-- What was visited stays visited, and each certificate more has its point.
record Visits (start others : List Visit) : Type 0 where
  grown : (visit : Visit) → Contains start visit → Contains others visit
  points : (authority : Authority) → Contains others (Certificate authority)
      → Contains start (Certificate authority) ⊎ HasPoint others authority

still-has : (start others : List Visit) (a : Authority) → ((visit : Visit) → Contains start visit → Contains others visit) → HasPoint start a → HasPoint others a
still-has start others a grown h = record { point = h.point; known = grown (Published h.point) h.known; above = h.above }

both-visit : (a b c : List Visit) → Visits a b → Visits b c → Visits a c
both-visit a b c one two = record {
  grown = λ visit at. two.grown visit (one.grown visit at);
  points = λ authority at. elim (two.points authority at) [
    | inl before ↦ elim (one.points authority before) [
      | inl start ↦ inl start
      | inr has ↦ inr (still-has b c authority two.grown has)
    ]
    | inr has ↦ inr has
  ];
}

no-visit : (visits others : List Visit) → ◌≡◌ {A = Checked (List Visit)} (Ok visits) (Ok others) → Visits visits others
no-visit visits others e = subst (λ (vs : List Visit). Visits visits vs) (same-ok visits others (Ok visits) refl e)
    (record { grown = λ visit at. at; points = λ authority at. inl at })

-- One visit more, of no certificate.
one-visit : (visits : List Visit) (visit : Visit) → ((a : Authority) → visit ≡ Certificate a → ⊥) → Visits visits (visits ++ visit ∷ [])
one-visit visits visit other = record {
  grown = λ v at. Contains-append_left visits (visit ∷ []) v at;
  points = λ a at. elim (Contains-push_cases visits visit (Certificate a) at) [
    | inl before ↦ inl before
    | inr same ↦ absurd (other a same)
  ];
}

same-authority : (a b : Authority) → Certificate a ≡ Certificate b → a ≡ b
same-authority a b e = cc

-- A certificate more, whose point is visited behind it.
certificate-visit : (visits : List Visit) (child : Authority) (others : List Visit) → Visits (visits ++ Certificate child ∷ []) others → HasPoint others child → Visits visits others
certificate-visit visits child others more has = record {
  grown = λ v at. more.grown v (Contains-append_left visits (Certificate child ∷ []) v at);
  points = λ a at. elim (more.points a at) [
    | inl before ↦ elim (Contains-push_cases visits (Certificate child) (Certificate a) before) [
      | inl earlier ↦ inl earlier
      | inr same ↦ inr (subst (λ (b : Authority). HasPoint others b) (same-authority child a same) has)
    ]
    | inr other ↦ inr other
  ];
}

no-certificate : (p : Point) (a : Authority) → Published p ≡ Certificate a → ⊥
no-certificate p a e = cc

no-authority : (b : Authority) (uri : List ℕ) (roa : SignedRoa) (a : Authority) → Route b uri roa ≡ Certificate a → ⊥
no-authority b uri roa a e = cc

abbrev GoesBelow : Below → Type 0
GoesBelow below = (authority : Authority) (visits others : List Visit) → below authority visits ≡ Ok others → Visits visits others × HasPoint others authority

either-visits : (visits others : List Visit) (b : Bool) (m n : Checked (List Visit)) → (m ≡ Ok others → Visits visits others) → (n ≡ Ok others → Visits visits others) → (if b then m else n) ≡ Ok others → Visits visits others
either-visits visits others true m n one other e = one e
either-visits visits others false m n one other e = other e

file-visits : (s : WalkContext) (held : Contents) (below : Below) (p : Point) (file : File) (visits others : List Visit) → GoesBelow below → visit_file s held below p file visits ≡ Ok others → Visits visits others
unfolding visit_file
file-visits s held below p file visits others goes e = either-visits visits others (is_certificate_file file)
    (accepted_authority s held p.authority p.crl.entries (visited visits) file >>= (λ child. below child (visits ++ Certificate child ∷ [])))
    (accepted_roa s held p (visited visits) file >>= (λ roa. Ok (visits ++ Route p.authority (listed_uri p.authority file.0) roa ∷ [])))
    certificate route e
  where
    certificate : (accepted_authority s held p.authority p.crl.entries (visited visits) file >>= (λ child. below child (visits ++ Certificate child ∷ []))) ≡ Ok others → Visits visits others
    certificate h =
        let child = bind-ok (accepted_authority s held p.authority p.crl.entries (visited visits) file) (λ a. below a (visits ++ Certificate a ∷ [])) others h in
        let more = goes child.0 (visits ++ Certificate child.0 ∷ []) others child.2 in
        certificate-visit visits child.0 others more.0 more.1

    route : (accepted_roa s held p (visited visits) file >>= (λ roa. Ok (visits ++ Route p.authority (listed_uri p.authority file.0) roa ∷ []))) ≡ Ok others → Visits visits others
    route h =
        let uri = listed_uri p.authority file.0 in
        let roa = bind-ok (accepted_roa s held p (visited visits) file) (λ r. Ok (visits ++ Route p.authority (listed_uri p.authority file.0) r ∷ [])) others h in
        both-visit visits (visits ++ Route p.authority uri roa.0 ∷ []) others (one-visit visits (Route p.authority uri roa.0) (no-authority p.authority uri roa.0))
        (no-visit (visits ++ Route p.authority uri roa.0 ∷ []) others roa.2)

files-visit : (s : WalkContext) (held : Contents) (below : Below) (p : Point) (files : List File) (visits others : List Visit) → GoesBelow below → visit_files s held below p files visits ≡ Ok others → Visits visits others
unfolding visit_files
files-visit s held below p [] visits others goes e = no-visit visits others e
files-visit s held below p (file ∷ files) visits others goes e =
    let next = bind-ok (visit_file s held below p file visits) (visit_files s held below p files) others e in
    both-visit visits next.0 others (file-visits s held below p file visits next.0 goes next.1) (files-visit s held below p files next.0 others goes next.2)

below-visits : (levels : ℕ) (s : WalkContext) (held : Contents) → GoesBelow (visit_below levels s held)
unfolding visit_below
below-visits zero s held authority visits others e = absurd cc
below-visits (suc levels) s held authority visits others e =
    let p = bind-ok (accepted_point s held authority (visited visits)) (λ q. visit_files s held (visit_below levels s held) q (other_files q) (visits ++ Published q ∷ [])) others e in
    let is = point-ok s held authority (visited visits) p.0 p.1 in
    let files = files-visit s held (visit_below levels s held) p.0 (other_files p.0) (visits ++ Published p.0 ∷ []) others (below-visits levels s held) p.2 in (
      both-visit visits (visits ++ Published p.0 ∷ []) others (one-visit visits (Published p.0) (no-certificate p.0)) files,
      record { point = p.0; known = files.grown (Published p.0) (Contains-push visits (Published p.0)); above = is.above },
    )

pub each-has-point : (s : WalkContext) (held : Contents) (visits : List Visit) → walk s held ≡ Ok visits → (a : Authority) → Contains visits (Certificate a) → HasPoint visits a
unfolding walk
each-has-point s held visits e a at =
    let anchor = bind-ok (accepted_anchor s held) (λ b. visit_below 65 s held b (Certificate b ∷ [])) visits e in
    let below = below-visits 65 s held anchor.0 (Certificate anchor.0 ∷ []) visits anchor.2 in
    elim (below.0.points a at) [
      | inl first ↦ elim (first-or-rest (Certificate anchor.0) [] (Certificate a) first) [
        | inl same ↦ subst (λ (b : Authority). HasPoint visits b) (same-authority anchor.0 a same) below.1
        | inr nothing ↦ absurd (none (Certificate a) nothing)
      ]
      | inr has ↦ has
    ]

pub has-anchor : (s : WalkContext) (held : Contents) (visits : List Visit) → walk s held ≡ Ok visits → HasAnchor s held
unfolding walk
has-anchor s held visits e =
    let anchor = bind-ok (accepted_anchor s held) (λ b. visit_below 65 s held b (Certificate b ∷ [])) visits e in
    anchor-read s held anchor.0 anchor.1

-- ---- what is visited

-- What stands before an element and behind it.
record Split {X : Type 0} (xs : List X) (x : X) : Type 0 where
  before : List X
  after : List X
  whole : xs ≡ before ++ x ∷ after

split : {X : Type 0} (xs : List X) (x : X) → In x xs → Split xs x
split [] x at = absurd at
split (y ∷ ys) x (inl same) = record { before = []; after = ys; whole = ap (λ z. z ∷ ys) same }
split (y ∷ ys) x (inr at) = let s = split ys x at in record { before = y ∷ s.before; after = s.after; whole = ap (λ zs. y ∷ zs) s.whole }

-- The bytes of a URI's end.
last-behind : (xs ys : List ℕ) → 0 < length ys → last_byte (xs ++ ys) ≡ last_byte ys
last-behind xs ys some =
    let long : length (xs ++ ys) ≡ length xs + length ys = length-append xs ys in
    let place : length (xs ++ ys) - 1 ≡ length xs + (length ys - 1) = omega (arith, long, some) in
    ap (λ (n : ℕ). get_or (xs ++ ys) n 0) place ∙ get_or-append-add xs ys (length ys - 1) 0

ends-roa : (folder name : List ℕ) → ends_with nat_eq name (codes ".roa") ≡ true → last_byte (folder ++ name) ≡ 97
ends-roa folder name e =
    let front = take (length name - length (codes ".roa")) name in
    let ends : name ≡ front ++ codes ".roa" = (ends_is Decides-eqb name (codes ".roa") _ refl).0 e in
    ap (λ (n : List ℕ). last_byte (folder ++ n)) ends
    ∙ (ap last_byte (sym (append_assoc folder front (codes ".roa"))) ∙ last-behind (folder ++ front) (codes ".roa") (omega arith))

passes : {X : Type 0} (p : X → Bool) (xs : List X) (x : X) → list_all p xs ≡ true → In x xs → p x ≡ true
passes p [] x e at = absurd at
passes p (y ∷ ys) x e (inl same) = subst (λ z. p z ≡ true) same (and_parts (p y) (list_all p ys) e).0
passes p (y ∷ ys) x e (inr at) = passes p ys x (and_parts (p y) (list_all p ys) e).1 at

only-roa : (a b c : Bool) → ((a || b) || c) ≡ true → a ≡ false → not c ≡ true → b ≡ true
only-roa true b c e other more = absurd cc
only-roa false true c e other more = refl
only-roa false false true e other more = absurd cc
only-roa false false false e other more = absurd cc

-- The URI of a certificate, a CRL or a manifest of a key, in the folder of a name.
abbrev pub IsKeyUri : Bases → List ℕ → List ℕ → List ℕ → Type 0
IsKeyUri site name id uri = (uri ≡ cert_uri site name id) ⊎ ((uri ≡ crl_uri site name id) ⊎ (uri ≡ manifest_uri site name id))

pub record IsKeyPlace (site : Bases) (visits : List Visit) (uri : List ℕ) : Type 0 where
  pub authority : Authority
  pub known : Contains visits (Certificate authority)
  pub name : List ℕ
  pub plain : IsName name
  pub is : IsKeyUri site name (key_id authority.cert) uri

abbrev pub IsPlace : Bases → List Visit → List ℕ → Type 0
IsPlace site visits uri = (uri ≡ anchor_uri site) ⊎ (IsKeyPlace site visits uri ⊎ (last_byte uri ≡ 97))

in-folder : (folder other file : List ℕ) → folder ≡ other → folder ++ file ≡ other ++ file
in-folder folder other file e = ap (λ (f : List ℕ). f ++ file) e

module _ (s : WalkContext) (held : Contents) (visits : List Visit) (all : AreAccepted s held visits) where
  -- It is accepted behind visits that are among these.
  behind : (visit : Visit) → Contains visits visit
      → (before : List Visit) × ((v : Visit) → Contains before v → Contains visits v) × IsAccepted s held before visit
  behind visit at =
      let w = split visits visit (contains-in visit visits at) in (
        w.before,
        λ v c. subst (λ (vs : List Visit). Contains vs v) (sym w.whole) (Contains-append_left w.before (visit ∷ w.after) v c),
        all w.before visit w.after w.whole,
      )

  pub named : (a : Authority) → Contains visits (Certificate a) → IsNamed s.bases a
  named a at = let b = behind (Certificate a) at in elim b.2 [
    | inl first ↦ (anchor-ok s held a first.1).1
    | inr l ↦ (authority-ok s held l.issuer.authority l.issuer.crl.entries (visited b.0) l.file a l.accepted).1
  ]

  -- A point's authority is visited, and what the point keeps.
  pub point-in : (p : Point) → Contains visits (Published p) → Contains visits (Certificate p.authority) × IsPointOf s held p.authority p
  point-in p at =
      let b = behind (Published p) at in
      (b.1 (Certificate p.authority) b.2.known, point-ok s held p.authority (visited b.0) p b.2.accepted)

  certificate-place : (a : Authority) → Contains visits (Certificate a) → IsPlace s.bases visits a.uri
  certificate-place a at = let b = behind (Certificate a) at in elim b.2 [
    | inl first ↦ inl (anchor-ok s held a first.1).0
    | inr l ↦
        let issuer = l.issuer.authority in
        let n = named issuer (point-in l.issuer (b.1 (Published l.issuer) l.known)).0 in
        let place = (authority-ok s held issuer l.issuer.crl.entries (visited b.0) l.file a l.accepted).0 in
        inr (inl (record {
          authority = a;
          known = at;
          name = n.name;
          plain = n.plain;
          is = inl (place ∙ in-folder issuer.cert.uris.folder (folder_of s.bases n.name) _ n.folder);
        }))
  ]

  manifest-there : (p : Point) → Contains visits (Published p) → IsPlace s.bases visits (manifest_place p.authority)
  manifest-there p at =
      let known = (point-in p at).0 in
      let n = named p.authority known in
      inr (inl (record { authority = p.authority; known = known; name = n.name; plain = n.plain; is = inr (inr n.manifest) }))

  crl-there : (p : Point) → Contains visits (Published p) → IsPlace s.bases visits (crl_uri_of p.authority)
  crl-there p at =
      let known = (point-in p at).0 in
      let n = named p.authority known in
      inr (inl (record {
        authority = p.authority;
        known = known;
        name = n.name;
        plain = n.plain;
        is = inr (inl (in-folder p.authority.cert.uris.folder (folder_of s.bases n.name) _ n.folder));
      }))

  route-there : (a : Authority) (uri : List ℕ) (roa : SignedRoa) → Contains visits (Route a uri roa) → IsPlace s.bases visits uri
  route-there a uri roa at =
      let b = behind (Route a uri roa) at in
      let r = b.2 in
      let p = point-in r.issuer (b.1 (Published r.issuer) r.known) in
      let listed = from-filter (λ (f : File). not (is_crl_file f)) (files_of r.issuer.manifest.body) r.file r.listed in
      let in_use = passes is_file_in_use (files_of r.issuer.manifest.body) r.file (and_parts _ _ p.1.list).1 (contains-in r.file (files_of r.issuer.manifest.body) listed.0) in
      let roa_file = only-roa (is_certificate_file r.file) (is_roa_file r.file) (is_crl_file r.file) in_use r.kind listed.1 in
      inr (inr (subst (λ (u : List ℕ). last_byte u ≡ 97) r.there (ends-roa a.cert.uris.folder r.file.0 roa_file)))

  -- The authority of a ROA is visited.
  pub route-named : (a : Authority) (uri : List ℕ) (roa : SignedRoa) → Contains visits (Route a uri roa) → IsNamed s.bases a
  route-named a uri roa at =
      let b = behind (Route a uri roa) at in
      let r = b.2 in
      let known = (point-in r.issuer (b.1 (Published r.issuer) r.known)).0 in
      subst (λ (x : Authority). IsNamed s.bases x) r.above (named r.issuer.authority known)

  pub place-of : (visit : Visit) (uri : List ℕ) → Contains visits visit → Contains (uris_of visit) uri → IsPlace s.bases visits uri
  place-of (Certificate a) uri at here = elim (first-or-rest a.uri [] uri here) [
    | inl same ↦ subst (λ (u : List ℕ). IsPlace s.bases visits u) same (certificate-place a at)
    | inr nothing ↦ absurd (none uri nothing)
  ]
  place-of (Published p) uri at here = elim (first-or-rest (manifest_place p.authority) (crl_uri_of p.authority ∷ []) uri here) [
    | inl same ↦ subst (λ (u : List ℕ). IsPlace s.bases visits u) same (manifest-there p at)
    | inr rest ↦ elim (first-or-rest (crl_uri_of p.authority) [] uri rest) [
      | inl same ↦ subst (λ (u : List ℕ). IsPlace s.bases visits u) same (crl-there p at)
      | inr nothing ↦ absurd (none uri nothing)
    ]
  ]
  place-of (Route a place roa) uri at here = elim (first-or-rest place [] uri here) [
    | inl same ↦ subst (λ (u : List ℕ). IsPlace s.bases visits u) same (route-there a place roa at)
    | inr nothing ↦ absurd (none uri nothing)
  ]
