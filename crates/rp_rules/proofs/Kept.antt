-- What an accepted object keeps.
use Rattle.std.proofs.Common.{◌≡◌, ℕ, Bool, true, false, List, [], ◌∷◌, ◌++◌, Option, None, Some, Ok, Err, refl, sym, ap, subst, ◌∙◌}
use Rattle.std.specs.Prelude.{if◌then◌else◌, ⊤}
use Rattle.std.specs.Str.{bytes_eq}
use Rattle.sha2.specs.Sha256.{sha256}
use Rattle.pub_set.specs.Changes.{Contents}
use Rattle.crl_obj.specs.declared.values.CrlEntry.{CrlEntry}
use Rattle.crl_obj.specs.Values.{CrlValue}
use Rattle.rp_rules.specs.declared.rules.Rule.{Rule}
use Rattle.rp_rules.specs.declared.rules.Rule.TheVariants as rule
use Rattle.rp_rules.specs.Checks.{Refused, Checked, Test, ◌>>=◌, tested, found}
use Rattle.rp_rules.specs.Objects.{SignedManifest, SignedRoa, such, certificate_in, is_authoritys, crl_in, manifest_in, roa_in}
use Rattle.rp_rules.specs.Authorities.{Authority, listed_uri, crl_uri_of, manifest_place}
use Rattle.rp_rules.specs.Certificates.{WalkContext, File, is_among, listed_bytes, authority_tests, authority_of, accepted_authority}
use Rattle.rp_rules.specs.Points.{Point, is_list, manifest_tests, accepted_manifest, crl_tests, accepted_crl, point_tests, accepted_point, roa_tests, accepted_roa, crl_file}
use Rattle.rp_rules.proofs.Lists.{same-bytes, not-true}

-- ---- checks

pub same-ok : {A : Type 0} (x y : A) (m : Checked A) → m ≡ Ok x → m ≡ Ok y → x ≡ y
same-ok x y m one other = cc

pub bind-ok : {A B : Type 0} (m : Checked A) (f : A → Checked B) (y : B) → (m >>= f) ≡ Ok y → (x : A) × (m ≡ Ok x) × (f x ≡ Ok y)
bind-ok (Ok x) f y e = (x, refl, e)
bind-ok (Err r) f y e = absurd cc

abbrev pub AllKept : List Test → Type 0
AllKept [] = ⊤
AllKept (t ∷ ts) = (t.1 ≡ true) × AllKept ts

if-ok : {A : Type 0} (b : Bool) (m : Checked A) (r : Refused) (y : A) → (if b then m else Err r) ≡ Ok y → (b ≡ true) × (m ≡ Ok y)
if-ok true m r y e = (refl, e)
if-ok false m r y e = absurd cc

pub tested-ok : {A : Type 0} (uri : List ℕ) (ts : List Test) (x y : A) → tested uri ts x ≡ Ok y → (x ≡ y) × AllKept ts
tested-ok uri [] x y e = (same-ok x y (Ok x) refl e, tt)
tested-ok uri (t ∷ ts) x y e =
    let one = if-ok t.1 (tested uri ts x) (record { uri = uri; rule = t.0 }) y e in
    let rest = tested-ok uri ts x y one.1 in
    (rest.0, (one.0, rest.1))

pub found-ok : {A : Type 0} (uri : List ℕ) (rule : Rule) (o : Option A) (x : A) → found uri rule o ≡ Ok x → o ≡ Some x
found-ok uri rule None x e = absurd cc
found-ok uri rule (Some y) x e = ap Some (same-ok y x (Ok y) refl e)

-- What was read, and what it keeps.
pub read-ok : {A B : Type 0} (m : Checked (List ℕ)) (uri : List ℕ) (rule : Rule) (read : List ℕ → Option A) (ts : A → List Test) (give : A → B) (y : B)
    → (m >>= (λ bytes. found uri rule (read bytes) >>= (λ a. tested uri (ts a) (give a)))) ≡ Ok y
    → (bytes : List ℕ) × (m ≡ Ok bytes) × (a : A) × (read bytes ≡ Some a) × (give a ≡ y) × AllKept (ts a)
read-ok {A = A} {B = B} m uri rule read ts give y e =
    let one = bind-ok {A = List ℕ} {B = B} m (λ bytes. found uri rule (read bytes) >>= (λ a. tested uri (ts a) (give a))) y e in
    let two = bind-ok {A = A} {B = B} (found uri rule (read one.0)) (λ a. tested uri (ts a) (give a)) y one.2 in
    let three = tested-ok uri (ts two.0) (give two.0) y two.2 in
    (one.0, one.1, two.0, found-ok uri rule (read one.0) two.0 two.1, three.0, three.1)

-- ---- listed files

-- The file stands at the URI with the listed hash, and wasn't visited.
pub record IsNew (held : Contents) (seen : List (List ℕ)) (uri : List ℕ) (file : File) : Type 0 where
  pub bytes : List ℕ
  pub there : held uri ≡ Some bytes
  pub hash : sha256 bytes ≡ file.1
  pub new : is_among seen uri ≡ false

pub listed-ok : (held : Contents) (uri : List ℕ) (file : File) (bytes : List ℕ) → listed_bytes held uri file ≡ Ok bytes → (held uri ≡ Some bytes) × (sha256 bytes ≡ file.1)
unfolding listed_bytes
listed-ok held uri file bytes e =
    let one = bind-ok (found uri rule.Missing (held uri)) (λ bs. tested uri ((rule.Hash, bytes_eq (sha256 bs) file.1) ∷ []) bs) bytes e in
    let two = tested-ok uri ((rule.Hash, bytes_eq (sha256 one.0) file.1) ∷ []) one.0 bytes one.2 in
    (found-ok uri rule.Missing (held uri) one.0 one.1 ∙ ap Some two.0, ap sha256 (sym two.0) ∙ same-bytes (sha256 one.0) file.1 two.1.0)

new-file : (held : Contents) (seen : List (List ℕ)) (uri : List ℕ) (file : File) (bytes : List ℕ) → listed_bytes held uri file ≡ Ok bytes → is_among seen uri ≡ false → IsNew held seen uri file
new-file held seen uri file bytes e new = let one = listed-ok held uri file bytes e in record { bytes = bytes; there = one.0; hash = one.1; new = new }

pub authority-ok : (s : WalkContext) (held : Contents) (issuer : Authority) (revoked : List CrlEntry) (seen : List (List ℕ)) (file : File) (child : Authority)
    → accepted_authority s held issuer revoked seen file ≡ Ok child → IsNew held seen (listed_uri issuer file.0) file × (child.uri ≡ listed_uri issuer file.0)
unfolding accepted_authority
authority-ok s held issuer revoked seen file child e =
    let uri = listed_uri issuer file.0 in
    let one = read-ok (listed_bytes held uri file) uri rule.Shape (λ bytes. such is_authoritys (certificate_in bytes)) (authority_tests s issuer revoked seen uri) (authority_of issuer uri) child e in
    (new-file held seen uri file one.0 one.1 (not-true (is_among seen uri) one.5.1.1.1.1.1.1.0), ap (λ (a : Authority). a.uri) (sym one.4))

pub roa-ok : (s : WalkContext) (held : Contents) (p : Point) (seen : List (List ℕ)) (file : File) (roa : SignedRoa) → accepted_roa s held p seen file ≡ Ok roa → IsNew held seen (listed_uri p.authority file.0) file
unfolding accepted_roa
roa-ok s held p seen file roa e =
    let uri = listed_uri p.authority file.0 in
    let one = read-ok (listed_bytes held uri file) uri rule.Shape roa_in (roa_tests s p seen uri) (λ r. r) roa e in
    new-file held seen uri file one.0 one.1 (not-true (is_among seen uri) one.5.1.1.1.1.1.1.0)

crl-ok : (s : WalkContext) (held : Contents) (authority : Authority) (seen : List (List ℕ)) (file : File) (crl : CrlValue)
    → accepted_crl s held authority seen file ≡ Ok crl → IsNew held seen (listed_uri authority file.0) file × (listed_uri authority file.0 ≡ crl_uri_of authority)
unfolding accepted_crl
crl-ok s held authority seen file crl e =
    let uri = listed_uri authority file.0 in
    let one = read-ok (listed_bytes held uri file) uri rule.Shape crl_in (crl_tests s authority seen uri) (λ c. c.crl) crl e in
    (new-file held seen uri file one.0 one.1 (not-true (is_among seen uri) one.5.1.1.1.1.0), same-bytes uri (crl_uri_of authority) one.5.1.1.1.0)

-- ---- points

manifest-ok : (s : WalkContext) (held : Contents) (authority : Authority) (seen : List (List ℕ)) (m : SignedManifest) → accepted_manifest s held authority seen ≡ Ok m → (is_list authority m.body ≡ true) × (is_among seen (manifest_place authority) ≡ false)
unfolding accepted_manifest
manifest-ok s held authority seen m e =
    let uri = manifest_place authority in
    let one = read-ok (found uri rule.Missing (held uri)) uri rule.Shape manifest_in (manifest_tests s authority seen) (λ x. x) m e in
    let all : AllKept (manifest_tests s authority seen m) = subst (λ x. AllKept (manifest_tests s authority seen x)) one.4 one.5 in
    (all.1.1.1.1.1.0, not-true (is_among seen uri) all.1.1.1.1.1.1.0)

-- What a point that is accepted for an authority keeps.
pub record IsPointOf (held : Contents) (authority : Authority) (seen : List (List ℕ)) (p : Point) : Type 0 where
  pub above : p.authority ≡ authority
  pub list : is_list authority p.manifest.body ≡ true
  pub new : is_among seen (manifest_place authority) ≡ false
  pub file : File
  pub first : crl_file p.manifest.body ≡ Some file
  pub crl : IsNew held (seen ++ manifest_place authority ∷ []) (listed_uri authority file.0) file
  pub place : listed_uri authority file.0 ≡ crl_uri_of authority

abbrev made : Authority → SignedManifest → CrlValue → Point
made authority m crl = record { authority = authority; manifest = m; crl = crl }

abbrev behind-crl : Authority → SignedManifest → CrlValue → Checked Point
behind-crl authority m crl = tested (manifest_place authority) (point_tests m crl) (made authority m crl)

abbrev behind-list : WalkContext → Contents → Authority → List (List ℕ) → SignedManifest → File → Checked Point
behind-list s held authority seen m file = accepted_crl s held authority (seen ++ manifest_place authority ∷ []) file >>= behind-crl authority m

abbrev behind-manifest : WalkContext → Contents → Authority → List (List ℕ) → SignedManifest → Checked Point
behind-manifest s held authority seen m = found (manifest_place authority) rule.List (crl_file m.body) >>= behind-list s held authority seen m

pub point-ok : (s : WalkContext) (held : Contents) (authority : Authority) (seen : List (List ℕ)) (p : Point) → accepted_point s held authority seen ≡ Ok p → IsPointOf held authority seen p
unfolding accepted_point
point-ok s held authority seen p e =
    let m = bind-ok (accepted_manifest s held authority seen) (behind-manifest s held authority seen) p e in
    let file = bind-ok (found (manifest_place authority) rule.List (crl_file m.0.body)) (behind-list s held authority seen m.0) p m.2 in
    let crl = bind-ok (accepted_crl s held authority (seen ++ manifest_place authority ∷ []) file.0) (behind-crl authority m.0) p file.2 in
    let same = tested-ok (manifest_place authority) (point_tests m.0 crl.0) (made authority m.0 crl.0) p crl.2 in
    let manifest = manifest-ok s held authority seen m.0 m.1 in
    let kept = crl-ok s held authority (seen ++ manifest_place authority ∷ []) file.0 crl.0 crl.1 in
    subst (λ q. IsPointOf held authority seen q) same.0 (record {
      above = refl;
      list = manifest.0;
      new = manifest.1;
      file = file.0;
      first = found-ok (manifest_place authority) rule.List (crl_file m.0.body) file.0 file.1;
      crl = kept.0;
      place = kept.1;
    })
