-- Where more is vouched, what was accepted is accepted still.
use Rattle.std.proofs.Common.{◌≡◌, ℕ, zero, suc, Bool, true, false, List, [], ◌∷◌, ◌++◌, Option, Ok, Err, refl, ap, ◌∙◌}
use Rattle.std.specs.Prelude.{if◌then◌else◌, ⊤}
use Rattle.std.proofs.lemmas.Bool.{and_parts, and_from}
use Rattle.pub_set.specs.declared.objects.Object.{Object}
use Rattle.pub_set.specs.Objects.{content_at}
use Rattle.pub_set.specs.Changes.{Contents}
use Rattle.crl_obj.specs.declared.values.CrlEntry.{CrlEntry}
use Rattle.crl_obj.specs.Values.{CrlValue}
use Rattle.key_ids.specs.Uris.{anchor_uri}
use Rattle.rp_rules.specs.declared.rules.Rule.{Rule}
use Rattle.rp_rules.specs.declared.rules.Rule.TheVariants as rule
use Rattle.rp_rules.specs.Checks.{Refused, Checked, Test, ◌>>=◌, tested, found}
use Rattle.rp_rules.specs.Objects.{Signed, SignedManifest, such, certificate_in, is_anchors, is_authoritys, crl_in, manifest_in, roa_in}
use Rattle.rp_rules.specs.Authorities.{Authority, listed_uri, manifest_place}
use Rattle.rp_rules.specs.Certificates.{WalkContext, Vouched, VouchesMore, vouching, File, anchor_tests, anchor_of, accepted_anchor, listed_bytes, authority_tests, authority_of, accepted_authority}
use Rattle.rp_rules.specs.Points.{Point, is_signed, manifest_tests, accepted_manifest, crl_tests, accepted_crl, point_tests, accepted_point, roa_tests, accepted_roa, other_files, is_certificate_file, crl_file}
use Rattle.rp_rules.specs.Walk.{Visit, Certificate, Published, Route, Below, visited, visit_file, visit_files, visit_below, walk}
use Rattle.rp_rules.specs.Sound.{IsSoundBy}

-- ---- checks

-- What the one accepts the other accepts.
abbrev pub Follows : {A : Type 0} → Checked A → Checked A → Type 0
Follows {A} m n = (x : A) → m ≡ Ok x → n ≡ Ok x

bind-follows : {A B : Type 0} (m n : Checked A) (f g : A → Checked B) → Follows m n → ((a : A) → Follows (f a) (g a)) → Follows (m >>= f) (n >>= g)
bind-follows (Ok a) n f g first rest x e = ap (λ k. k >>= g) (first a refl) ∙ rest a x e
bind-follows (Err r) n f g first rest x e = absurd cc

either-follows : {A : Type 0} (b : Bool) (m m' n n' : Checked A) → Follows m m' → Follows n n' → Follows (if b then m else n) (if b then m' else n')
either-follows true m m' n n' one other = one
either-follows false m m' n n' one other = other

-- The same rules, each kept by the second where it is kept by the first.
abbrev AllFollow : List Test → List Test → Type 0
AllFollow [] [] = ⊤
AllFollow [] (u ∷ us) = ⊥
AllFollow (t ∷ ts) [] = ⊥
AllFollow (t ∷ ts) (u ∷ us) = ((t.0 ≡ u.0) × (t.1 ≡ true → u.1 ≡ true)) × AllFollow ts us

if-other : {A : Type 0} (a b : Bool) (m n : Checked A) (r q : Refused) → r ≡ q → (a ≡ true → b ≡ true) → Follows m n → Follows (if a then m else Err r) (if b then n else Err q)
if-other true b m n r q same implied follows x e = ap (λ (c : Bool). if c then n else Err q) (implied refl) ∙ follows x e
if-other false b m n r q same implied follows x e = absurd cc

tested-follows : {A : Type 0} (uri : List ℕ) (ts us : List Test) (y : A) → AllFollow ts us → Follows (tested uri ts y) (tested uri us y)
tested-follows uri [] [] y all x e = e
tested-follows uri [] (u ∷ us) y all x e = absurd all
tested-follows uri (t ∷ ts) [] y all x e = absurd all
tested-follows uri (t ∷ ts) (u ∷ us) y all x e =
    if-other t.1 u.1 (tested uri ts y) (tested uri us y) (record { uri = uri; rule = t.0 }) (record { uri = uri; rule = u.0 })
    (ap (λ r. record { uri = uri; rule = r }) all.0.0) all.0.1 (tested-follows uri ts us y all.1) x e

-- Bytes that say something, which is tested.
read-follows : {A B : Type 0} (m : Checked (List ℕ)) (uri : List ℕ) (rule : Rule) (read : List ℕ → Option A) (ts us : A → List Test) (give : A → B) → ((a : A) → AllFollow (ts a) (us a))
    → Follows (m >>= (λ bytes. found uri rule (read bytes) >>= (λ a. tested uri (ts a) (give a)))) (m >>= (λ bytes. found uri rule (read bytes) >>= (λ a. tested uri (us a) (give a))))
read-follows {A = A} {B = B} m uri rule read ts us give all =
    bind-follows {A = List ℕ} {B = B} m m (λ bytes. found uri rule (read bytes) >>= (λ a. tested uri (ts a) (give a))) (λ bytes. found uri rule (read bytes) >>= (λ a. tested uri (us a) (give a))) (λ x e. e)
    (λ bytes. bind-follows {A = A} {B = B} (found uri rule (read bytes)) (found uri rule (read bytes)) (λ a. tested uri (ts a) (give a)) (λ a. tested uri (us a) (give a)) (λ x e. e)
    (λ a. tested-follows uri (ts a) (us a) (give a) (all a)))

-- ---- objects

signed-follows : {Body : Type 0} (s : WalkContext) (more : Vouched) (issuer : Authority) (x : Signed Body) → VouchesMore s.vouched more → is_signed s issuer x ≡ true → is_signed (vouching s more) issuer x ≡ true
signed-follows s more issuer x v e =
    let both = and_parts (s.vouched issuer.cert.key x.certificate.digest x.certificate.signature) (s.vouched x.certificate.cert.key x.object.digest x.object.signature) e in
    and_from _ _ (v issuer.cert.key x.certificate.digest x.certificate.signature both.0) (v x.certificate.cert.key x.object.digest x.object.signature both.1)

anchor-follows : (s : WalkContext) (more : Vouched) (held : Contents) → VouchesMore s.vouched more → Follows (accepted_anchor s held) (accepted_anchor (vouching s more) held)
unfolding accepted_anchor
anchor-follows s more held v =
    read-follows (found (anchor_uri s.bases) rule.Missing (held (anchor_uri s.bases))) (anchor_uri s.bases) rule.Shape (λ bytes. such is_anchors (certificate_in bytes))
    (anchor_tests s) (anchor_tests (vouching s more)) (anchor_of (anchor_uri s.bases))
    (λ c. ((refl, v s.anchor c.digest c.signature), ((refl, λ e. e), ((refl, λ e. e), ((refl, λ e. e), ((refl, λ e. e), tt))))))

authority-follows : (s : WalkContext) (more : Vouched) (held : Contents) (issuer : Authority) (revoked : List CrlEntry) (seen : List (List ℕ)) (file : File) → VouchesMore s.vouched more → Follows (accepted_authority s held issuer revoked seen file) (accepted_authority (vouching s more) held issuer revoked seen file)
unfolding accepted_authority
authority-follows s more held issuer revoked seen file v =
    let uri = listed_uri issuer file.0 in
    read-follows (listed_bytes held uri file) uri rule.Shape (λ bytes. such is_authoritys (certificate_in bytes))
    (authority_tests s issuer revoked seen uri) (authority_tests (vouching s more) issuer revoked seen uri) (authority_of issuer uri)
    (λ c. ((refl, v issuer.cert.key c.digest c.signature), ((refl, λ e. e), ((refl, λ e. e), ((refl, λ e. e), ((refl, λ e. e), ((refl, λ e. e), ((refl, λ e. e), tt))))))))

manifest-follows : (s : WalkContext) (more : Vouched) (held : Contents) (authority : Authority) (seen : List (List ℕ)) → VouchesMore s.vouched more → Follows (accepted_manifest s held authority seen) (accepted_manifest (vouching s more) held authority seen)
unfolding accepted_manifest
manifest-follows s more held authority seen v =
    let uri = manifest_place authority in
    read-follows (found uri rule.Missing (held uri)) uri rule.Shape manifest_in
    (manifest_tests s authority seen) (manifest_tests (vouching s more) authority seen) (λ m. m)
    (λ m. ((refl, signed-follows s more authority m v), ((refl, λ e. e), ((refl, λ e. e), ((refl, λ e. e), ((refl, λ e. e), ((refl, λ e. e), ((refl, λ e. e), tt))))))))

crl-follows : (s : WalkContext) (more : Vouched) (held : Contents) (authority : Authority) (seen : List (List ℕ)) (file : File) → VouchesMore s.vouched more → Follows (accepted_crl s held authority seen file) (accepted_crl (vouching s more) held authority seen file)
unfolding accepted_crl
crl-follows s more held authority seen file v =
    let uri = listed_uri authority file.0 in
    read-follows (listed_bytes held uri file) uri rule.Shape crl_in
    (crl_tests s authority seen uri) (crl_tests (vouching s more) authority seen uri) (λ c. c.crl)
    (λ c. ((refl, v authority.cert.key c.digest c.signature), ((refl, λ e. e), ((refl, λ e. e), ((refl, λ e. e), ((refl, λ e. e), tt))))))

roa-follows : (s : WalkContext) (more : Vouched) (held : Contents) (p : Point) (seen : List (List ℕ)) (file : File) → VouchesMore s.vouched more → Follows (accepted_roa s held p seen file) (accepted_roa (vouching s more) held p seen file)
unfolding accepted_roa
roa-follows s more held p seen file v =
    let uri = listed_uri p.authority file.0 in
    read-follows (listed_bytes held uri file) uri rule.Shape roa_in
    (roa_tests s p seen uri) (roa_tests (vouching s more) p seen uri) (λ r. r)
    (λ r. ((refl, signed-follows s more p.authority r v), ((refl, λ e. e), ((refl, λ e. e), ((refl, λ e. e), ((refl, λ e. e), ((refl, λ e. e), ((refl, λ e. e), tt))))))))

-- The point of an authority, behind its manifest.
abbrev behind_manifest : WalkContext → Contents → Authority → List (List ℕ) → SignedManifest → Checked Point
behind_manifest s held authority seen m =
    found (manifest_place authority) rule.List (crl_file m.body) >>= (λ file.
    accepted_crl s held authority (seen ++ manifest_place authority ∷ []) file >>= (λ crl.
    tested (manifest_place authority) (point_tests m crl) (record { authority = authority; manifest = m; crl = crl })))

abbrev behind_crl : Authority → SignedManifest → CrlValue → Checked Point
behind_crl authority m crl = tested (manifest_place authority) (point_tests m crl) (record { authority = authority; manifest = m; crl = crl })

point-follows : (s : WalkContext) (more : Vouched) (held : Contents) (authority : Authority) (seen : List (List ℕ)) → VouchesMore s.vouched more → Follows (accepted_point s held authority seen) (accepted_point (vouching s more) held authority seen)
unfolding accepted_point
point-follows s more held authority seen v =
    bind-follows (accepted_manifest s held authority seen) (accepted_manifest (vouching s more) held authority seen) (behind_manifest s held authority seen) (behind_manifest (vouching s more) held authority seen)
    (manifest-follows s more held authority seen v) (λ m.
    bind-follows (found (manifest_place authority) rule.List (crl_file m.body)) (found (manifest_place authority) rule.List (crl_file m.body))
    (λ file. accepted_crl s held authority (seen ++ manifest_place authority ∷ []) file >>= behind_crl authority m)
    (λ file. accepted_crl (vouching s more) held authority (seen ++ manifest_place authority ∷ []) file >>= behind_crl authority m)
    (λ x e. e) (λ file.
    bind-follows (accepted_crl s held authority (seen ++ manifest_place authority ∷ []) file) (accepted_crl (vouching s more) held authority (seen ++ manifest_place authority ∷ []) file)
    (behind_crl authority m) (behind_crl authority m)
    (crl-follows s more held authority (seen ++ manifest_place authority ∷ []) file v) (λ crl x e. e)))

-- ---- the walk

-- The one goes on wherever the other does.
abbrev BelowFollows : Below → Below → Type 0
BelowFollows below other = (authority : Authority) (visits : List Visit) → Follows (below authority visits) (other authority visits)

file-follows : (s : WalkContext) (more : Vouched) (held : Contents) (below other : Below) (p : Point) (file : File) (visits : List Visit) → VouchesMore s.vouched more → BelowFollows below other → Follows (visit_file s held below p file visits) (visit_file (vouching s more) held other p file visits)
unfolding visit_file
file-follows s more held below other p file visits v goes =
    either-follows (is_certificate_file file)
    (accepted_authority s held p.authority p.crl.entries (visited visits) file >>= (λ a. below a (visits ++ Certificate a ∷ [])))
    (accepted_authority (vouching s more) held p.authority p.crl.entries (visited visits) file >>= (λ a. other a (visits ++ Certificate a ∷ [])))
    (accepted_roa s held p (visited visits) file >>= (λ roa. Ok (visits ++ Route p.authority (listed_uri p.authority file.0) roa ∷ [])))
    (accepted_roa (vouching s more) held p (visited visits) file >>= (λ roa. Ok (visits ++ Route p.authority (listed_uri p.authority file.0) roa ∷ [])))
    (bind-follows (accepted_authority s held p.authority p.crl.entries (visited visits) file) (accepted_authority (vouching s more) held p.authority p.crl.entries (visited visits) file)
    (λ a. below a (visits ++ Certificate a ∷ [])) (λ a. other a (visits ++ Certificate a ∷ []))
    (authority-follows s more held p.authority p.crl.entries (visited visits) file v)
    (λ a. goes a (visits ++ Certificate a ∷ [])))
    (bind-follows (accepted_roa s held p (visited visits) file) (accepted_roa (vouching s more) held p (visited visits) file)
    (λ roa. Ok (visits ++ Route p.authority (listed_uri p.authority file.0) roa ∷ [])) (λ roa. Ok (visits ++ Route p.authority (listed_uri p.authority file.0) roa ∷ []))
    (roa-follows s more held p (visited visits) file v) (λ roa x e. e))

files-follows : (s : WalkContext) (more : Vouched) (held : Contents) (below other : Below) (p : Point) (files : List File) (visits : List Visit) → VouchesMore s.vouched more → BelowFollows below other → Follows (visit_files s held below p files visits) (visit_files (vouching s more) held other p files visits)
unfolding visit_files
files-follows s more held below other p [] visits v goes = λ x e. e
files-follows s more held below other p (file ∷ files) visits v goes =
    bind-follows (visit_file s held below p file visits) (visit_file (vouching s more) held other p file visits)
    (visit_files s held below p files) (visit_files (vouching s more) held other p files)
    (file-follows s more held below other p file visits v goes)
    (λ next. files-follows s more held below other p files next v goes)

below-follows : (levels : ℕ) (s : WalkContext) (more : Vouched) (held : Contents) → VouchesMore s.vouched more → BelowFollows (visit_below levels s held) (visit_below levels (vouching s more) held)
unfolding visit_below
below-follows zero s more held v authority visits = λ x e. e
below-follows (suc levels) s more held v authority visits =
    bind-follows (accepted_point s held authority (visited visits)) (accepted_point (vouching s more) held authority (visited visits))
    (λ p. visit_files s held (visit_below levels s held) p (other_files p) (visits ++ Published p ∷ []))
    (λ p. visit_files (vouching s more) held (visit_below levels (vouching s more) held) p (other_files p) (visits ++ Published p ∷ []))
    (point-follows s more held authority (visited visits) v)
    (λ p. files-follows s more held (visit_below levels s held) (visit_below levels (vouching s more) held) p (other_files p) (visits ++ Published p ∷ []) v
    (below-follows levels s more held v))

walk-follows : (s : WalkContext) (more : Vouched) (held : Contents) → VouchesMore s.vouched more → Follows (walk s held) (walk (vouching s more) held)
unfolding walk
walk-follows s more held v =
    bind-follows (accepted_anchor s held) (accepted_anchor (vouching s more) held)
    (λ anchor. visit_below 65 s held anchor (Certificate anchor ∷ [])) (λ anchor. visit_below 65 (vouching s more) held anchor (Certificate anchor ∷ []))
    (anchor-follows s more held v)
    (λ anchor. below-follows 65 s more held v anchor (Certificate anchor ∷ []))

pub stays_sound : (s : WalkContext) (more : Vouched) (objects : List Object) (visits : List Visit) → VouchesMore s.vouched more → IsSoundBy s objects visits → IsSoundBy (vouching s more) objects visits
stays_sound s more objects visits v sound = record {
  walk = walk-follows s more (content_at objects) v visits sound.walk;
  all = sound.all;
}
