-- Accepted objects, each of its kind, as what is read, tested and given.
use Rattle.std.proofs.Common.{◌≡◌, ℕ, List, [], ◌∷◌, ◌++◌, Bool, Ok, Err, refl, sym, subst, ◌∙◌}
use Rattle.std.specs.Prelude.{◌&&◌}
use Rattle.pub_set.specs.Changes.{Contents}
use Rattle.key_ids.specs.Uris.{Bases, anchor_uri}
use Rattle.signer_api.specs.State.{SignerState}
use Rattle.crl_obj.specs.declared.values.CrlEntry.{CrlEntry}
use Rattle.cert_obj.specs.Values.{SignedCert, read_value as read_cert}
use Rattle.cert_obj.specs.declared.values.ReadCert.{ReadCert}
use Rattle.crl_obj.specs.declared.values.ReadCrl.{ReadCrl}
use Rattle.crl_obj.specs.Values.{CrlValue, SignedCrl, crl_value, read_value as read_crl}
use Rattle.rp_rules.specs.declared.rules.Rule.TheVariants as rule
use Rattle.rp_rules.specs.Checks.{Checked, Test, found}
use Rattle.rp_rules.specs.Objects.{SignedManifest, SignedRoa, such, certificate_in, is_anchors, is_authoritys, crl_in, manifest_in, roa_in}
use Rattle.rp_rules.specs.Authorities.{Authority, listed_uri, manifest_place}
use Rattle.rp_rules.specs.Certificates.{File, listed_bytes, anchor_tests, anchor_of, accepted_anchor, authority_tests, authority_of, accepted_authority}
use Rattle.rp_rules.specs.Points.{Point, manifest_tests, accepted_manifest, crl_tests, accepted_crl, roa_tests, accepted_roa}
use Rattle.rp_audit.specs.Audit.{asking}
use Rattle.rp_audit.specs.Vouching.{vouched_in}
use Rattle.rp_audit.specs.declared.refusal.AuditRefused.{AuditRefused}
use Rattle.rp_audit.specs.declared.scene.Scene.{Scene}
use Rattle.rp_audit.specs.declared.signed.ReadManifest.{ReadManifest}
use Rattle.rp_audit.specs.declared.signed.ReadRoa.{ReadRoa}
use Rattle.rp_audit.specs.inner.Told.{Tells, Answers, IsAnswer, kept, read_as, answered}
use Rattle.rp_audit.specs.inner.Views.{context_of, held_in, manifest_value, roa_value}
use Rattle.rp_audit.proofs.Answering.{object_of, object_unread, object_broken, object_given, answers_same}

-- The tests behind the first.
abbrev pub behind : List Test → List Test
behind [] = []
behind (t ∷ ts) = ts

-- Both signatures of a signed object.
abbrev pub both_of : List SignerState → List ℕ → List ℕ → List ℕ → List ℕ → List ℕ → List ℕ → Bool
both_of signers key digest signature own object_digest object_signature =
    vouched_in signers key digest signature && vouched_in signers own object_digest object_signature

pub anchor_is : (anchor : List ℕ) (bases : Bases) (moment : ℕ) (held : Contents) (uri : List ℕ) (signers : List SignerState) → uri ≡ anchor_uri bases
    → accepted_anchor (asking signers anchor bases moment) held
    ≡ object_of (found uri rule.Missing (held uri)) uri (λ b. such is_anchors (certificate_in b)) (λ s c. vouched_in s anchor c.digest c.signature)
    (λ c. behind (anchor_tests (asking [] anchor bases moment) c)) (anchor_of uri) signers
unfolding accepted_anchor
anchor_is anchor bases moment held uri signers e =
    subst (λ (u : List ℕ). accepted_anchor (asking signers anchor bases moment) held
    ≡ object_of (found u rule.Missing (held u)) u (λ b. such is_anchors (certificate_in b)) (λ s c. vouched_in s anchor c.digest c.signature)
    (λ c. behind (anchor_tests (asking [] anchor bases moment) c)) (anchor_of u) signers) (sym e) refl

pub authority_is : (anchor : List ℕ) (bases : Bases) (moment : ℕ) (held : Contents) (issuer : Authority) (revoked : List CrlEntry) (visited : List (List ℕ)) (file : File) (uri : List ℕ) (signers : List SignerState) → uri ≡ listed_uri issuer file.0
    → accepted_authority (asking signers anchor bases moment) held issuer revoked visited file
    ≡ object_of (listed_bytes held uri file) uri (λ b. such is_authoritys (certificate_in b)) (λ s c. vouched_in s issuer.cert.key c.digest c.signature)
    (λ c. behind (authority_tests (asking [] anchor bases moment) issuer revoked visited uri c)) (authority_of issuer uri) signers
unfolding accepted_authority
authority_is anchor bases moment held issuer revoked visited file uri signers e =
    subst (λ (u : List ℕ). accepted_authority (asking signers anchor bases moment) held issuer revoked visited file
    ≡ object_of (listed_bytes held u file) u (λ b. such is_authoritys (certificate_in b)) (λ s c. vouched_in s issuer.cert.key c.digest c.signature)
    (λ c. behind (authority_tests (asking [] anchor bases moment) issuer revoked visited u c)) (authority_of issuer u) signers) (sym e) refl

pub manifest_is : (anchor : List ℕ) (bases : Bases) (moment : ℕ) (held : Contents) (a : Authority) (visited : List (List ℕ)) (uri : List ℕ) (signers : List SignerState) → uri ≡ manifest_place a
    → accepted_manifest (asking signers anchor bases moment) held a visited
    ≡ object_of (found uri rule.Missing (held uri)) uri manifest_in
    (λ s m. both_of s a.cert.key m.certificate.digest m.certificate.signature m.certificate.cert.key m.object.digest m.object.signature)
    (λ m. behind (manifest_tests (asking [] anchor bases moment) a visited m)) (λ m. m) signers
unfolding accepted_manifest
manifest_is anchor bases moment held a visited uri signers e =
    subst (λ (u : List ℕ). accepted_manifest (asking signers anchor bases moment) held a visited
    ≡ object_of (found u rule.Missing (held u)) u manifest_in
    (λ s m. both_of s a.cert.key m.certificate.digest m.certificate.signature m.certificate.cert.key m.object.digest m.object.signature)
    (λ m. behind (manifest_tests (asking [] anchor bases moment) a visited m)) (λ m. m) signers) (sym e) refl

pub crl_is : (anchor : List ℕ) (bases : Bases) (moment : ℕ) (held : Contents) (a : Authority) (visited : List (List ℕ)) (file : File) (uri : List ℕ) (signers : List SignerState) → uri ≡ listed_uri a file.0
    → accepted_crl (asking signers anchor bases moment) held a visited file
    ≡ object_of (listed_bytes held uri file) uri crl_in (λ s c. vouched_in s a.cert.key c.digest c.signature)
    (λ c. behind (crl_tests (asking [] anchor bases moment) a visited uri c)) (λ c. c.crl) signers
unfolding accepted_crl
crl_is anchor bases moment held a visited file uri signers e =
    subst (λ (u : List ℕ). accepted_crl (asking signers anchor bases moment) held a visited file
    ≡ object_of (listed_bytes held u file) u crl_in (λ s c. vouched_in s a.cert.key c.digest c.signature)
    (λ c. behind (crl_tests (asking [] anchor bases moment) a visited u c)) (λ c. c.crl) signers) (sym e) refl

pub roa_is : (anchor : List ℕ) (bases : Bases) (moment : ℕ) (held : Contents) (p : Point) (visited : List (List ℕ)) (file : File) (uri : List ℕ) (signers : List SignerState) → uri ≡ listed_uri p.authority file.0
    → accepted_roa (asking signers anchor bases moment) held p visited file
    ≡ object_of (listed_bytes held uri file) uri roa_in
    (λ s r. both_of s p.authority.cert.key r.certificate.digest r.certificate.signature r.certificate.cert.key r.object.digest r.object.signature)
    (λ r. behind (roa_tests (asking [] anchor bases moment) p visited uri r)) (λ r. r) signers
unfolding accepted_roa
roa_is anchor bases moment held p visited file uri signers e =
    subst (λ (u : List ℕ). accepted_roa (asking signers anchor bases moment) held p visited file
    ≡ object_of (listed_bytes held u file) u roa_in
    (λ s r. both_of s p.authority.cert.key r.certificate.digest r.certificate.signature r.certificate.cert.key r.object.digest r.object.signature)
    (λ r. behind (roa_tests (asking [] anchor bases moment) p visited u r)) (λ r. r) signers) (sym e) refl

-- ---- what a call that accepts one answers

pub anchor_unread : {X : Type 0} (P : X → Checked Authority → Type 0) (scene : Scene) (uri : List ℕ) (old : List SignerState) (e : AuditRefused) → uri ≡ anchor_uri scene.site.now
    → Tells read_cert (read_as (found uri rule.Missing (held_in scene uri)) uri (λ b. such is_anchors (certificate_in b))) (Err e) → Answers P (λ s. accepted_anchor (context_of scene s) (held_in scene)) (Err e) old old
anchor_unread P scene uri old e same told =
    answers_same P (λ s. accepted_anchor (context_of scene s) (held_in scene)) (object_of (found uri rule.Missing (held_in scene uri)) uri (λ b. such is_anchors (certificate_in b)) (λ s c. vouched_in s scene.anchor.now.bytes c.digest c.signature) (λ c. behind (anchor_tests (context_of scene []) c)) (anchor_of uri)) (Err e) old old (anchor_is scene.anchor.now.bytes scene.site.now scene.moment (held_in scene) uri old same)
    (object_unread read_cert P (found uri rule.Missing (held_in scene uri)) uri (λ b. such is_anchors (certificate_in b)) (λ s c. vouched_in s scene.anchor.now.bytes c.digest c.signature) (λ c. behind (anchor_tests (context_of scene []) c)) (anchor_of uri) old e told)

pub anchor_broken : {X : Type 0} (P : X → Checked Authority → Type 0) (scene : Scene) (uri : List ℕ) (old new : List SignerState) (x : ReadCert) (signed : Bool) (tests : List Test) (e : AuditRefused) → uri ≡ anchor_uri scene.site.now
    → read_as (found uri rule.Missing (held_in scene uri)) uri (λ b. such is_anchors (certificate_in b)) ≡ Ok (read_cert x) → new ≡ old → IsAnswer old signed (Ok (vouched_in old scene.anchor.now.bytes x.digest.bytes x.signature.bytes))
    → tests ≡ answered signed (anchor_tests (context_of scene []) (read_cert x)) → Tells {A = Unit {0}} (λ u. u) (kept uri tests) (Err e) → Answers P (λ s. accepted_anchor (context_of scene s) (held_in scene)) (Err e) old new
anchor_broken P scene uri old new x signed tests e same is stays answer are told =
    answers_same P (λ s. accepted_anchor (context_of scene s) (held_in scene)) (object_of (found uri rule.Missing (held_in scene uri)) uri (λ b. such is_anchors (certificate_in b)) (λ s c. vouched_in s scene.anchor.now.bytes c.digest c.signature) (λ c. behind (anchor_tests (context_of scene []) c)) (anchor_of uri)) (Err e) old new (anchor_is scene.anchor.now.bytes scene.site.now scene.moment (held_in scene) uri old same)
    (object_broken read_cert (λ (u : Unit {0}). u) P (found uri rule.Missing (held_in scene uri)) uri (λ b. such is_anchors (certificate_in b)) (λ s c. vouched_in s scene.anchor.now.bytes c.digest c.signature) (λ c. behind (anchor_tests (context_of scene []) c)) (anchor_of uri) old new x signed tests e is stays answer are told)

pub anchor_given : (scene : Scene) (uri : List ℕ) (old : List SignerState) (x : ReadCert) (signed : Bool) (tests : List Test) → uri ≡ anchor_uri scene.site.now
    → read_as (found uri rule.Missing (held_in scene uri)) uri (λ b. such is_anchors (certificate_in b)) ≡ Ok (read_cert x) → IsAnswer old signed (Ok (vouched_in old scene.anchor.now.bytes x.digest.bytes x.signature.bytes))
    → tests ≡ answered signed (anchor_tests (context_of scene []) (read_cert x)) → kept uri tests ≡ Ok tt → (let s : List SignerState = old in accepted_anchor (context_of scene s) (held_in scene)) ≡ Ok (anchor_of uri (read_cert x))
anchor_given scene uri old x signed tests same is answer are all =
    anchor_is scene.anchor.now.bytes scene.site.now scene.moment (held_in scene) uri old same
    ∙ object_given read_cert (found uri rule.Missing (held_in scene uri)) uri (λ b. such is_anchors (certificate_in b)) (λ s c. vouched_in s scene.anchor.now.bytes c.digest c.signature) (λ c. behind (anchor_tests (context_of scene []) c)) (anchor_of uri) old x signed tests is answer are all

pub authority_unread : {X : Type 0} (P : X → Checked Authority → Type 0) (scene : Scene) (issuer : Authority) (revoked : List CrlEntry) (visited : List (List ℕ)) (file : File) (uri : List ℕ) (old : List SignerState) (e : AuditRefused) → uri ≡ listed_uri issuer file.0
    → Tells read_cert (read_as (listed_bytes (held_in scene) uri file) uri (λ b. such is_authoritys (certificate_in b))) (Err e) → Answers P (λ s. accepted_authority (context_of scene s) (held_in scene) issuer revoked visited file) (Err e) old old
authority_unread P scene issuer revoked visited file uri old e same told =
    answers_same P (λ s. accepted_authority (context_of scene s) (held_in scene) issuer revoked visited file) (object_of (listed_bytes (held_in scene) uri file) uri (λ b. such is_authoritys (certificate_in b)) (λ s c. vouched_in s issuer.cert.key c.digest c.signature) (λ c. behind (authority_tests (context_of scene []) issuer revoked visited uri c)) (authority_of issuer uri)) (Err e) old old (authority_is scene.anchor.now.bytes scene.site.now scene.moment (held_in scene) issuer revoked visited file uri old same)
    (object_unread read_cert P (listed_bytes (held_in scene) uri file) uri (λ b. such is_authoritys (certificate_in b)) (λ s c. vouched_in s issuer.cert.key c.digest c.signature) (λ c. behind (authority_tests (context_of scene []) issuer revoked visited uri c)) (authority_of issuer uri) old e told)

pub authority_broken : {X : Type 0} (P : X → Checked Authority → Type 0) (scene : Scene) (issuer : Authority) (revoked : List CrlEntry) (visited : List (List ℕ)) (file : File) (uri : List ℕ) (old new : List SignerState) (x : ReadCert) (signed : Bool) (tests : List Test) (e : AuditRefused) → uri ≡ listed_uri issuer file.0
    → read_as (listed_bytes (held_in scene) uri file) uri (λ b. such is_authoritys (certificate_in b)) ≡ Ok (read_cert x) → new ≡ old → IsAnswer old signed (Ok (vouched_in old issuer.cert.key x.digest.bytes x.signature.bytes))
    → tests ≡ answered signed (authority_tests (context_of scene []) issuer revoked visited uri (read_cert x)) → Tells {A = Unit {0}} (λ u. u) (kept uri tests) (Err e) → Answers P (λ s. accepted_authority (context_of scene s) (held_in scene) issuer revoked visited file) (Err e) old new
authority_broken P scene issuer revoked visited file uri old new x signed tests e same is stays answer are told =
    answers_same P (λ s. accepted_authority (context_of scene s) (held_in scene) issuer revoked visited file) (object_of (listed_bytes (held_in scene) uri file) uri (λ b. such is_authoritys (certificate_in b)) (λ s c. vouched_in s issuer.cert.key c.digest c.signature) (λ c. behind (authority_tests (context_of scene []) issuer revoked visited uri c)) (authority_of issuer uri)) (Err e) old new (authority_is scene.anchor.now.bytes scene.site.now scene.moment (held_in scene) issuer revoked visited file uri old same)
    (object_broken read_cert (λ (u : Unit {0}). u) P (listed_bytes (held_in scene) uri file) uri (λ b. such is_authoritys (certificate_in b)) (λ s c. vouched_in s issuer.cert.key c.digest c.signature) (λ c. behind (authority_tests (context_of scene []) issuer revoked visited uri c)) (authority_of issuer uri) old new x signed tests e is stays answer are told)

pub authority_given : (scene : Scene) (issuer : Authority) (revoked : List CrlEntry) (visited : List (List ℕ)) (file : File) (uri : List ℕ) (old : List SignerState) (x : ReadCert) (signed : Bool) (tests : List Test) → uri ≡ listed_uri issuer file.0
    → read_as (listed_bytes (held_in scene) uri file) uri (λ b. such is_authoritys (certificate_in b)) ≡ Ok (read_cert x) → IsAnswer old signed (Ok (vouched_in old issuer.cert.key x.digest.bytes x.signature.bytes))
    → tests ≡ answered signed (authority_tests (context_of scene []) issuer revoked visited uri (read_cert x)) → kept uri tests ≡ Ok tt → (let s : List SignerState = old in accepted_authority (context_of scene s) (held_in scene) issuer revoked visited file) ≡ Ok (authority_of issuer uri (read_cert x))
authority_given scene issuer revoked visited file uri old x signed tests same is answer are all =
    authority_is scene.anchor.now.bytes scene.site.now scene.moment (held_in scene) issuer revoked visited file uri old same
    ∙ object_given read_cert (listed_bytes (held_in scene) uri file) uri (λ b. such is_authoritys (certificate_in b)) (λ s c. vouched_in s issuer.cert.key c.digest c.signature) (λ c. behind (authority_tests (context_of scene []) issuer revoked visited uri c)) (authority_of issuer uri) old x signed tests is answer are all

pub manifest_unread : {X : Type 0} (P : X → Checked SignedManifest → Type 0) (scene : Scene) (a : Authority) (visited : List (List ℕ)) (uri : List ℕ) (old : List SignerState) (e : AuditRefused) → uri ≡ manifest_place a
    → Tells manifest_value (read_as (found uri rule.Missing (held_in scene uri)) uri manifest_in) (Err e) → Answers P (λ s. accepted_manifest (context_of scene s) (held_in scene) a visited) (Err e) old old
manifest_unread P scene a visited uri old e same told =
    answers_same P (λ s. accepted_manifest (context_of scene s) (held_in scene) a visited) (object_of (found uri rule.Missing (held_in scene uri)) uri manifest_in (λ s m. both_of s a.cert.key m.certificate.digest m.certificate.signature m.certificate.cert.key m.object.digest m.object.signature) (λ m. behind (manifest_tests (context_of scene []) a visited m)) (λ m. m)) (Err e) old old (manifest_is scene.anchor.now.bytes scene.site.now scene.moment (held_in scene) a visited uri old same)
    (object_unread manifest_value P (found uri rule.Missing (held_in scene uri)) uri manifest_in (λ s m. both_of s a.cert.key m.certificate.digest m.certificate.signature m.certificate.cert.key m.object.digest m.object.signature) (λ m. behind (manifest_tests (context_of scene []) a visited m)) (λ m. m) old e told)

pub manifest_broken : {X : Type 0} (P : X → Checked SignedManifest → Type 0) (scene : Scene) (a : Authority) (visited : List (List ℕ)) (uri : List ℕ) (old new : List SignerState) (x : ReadManifest) (signed : Bool) (tests : List Test) (e : AuditRefused) → uri ≡ manifest_place a
    → read_as (found uri rule.Missing (held_in scene uri)) uri manifest_in ≡ Ok (manifest_value x) → new ≡ old → IsAnswer old signed (Ok (both_of old a.cert.key x.certificate.digest.bytes x.certificate.signature.bytes x.certificate.cert.key.bytes x.object.digest.bytes x.object.signature.bytes))
    → tests ≡ answered signed (manifest_tests (context_of scene []) a visited (manifest_value x)) → Tells {A = Unit {0}} (λ u. u) (kept uri tests) (Err e) → Answers P (λ s. accepted_manifest (context_of scene s) (held_in scene) a visited) (Err e) old new
manifest_broken P scene a visited uri old new x signed tests e same is stays answer are told =
    answers_same P (λ s. accepted_manifest (context_of scene s) (held_in scene) a visited) (object_of (found uri rule.Missing (held_in scene uri)) uri manifest_in (λ s m. both_of s a.cert.key m.certificate.digest m.certificate.signature m.certificate.cert.key m.object.digest m.object.signature) (λ m. behind (manifest_tests (context_of scene []) a visited m)) (λ m. m)) (Err e) old new (manifest_is scene.anchor.now.bytes scene.site.now scene.moment (held_in scene) a visited uri old same)
    (object_broken manifest_value (λ (u : Unit {0}). u) P (found uri rule.Missing (held_in scene uri)) uri manifest_in (λ s m. both_of s a.cert.key m.certificate.digest m.certificate.signature m.certificate.cert.key m.object.digest m.object.signature) (λ m. behind (manifest_tests (context_of scene []) a visited m)) (λ m. m) old new x signed tests e is stays answer are told)

pub manifest_given : (scene : Scene) (a : Authority) (visited : List (List ℕ)) (uri : List ℕ) (old : List SignerState) (x : ReadManifest) (signed : Bool) (tests : List Test) → uri ≡ manifest_place a
    → read_as (found uri rule.Missing (held_in scene uri)) uri manifest_in ≡ Ok (manifest_value x) → IsAnswer old signed (Ok (both_of old a.cert.key x.certificate.digest.bytes x.certificate.signature.bytes x.certificate.cert.key.bytes x.object.digest.bytes x.object.signature.bytes))
    → tests ≡ answered signed (manifest_tests (context_of scene []) a visited (manifest_value x)) → kept uri tests ≡ Ok tt → (let s : List SignerState = old in accepted_manifest (context_of scene s) (held_in scene) a visited) ≡ Ok (manifest_value x)
manifest_given scene a visited uri old x signed tests same is answer are all =
    manifest_is scene.anchor.now.bytes scene.site.now scene.moment (held_in scene) a visited uri old same
    ∙ object_given manifest_value (found uri rule.Missing (held_in scene uri)) uri manifest_in (λ s m. both_of s a.cert.key m.certificate.digest m.certificate.signature m.certificate.cert.key m.object.digest m.object.signature) (λ m. behind (manifest_tests (context_of scene []) a visited m)) (λ m. m) old x signed tests is answer are all

pub crl_unread : {X : Type 0} (P : X → Checked CrlValue → Type 0) (scene : Scene) (a : Authority) (visited : List (List ℕ)) (file : File) (uri : List ℕ) (old : List SignerState) (e : AuditRefused) → uri ≡ listed_uri a file.0
    → Tells read_crl (read_as (listed_bytes (held_in scene) uri file) uri crl_in) (Err e) → Answers P (λ s. accepted_crl (context_of scene s) (held_in scene) a visited file) (Err e) old old
crl_unread P scene a visited file uri old e same told =
    answers_same P (λ s. accepted_crl (context_of scene s) (held_in scene) a visited file) (object_of (listed_bytes (held_in scene) uri file) uri crl_in (λ s c. vouched_in s a.cert.key c.digest c.signature) (λ c. behind (crl_tests (context_of scene []) a visited uri c)) (λ c. c.crl)) (Err e) old old (crl_is scene.anchor.now.bytes scene.site.now scene.moment (held_in scene) a visited file uri old same)
    (object_unread read_crl P (listed_bytes (held_in scene) uri file) uri crl_in (λ s c. vouched_in s a.cert.key c.digest c.signature) (λ c. behind (crl_tests (context_of scene []) a visited uri c)) (λ c. c.crl) old e told)

pub crl_broken : {X : Type 0} (P : X → Checked CrlValue → Type 0) (scene : Scene) (a : Authority) (visited : List (List ℕ)) (file : File) (uri : List ℕ) (old new : List SignerState) (x : ReadCrl) (signed : Bool) (tests : List Test) (e : AuditRefused) → uri ≡ listed_uri a file.0
    → read_as (listed_bytes (held_in scene) uri file) uri crl_in ≡ Ok (read_crl x) → new ≡ old → IsAnswer old signed (Ok (vouched_in old a.cert.key x.digest.bytes x.signature.bytes))
    → tests ≡ answered signed (crl_tests (context_of scene []) a visited uri (read_crl x)) → Tells {A = Unit {0}} (λ u. u) (kept uri tests) (Err e) → Answers P (λ s. accepted_crl (context_of scene s) (held_in scene) a visited file) (Err e) old new
crl_broken P scene a visited file uri old new x signed tests e same is stays answer are told =
    answers_same P (λ s. accepted_crl (context_of scene s) (held_in scene) a visited file) (object_of (listed_bytes (held_in scene) uri file) uri crl_in (λ s c. vouched_in s a.cert.key c.digest c.signature) (λ c. behind (crl_tests (context_of scene []) a visited uri c)) (λ c. c.crl)) (Err e) old new (crl_is scene.anchor.now.bytes scene.site.now scene.moment (held_in scene) a visited file uri old same)
    (object_broken read_crl (λ (u : Unit {0}). u) P (listed_bytes (held_in scene) uri file) uri crl_in (λ s c. vouched_in s a.cert.key c.digest c.signature) (λ c. behind (crl_tests (context_of scene []) a visited uri c)) (λ c. c.crl) old new x signed tests e is stays answer are told)

pub crl_given : (scene : Scene) (a : Authority) (visited : List (List ℕ)) (file : File) (uri : List ℕ) (old : List SignerState) (x : ReadCrl) (signed : Bool) (tests : List Test) → uri ≡ listed_uri a file.0
    → read_as (listed_bytes (held_in scene) uri file) uri crl_in ≡ Ok (read_crl x) → IsAnswer old signed (Ok (vouched_in old a.cert.key x.digest.bytes x.signature.bytes))
    → tests ≡ answered signed (crl_tests (context_of scene []) a visited uri (read_crl x)) → kept uri tests ≡ Ok tt → (let s : List SignerState = old in accepted_crl (context_of scene s) (held_in scene) a visited file) ≡ Ok (crl_value x.crl)
crl_given scene a visited file uri old x signed tests same is answer are all =
    crl_is scene.anchor.now.bytes scene.site.now scene.moment (held_in scene) a visited file uri old same
    ∙ object_given read_crl (listed_bytes (held_in scene) uri file) uri crl_in (λ s c. vouched_in s a.cert.key c.digest c.signature) (λ c. behind (crl_tests (context_of scene []) a visited uri c)) (λ c. c.crl) old x signed tests is answer are all

pub roa_unread : {X : Type 0} (P : X → Checked SignedRoa → Type 0) (scene : Scene) (p : Point) (visited : List (List ℕ)) (file : File) (uri : List ℕ) (old : List SignerState) (e : AuditRefused) → uri ≡ listed_uri p.authority file.0
    → Tells roa_value (read_as (listed_bytes (held_in scene) uri file) uri roa_in) (Err e) → Answers P (λ s. accepted_roa (context_of scene s) (held_in scene) p visited file) (Err e) old old
roa_unread P scene p visited file uri old e same told =
    answers_same P (λ s. accepted_roa (context_of scene s) (held_in scene) p visited file) (object_of (listed_bytes (held_in scene) uri file) uri roa_in (λ s r. both_of s p.authority.cert.key r.certificate.digest r.certificate.signature r.certificate.cert.key r.object.digest r.object.signature) (λ r. behind (roa_tests (context_of scene []) p visited uri r)) (λ r. r)) (Err e) old old (roa_is scene.anchor.now.bytes scene.site.now scene.moment (held_in scene) p visited file uri old same)
    (object_unread roa_value P (listed_bytes (held_in scene) uri file) uri roa_in (λ s r. both_of s p.authority.cert.key r.certificate.digest r.certificate.signature r.certificate.cert.key r.object.digest r.object.signature) (λ r. behind (roa_tests (context_of scene []) p visited uri r)) (λ r. r) old e told)

pub roa_broken : {X : Type 0} (P : X → Checked SignedRoa → Type 0) (scene : Scene) (p : Point) (visited : List (List ℕ)) (file : File) (uri : List ℕ) (old new : List SignerState) (x : ReadRoa) (signed : Bool) (tests : List Test) (e : AuditRefused) → uri ≡ listed_uri p.authority file.0
    → read_as (listed_bytes (held_in scene) uri file) uri roa_in ≡ Ok (roa_value x) → new ≡ old → IsAnswer old signed (Ok (both_of old p.authority.cert.key x.certificate.digest.bytes x.certificate.signature.bytes x.certificate.cert.key.bytes x.object.digest.bytes x.object.signature.bytes))
    → tests ≡ answered signed (roa_tests (context_of scene []) p visited uri (roa_value x)) → Tells {A = Unit {0}} (λ u. u) (kept uri tests) (Err e) → Answers P (λ s. accepted_roa (context_of scene s) (held_in scene) p visited file) (Err e) old new
roa_broken P scene p visited file uri old new x signed tests e same is stays answer are told =
    answers_same P (λ s. accepted_roa (context_of scene s) (held_in scene) p visited file) (object_of (listed_bytes (held_in scene) uri file) uri roa_in (λ s r. both_of s p.authority.cert.key r.certificate.digest r.certificate.signature r.certificate.cert.key r.object.digest r.object.signature) (λ r. behind (roa_tests (context_of scene []) p visited uri r)) (λ r. r)) (Err e) old new (roa_is scene.anchor.now.bytes scene.site.now scene.moment (held_in scene) p visited file uri old same)
    (object_broken roa_value (λ (u : Unit {0}). u) P (listed_bytes (held_in scene) uri file) uri roa_in (λ s r. both_of s p.authority.cert.key r.certificate.digest r.certificate.signature r.certificate.cert.key r.object.digest r.object.signature) (λ r. behind (roa_tests (context_of scene []) p visited uri r)) (λ r. r) old new x signed tests e is stays answer are told)

pub roa_given : (scene : Scene) (p : Point) (visited : List (List ℕ)) (file : File) (uri : List ℕ) (old : List SignerState) (x : ReadRoa) (signed : Bool) (tests : List Test) → uri ≡ listed_uri p.authority file.0
    → read_as (listed_bytes (held_in scene) uri file) uri roa_in ≡ Ok (roa_value x) → IsAnswer old signed (Ok (both_of old p.authority.cert.key x.certificate.digest.bytes x.certificate.signature.bytes x.certificate.cert.key.bytes x.object.digest.bytes x.object.signature.bytes))
    → tests ≡ answered signed (roa_tests (context_of scene []) p visited uri (roa_value x)) → kept uri tests ≡ Ok tt → (let s : List SignerState = old in accepted_roa (context_of scene s) (held_in scene) p visited file) ≡ Ok (roa_value x)
roa_given scene p visited file uri old x signed tests same is answer are all =
    roa_is scene.anchor.now.bytes scene.site.now scene.moment (held_in scene) p visited file uri old same
    ∙ object_given roa_value (listed_bytes (held_in scene) uri file) uri roa_in (λ s r. both_of s p.authority.cert.key r.certificate.digest r.certificate.signature r.certificate.cert.key r.object.digest r.object.signature) (λ r. behind (roa_tests (context_of scene []) p visited uri r)) (λ r. r) old x signed tests is answer are all
