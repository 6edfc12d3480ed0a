-- An accepted point: a manifest, the CRL that it lists, and two tests of both.
use Rattle.std.proofs.Common.{◌≡◌, ℕ, List, [], ◌∷◌, ◌++◌, Option, Ok, Err, refl, sym, ap, subst, ◌∙◌}
use Rattle.signer_api.specs.State.{SignerState}
use Rattle.signer_ring.specs.Ring.{AllTell}
use Rattle.pub_set.specs.Changes.{Contents}
use Rattle.crl_obj.specs.Values.{CrlValue, crl_value}
use Rattle.rp_rules.specs.declared.rules.Rule.TheVariants as rule
use Rattle.rp_rules.specs.Checks.{Refused as Refusal, Checked, ◌>>=◌, tested, found}
use Rattle.rp_rules.specs.Objects.{SignedManifest}
use Rattle.rp_rules.specs.Authorities.{Authority, manifest_place}
use Rattle.rp_rules.specs.Certificates.{WalkContext, File}
use Rattle.rp_rules.specs.Points.{Point, crl_file, accepted_manifest, accepted_crl, point_tests, accepted_point}
use Rattle.rp_audit.specs.declared.refusal.AuditRefused.{AuditRefused}
use Rattle.rp_audit.specs.declared.scene.Scene.{Scene}
use Rattle.rp_audit.specs.inner.Told.{Tells, Answers, Gives, kept}
use Rattle.rp_audit.specs.inner.Views.{context_of, held_in, manifest_value}
use Rattle.rp_audit.proofs.Checking.{bind_ok, bind_err, tested_ok, tested_err}
use Rattle.rp_audit.proofs.Answering.{answers_stop, answers_behind, tells_answers}

abbrev point_with : Authority → SignedManifest → CrlValue → Point
point_with a m crl = record { authority = a; manifest = m; crl = crl }

abbrev behind_crl : Authority → SignedManifest → CrlValue → Checked Point
behind_crl a m crl = tested (manifest_place a) (point_tests m crl) (point_with a m crl)

abbrev behind_file : WalkContext → Contents → Authority → List (List ℕ) → SignedManifest → File → Checked Point
behind_file s held a visited m file = accepted_crl s held a (visited ++ manifest_place a ∷ []) file >>= behind_crl a m

abbrev behind_manifest : WalkContext → Contents → Authority → List (List ℕ) → SignedManifest → Checked Point
behind_manifest s held a visited m = found (manifest_place a) rule.List (crl_file m.body) >>= behind_file s held a visited m

point_is : (s : WalkContext) (held : Contents) (a : Authority) (visited : List (List ℕ)) → accepted_point s held a visited ≡ (accepted_manifest s held a visited >>= behind_manifest s held a visited)
unfolding accepted_point
point_is s held a visited = refl

to_manifest : (s : WalkContext) (held : Contents) (a : Authority) (visited : List (List ℕ)) (m : SignedManifest) → accepted_manifest s held a visited ≡ Ok m → accepted_point s held a visited ≡ behind_manifest s held a visited m
to_manifest s held a visited m is = point_is s held a visited ∙ bind_ok (accepted_manifest s held a visited) (behind_manifest s held a visited) m is

to_file : (s : WalkContext) (held : Contents) (a : Authority) (visited : List (List ℕ)) (m : SignedManifest) (file : File) → accepted_manifest s held a visited ≡ Ok m → found (manifest_place a) rule.List (crl_file m.body) ≡ Ok file
    → accepted_point s held a visited ≡ behind_file s held a visited m file
to_file s held a visited m file is there = to_manifest s held a visited m is ∙ bind_ok (found (manifest_place a) rule.List (crl_file m.body)) (behind_file s held a visited m) file there

to_crl : (s : WalkContext) (held : Contents) (a : Authority) (visited : List (List ℕ)) (m : SignedManifest) (file : File) (crl : CrlValue) → accepted_manifest s held a visited ≡ Ok m → found (manifest_place a) rule.List (crl_file m.body) ≡ Ok file
    → accepted_crl s held a (visited ++ manifest_place a ∷ []) file ≡ Ok crl → accepted_point s held a visited ≡ behind_crl a m crl
to_crl s held a visited m file crl is there listed = to_file s held a visited m file is there ∙ bind_ok (accepted_crl s held a (visited ++ manifest_place a ∷ []) file) (behind_crl a m) crl listed

abbrev point_check : Scene → Authority → List (List ℕ) → List SignerState → Checked Point
point_check scene a visited s = accepted_point (context_of scene s) (held_in scene) a visited

abbrev manifest_check : Scene → Authority → List (List ℕ) → List SignerState → Checked SignedManifest
manifest_check scene a visited s = accepted_manifest (context_of scene s) (held_in scene) a visited

abbrev crl_check : Scene → Authority → List (List ℕ) → File → List SignerState → Checked CrlValue
crl_check scene a visited file s = accepted_crl (context_of scene s) (held_in scene) a (visited ++ manifest_place a ∷ []) file

pub no_manifest : {X : Type 0} (P : X → Checked Point → Type 0) (scene : Scene) (a : Authority) (visited : List (List ℕ)) (old new : List SignerState) (e : AuditRefused)
    → Answers (Gives manifest_value) (λ s. accepted_manifest (context_of scene s) (held_in scene) a visited) (Err e) old new → Answers P (λ s. accepted_point (context_of scene s) (held_in scene) a visited) (Err e) old new
no_manifest P scene a visited old new e told =
    answers_stop (Gives manifest_value) P (manifest_check scene a visited) (point_check scene a visited) old new e
    (λ c is. point_is (context_of scene old) (held_in scene) a visited ∙ bind_err (manifest_check scene a visited old) (behind_manifest (context_of scene old) (held_in scene) a visited) c is) told

pub no_file : {X V : Type 0} (P : X → Checked Point → Type 0) (v : V → File) (scene : Scene) (a : Authority) (visited : List (List ℕ)) (uri : List ℕ) (old new : List SignerState) (m : SignedManifest) (e : AuditRefused)
    → uri ≡ manifest_place a → accepted_manifest (context_of scene old) (held_in scene) a visited ≡ Ok m → new ≡ old → Tells v (found uri rule.List (crl_file m.body)) (Err e)
    → Answers P (λ s. accepted_point (context_of scene s) (held_in scene) a visited) (Err e) old new
no_file P v scene a visited uri old new m e at is same told =
    tells_answers v P (found uri rule.List (crl_file m.body)) (point_check scene a visited) old new e same
    (λ c all none. to_manifest (context_of scene old) (held_in scene) a visited m is
    ∙ bind_err (found (manifest_place a) rule.List (crl_file m.body)) (behind_file (context_of scene old) (held_in scene) a visited m) c (ap (λ (u : List ℕ). found u rule.List (crl_file m.body)) (sym at) ∙ none)) told

pub no_crl : {X : Type 0} (P : X → Checked Point → Type 0) (scene : Scene) (a : Authority) (visited : List (List ℕ)) (uri : List ℕ) (old mid new : List SignerState) (m : SignedManifest) (file : File) (e : AuditRefused)
    → uri ≡ manifest_place a → accepted_manifest (context_of scene old) (held_in scene) a visited ≡ Ok m → mid ≡ old → found uri rule.List (crl_file m.body) ≡ Ok file
    → Answers (Gives crl_value) (λ s. accepted_crl (context_of scene s) (held_in scene) a (visited ++ manifest_place a ∷ []) file) (Err e) mid new
    → Answers P (λ s. accepted_point (context_of scene s) (held_in scene) a visited) (Err e) old new
no_crl P scene a visited uri old mid new m file e at is same there told =
    answers_stop (Gives crl_value) P (crl_check scene a visited file) (point_check scene a visited) old new e
    (λ c none. to_file (context_of scene old) (held_in scene) a visited m file is (ap (λ (u : List ℕ). found u rule.List (crl_file m.body)) (sym at) ∙ there)
    ∙ bind_err (crl_check scene a visited file old) (behind_crl a m) c none)
    (answers_behind (Gives crl_value) (crl_check scene a visited file) (Err e) old mid new same told)

pub not_both : {X : Type 0} (P : X → Checked Point → Type 0) (scene : Scene) (a : Authority) (visited : List (List ℕ)) (uri : List ℕ) (old new : List SignerState) (m : SignedManifest) (file : File) (crl : CrlValue) (e : AuditRefused)
    → uri ≡ manifest_place a → accepted_manifest (context_of scene old) (held_in scene) a visited ≡ Ok m → found uri rule.List (crl_file m.body) ≡ Ok file
    → accepted_crl (context_of scene old) (held_in scene) a (visited ++ manifest_place a ∷ []) file ≡ Ok crl → new ≡ old
    → Tells {A = Unit {0}} (λ u. u) (kept uri (point_tests m crl)) (Err e) → Answers P (λ s. accepted_point (context_of scene s) (held_in scene) a visited) (Err e) old new
not_both P scene a visited uri old new m file crl e at is there listed same told =
    let id : Unit {0} → Unit {0} = λ u. u in
    tells_answers id P (kept uri (point_tests m crl)) (point_check scene a visited) old new e same
    (λ c all none. to_crl (context_of scene old) (held_in scene) a visited m file crl is (ap (λ (u : List ℕ). found u rule.List (crl_file m.body)) (sym at) ∙ there) listed
    ∙ tested_err (manifest_place a) (point_tests m crl) (point_with a m crl) c (ap (λ (u : List ℕ). kept u (point_tests m crl)) (sym at) ∙ none)) told

pub point_given : (scene : Scene) (a : Authority) (visited : List (List ℕ)) (uri : List ℕ) (old : List SignerState) (m : SignedManifest) (file : File) (crl : CrlValue)
    → uri ≡ manifest_place a → accepted_manifest (context_of scene old) (held_in scene) a visited ≡ Ok m → found uri rule.List (crl_file m.body) ≡ Ok file
    → accepted_crl (context_of scene old) (held_in scene) a (visited ++ manifest_place a ∷ []) file ≡ Ok crl → kept uri (point_tests m crl) ≡ Ok tt
    → accepted_point (context_of scene old) (held_in scene) a visited ≡ Ok (record { authority = a; manifest = m; crl = crl })
point_given scene a visited uri old m file crl at is there listed all =
    to_crl (context_of scene old) (held_in scene) a visited m file crl is (ap (λ (u : List ℕ). found u rule.List (crl_file m.body)) (sym at) ∙ there) listed
    ∙ tested_ok (manifest_place a) (point_tests m crl) (point_with a m crl) (ap (λ (u : List ℕ). kept u (point_tests m crl)) (sym at) ∙ all)
