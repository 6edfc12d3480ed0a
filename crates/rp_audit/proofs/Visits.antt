-- What calls answer that visit.
use Rattle.std.proofs.Common.{◌≡◌, ℕ, ◌-◌, List, [], ◌∷◌, ◌++◌, Bool, true, false, Result, Ok, Err, length, max, refl, sym, ap, subst, ◌∙◌}
use Rattle.signer_api.specs.State.{SignerState}
use Rattle.signer_ring.specs.Ring.{AllTell}
use Rattle.rp_rules.specs.declared.rules.Rule.{Rule}
use Rattle.rp_rules.specs.declared.rules.Rule.TheVariants as rule
use Rattle.rp_rules.specs.Checks.{Refused as Refusal, Checked, ◌>>=◌, refused}
use Rattle.rp_rules.specs.Objects.{SignedRoa}
use Rattle.rp_rules.specs.Authorities.{Authority, listed_uri}
use Rattle.rp_rules.specs.Certificates.{File, accepted_anchor, accepted_authority}
use Rattle.rp_rules.specs.Points.{Point, is_certificate_file, other_files, accepted_point, accepted_roa}
use Rattle.rp_rules.specs.Walk.{Visit, Certificate, Published, Route, visited, visit_file, visit_files, visit_below, walk}
use Rattle.rp_rules.specs.Views.{point_values}
use Rattle.rp_audit.specs.declared.authority.Authority.{Authority as Accepted}
use Rattle.rp_audit.specs.declared.noted.Noted.{Noted}
use Rattle.rp_audit.specs.declared.signed.Listing.{Listing}
use Rattle.rp_audit.specs.declared.refusal.AuditRefused.{AuditRefused}
use Rattle.rp_audit.specs.declared.scene.Scene.{Scene}
use Rattle.rp_audit.specs.declared.signed.ReadRoa.{ReadRoa}
use Rattle.rp_audit.specs.inner.Told.{IsRefusal, Tells, Answers, Gives}
use Rattle.rp_audit.specs.inner.Views.{context_of, held_in, authority_value, roa_value, point_value}
use Rattle.rp_audit.specs.inner.Noted.{Sees, Notes, WalkContinues, VisitsFile, VisitsFiles, IsWalk, visit_authority, visit_roa}
use Rattle.rp_audit.proofs.Checking.{bind_ok, bind_err, refusal_tells}
use Rattle.rp_audit.proofs.Answering.{answers_stop, answers_behind, tells_answers}
use Rattle.rp_audit.proofs.Serials.{authority_serial, roa_file_serial}
use Rattle.rp_audit.proofs.Steps.{Opens, Closes, authority_goes, roa_goes, point_goes, none_below, below_stops, files_stop}
use Rattle.rp_audit.proofs.FileSteps.{SoFar, one_more, one_stops, whole_walk, walk_stops, anchor_stops}

-- ---- a ROA

abbrev roa_check : Scene → Point → File → List Visit → List SignerState → Checked SignedRoa
roa_check scene p file visits s = accepted_roa (context_of scene s) (held_in scene) p (visited visits) file

abbrev roa_walk : Scene → Point → File → List Visit → List SignerState → Checked (List Visit)
roa_walk scene p file visits s = visit_roa (context_of scene s) (held_in scene) p file visits

pub roa_stops : {X : Type 0} (P : X → Checked (List Visit) → Type 0) (scene : Scene) (p : Point) (file : File) (visits : List Visit) (old new : List SignerState) (e : AuditRefused)
    → Answers (Gives roa_value) (λ s. accepted_roa (context_of scene s) (held_in scene) p (visited visits) file) (Err e) old new
    → Answers P (λ s. visit_roa (context_of scene s) (held_in scene) p file visits) (Err e) old new
roa_stops P scene p file visits old new e told =
    let f : SignedRoa → Checked (List Visit) = λ r. Ok (visits ++ Route p.authority (listed_uri p.authority file.0) r ∷ []) in
    answers_stop (Gives roa_value) P (roa_check scene p file visits) (roa_walk scene p file visits) old new e (λ c is. bind_err (roa_check scene p file visits old) f c is) told

pub roa_visited : (scene : Scene) (p : Point) (file : File) (visits : List Visit) (before after : Noted) (s : List SignerState) (r : ReadRoa) (serial : ℕ) → is_certificate_file file ≡ false
    → accepted_roa (context_of scene s) (held_in scene) p (visited visits) file ≡ Ok (roa_value r)
    → Notes (held_in scene) visits (Route p.authority (listed_uri p.authority file.0) (roa_value r) ∷ []) before after → serial ≡ r.certificate.cert.serial
    → VisitsFile (held_in scene) p file visits before after serial (visit_roa (context_of scene s) (held_in scene) p file visits)
roa_visited scene p file visits before after s r serial kind is notes same = record {
  goes = roa_goes (held_in scene) visits before after (roa_check scene p file visits s) p.authority (listed_uri p.authority file.0) (roa_value r) is notes;
  told = same ∙ roa_file_serial (context_of scene s) (held_in scene) p (visited visits) file (roa_value r) kind is;
}

-- ---- an authority

abbrev child_check : Scene → Point → File → List Visit → List SignerState → Checked Authority
child_check scene p file visits s = accepted_authority (context_of scene s) (held_in scene) p.authority p.crl.entries (visited visits) file

abbrev child_walk : Scene → ℕ → Point → File → List Visit → List SignerState → Checked (List Visit)
child_walk scene levels p file visits s = visit_authority (context_of scene s) (held_in scene) (visit_below levels (context_of scene s) (held_in scene)) p file visits

abbrev below_walk : Scene → ℕ → Authority → List Visit → List SignerState → Checked (List Visit)
below_walk scene levels a visits s = visit_below levels (context_of scene s) (held_in scene) a visits

pub authority_stops : {X : Type 0} (P : X → Checked (List Visit) → Type 0) (scene : Scene) (levels : ℕ) (p : Point) (file : File) (visits : List Visit) (old new : List SignerState) (e : AuditRefused)
    → Answers (Gives authority_value) (λ s. accepted_authority (context_of scene s) (held_in scene) p.authority p.crl.entries (visited visits) file) (Err e) old new
    → Answers P (λ s. visit_authority (context_of scene s) (held_in scene) (visit_below levels (context_of scene s) (held_in scene)) p file visits) (Err e) old new
authority_stops P scene levels p file visits old new e told =
    let f : Authority → Checked (List Visit) = λ a. visit_below levels (context_of scene old) (held_in scene) a (visits ++ Certificate a ∷ []) in
    answers_stop (Gives authority_value) P (child_check scene p file visits) (child_walk scene levels p file visits) old new e (λ c is. bind_err (child_check scene p file visits old) f c is) told

pub child_stops : {X Y : Type 0} (P : X → Checked (List Visit) → Type 0) (Q : Y → Checked (List Visit) → Type 0) (scene : Scene) (levels : ℕ) (p : Point) (file : File) (visits : List Visit) (old mid new : List SignerState) (child : Authority) (e : AuditRefused)
    → mid ≡ old → accepted_authority (context_of scene old) (held_in scene) p.authority p.crl.entries (visited visits) file ≡ Ok child
    → Answers Q (λ s. visit_below levels (context_of scene s) (held_in scene) child (visits ++ Certificate child ∷ [])) (Err e) mid new
    → Answers P (λ s. visit_authority (context_of scene s) (held_in scene) (visit_below levels (context_of scene s) (held_in scene)) p file visits) (Err e) old new
child_stops P Q scene levels p file visits old mid new child e same is told =
    let f : Authority → Checked (List Visit) = λ a. visit_below levels (context_of scene old) (held_in scene) a (visits ++ Certificate a ∷ []) in
    let below : List SignerState → Checked (List Visit) = below_walk scene levels child (visits ++ Certificate child ∷ []) in
    answers_stop Q P below (child_walk scene levels p file visits) old new e
    (λ c stops. bind_ok (child_check scene p file visits old) f child is ∙ stops)
    (answers_behind Q below (Err e) old mid new same told)

pub child_visited : {Y : Type 0} (scene : Scene) (levels : ℕ) (p : Point) (file : File) (visits : List Visit) (old mid new : List SignerState) (n0 n1 n2 : Noted) (child : Authority) (u : Y) (serial : ℕ)
    → is_certificate_file file ≡ true → mid ≡ old → accepted_authority (context_of scene old) (held_in scene) p.authority p.crl.entries (visited visits) file ≡ Ok child
    → Notes (held_in scene) visits (Certificate child ∷ []) n0 n1
    → Answers {A = Y} (λ _ m. WalkContinues (held_in scene) (visits ++ Certificate child ∷ []) n1 n2 m) (λ s. visit_below levels (context_of scene s) (held_in scene) child (visits ++ Certificate child ∷ [])) (Ok u) mid new
    → serial ≡ child.cert.serial
    → (new ≡ old) × VisitsFile (held_in scene) p file visits n0 n2 serial (visit_authority (context_of scene old) (held_in scene) (visit_below levels (context_of scene old) (held_in scene)) p file visits)
child_visited {Y} scene levels p file visits old mid new n0 n1 n2 child u serial kind same is notes told at =
    let below : List SignerState → Checked (List Visit) = below_walk scene levels child (visits ++ Certificate child ∷ []) in
    let Q : Y → Checked (List Visit) → Type 0 = λ _ m. WalkContinues (held_in scene) (visits ++ Certificate child ∷ []) n1 n2 m in
    let here = answers_behind Q below (Ok u) old mid new same told in (
      here.0,
      record {
        goes = authority_goes (held_in scene) visits n0 n1 n2 (child_check scene p file visits old) (visit_below levels (context_of scene old) (held_in scene)) child is notes here.1;
        told = at ∙ authority_serial (context_of scene old) (held_in scene) p p.crl.entries (visited visits) file child kind is;
      },
    )

-- ---- files

abbrev file_walk : Scene → ℕ → Point → File → List Visit → List SignerState → Checked (List Visit)
file_walk scene levels p file visits s = visit_file (context_of scene s) (held_in scene) (visit_below levels (context_of scene s) (held_in scene)) p file visits

abbrev files_walk : Scene → ℕ → Point → List Visit → List SignerState → Checked (List Visit)
files_walk scene levels p visits s = visit_files (context_of scene s) (held_in scene) (visit_below levels (context_of scene s) (held_in scene)) p (other_files p) visits

abbrev Left : Scene → ℕ → List SignerState → Point → List Visit → List File → Noted → Noted → ℕ → Type 0
Left scene levels s p visits left n0 n1 greatest = SoFar (context_of scene s) (held_in scene) (visit_below levels (context_of scene s) (held_in scene)) p visits left n0 n1 greatest

pub file_stops : {X Y : Type 0} (P : X → Checked (List Visit) → Type 0) (Q : Y → Checked (List Visit) → Type 0) (scene : Scene) (levels : ℕ) (p : Point) (file : File) (left : List File) (visits : List Visit) (old mid new : List SignerState) (n0 n1 : Noted) (greatest : ℕ) (e : AuditRefused)
    → mid ≡ old → (so : SoFar (context_of scene old) (held_in scene) (visit_below levels (context_of scene old) (held_in scene)) p visits (file ∷ left) n0 n1 greatest)
    → Answers Q (λ s. visit_file (context_of scene s) (held_in scene) (visit_below levels (context_of scene s) (held_in scene)) p file (visits ++ so.added)) (Err e) mid new
    → Answers P (λ s. visit_files (context_of scene s) (held_in scene) (visit_below levels (context_of scene s) (held_in scene)) p (other_files p) visits) (Err e) old new
file_stops P Q scene levels p file left visits old mid new n0 n1 greatest e same so told =
    answers_stop Q P (file_walk scene levels p file (visits ++ so.added)) (files_walk scene levels p visits) old new e
    (λ c stops. one_stops (context_of scene old) (held_in scene) (visit_below levels (context_of scene old) (held_in scene)) p visits file left n0 n1 greatest c so stops)
    (answers_behind Q (file_walk scene levels p file (visits ++ so.added)) (Err e) old mid new same told)

pub file_visited : (scene : Scene) (levels : ℕ) (p : Point) (file : File) (left : List File) (visits : List Visit) (old mid new : List SignerState) (n0 n1 n2 : Noted) (greatest serial : ℕ)
    → mid ≡ old → (so : SoFar (context_of scene old) (held_in scene) (visit_below levels (context_of scene old) (held_in scene)) p visits (file ∷ left) n0 n1 greatest)
    → Answers (λ n m. VisitsFile (held_in scene) p file (visits ++ so.added) n1 n2 n m) (λ s. visit_file (context_of scene s) (held_in scene) (visit_below levels (context_of scene s) (held_in scene)) p file (visits ++ so.added)) (Ok serial) mid new
    → SoFar (context_of scene old) (held_in scene) (visit_below levels (context_of scene old) (held_in scene)) p visits left n0 n2 (max greatest serial)
file_visited scene levels p file left visits old mid new n0 n1 n2 greatest serial same so told =
    let Q : ℕ → Checked (List Visit) → Type 0 = λ n m. VisitsFile (held_in scene) p file (visits ++ so.added) n1 n2 n m in
    let here = answers_behind Q (file_walk scene levels p file (visits ++ so.added)) (Ok serial) old mid new same told in
    one_more (context_of scene old) (held_in scene) (visit_below levels (context_of scene old) (held_in scene)) p visits file left n0 n1 n2 greatest serial so here.1

-- ---- below an authority

pub none_answers : {X : Type 0} (P : X → Checked (List Visit) → Type 0) (scene : Scene) (levels : ℕ) (a : Authority) (visits : List Visit) (old : List SignerState) (e : AuditRefused)
    → levels ≡ 0 → IsRefusal a.uri rule.Depth e → Answers P (λ s. visit_below levels (context_of scene s) (held_in scene) a visits) (Err e) old old
none_answers P scene levels a visits old e none told =
    let id : List Visit → List Visit = λ x. x in
    let stop : Checked (List Visit) = refused a.uri rule.Depth in
    tells_answers id P stop (below_walk scene levels a visits) old old e refl
    (λ c all is. none_below levels (context_of scene old) (held_in scene) a visits none ∙ is)
    (refusal_tells id stop a.uri rule.Depth e refl told)

pub point_stops : {X : Type 0} (P : X → Checked (List Visit) → Type 0) (scene : Scene) (levels : ℕ) (a : Accepted) (visits : List Visit) (old new : List SignerState) (e : AuditRefused) → (levels ≡ 0 → ⊥)
    → Answers (Gives (point_value a)) (λ s. accepted_point (context_of scene s) (held_in scene) (authority_value a) (visited visits)) (Err e) old new
    → Answers P (λ s. visit_below levels (context_of scene s) (held_in scene) (authority_value a) visits) (Err e) old new
point_stops P scene levels a visits old new e some told =
    answers_stop (Gives (point_value a)) P (λ s. accepted_point (context_of scene s) (held_in scene) (authority_value a) (visited visits)) (below_walk scene levels (authority_value a) visits) old new e
    (λ c stops. below_stops levels (context_of scene old) (held_in scene) (authority_value a) visits c some stops) told

pub listed_stops : {X Y : Type 0} (P : X → Checked (List Visit) → Type 0) (Q : Y → Checked (List Visit) → Type 0) (scene : Scene) (levels : ℕ) (a : Authority) (visits : List Visit) (p : Point) (old mid new : List SignerState) (e : AuditRefused) → (levels ≡ 0 → ⊥)
    → mid ≡ old → accepted_point (context_of scene old) (held_in scene) a (visited visits) ≡ Ok p
    → Answers Q (λ s. visit_files (context_of scene s) (held_in scene) (visit_below (levels - 1) (context_of scene s) (held_in scene)) p (other_files p) (visits ++ Published p ∷ [])) (Err e) mid new
    → Answers P (λ s. visit_below levels (context_of scene s) (held_in scene) a visits) (Err e) old new
listed_stops P Q scene levels a visits p old mid new e some same is told =
    answers_stop Q P (files_walk scene (levels - 1) p (visits ++ Published p ∷ [])) (below_walk scene levels a visits) old new e
    (λ c stops. files_stop levels (context_of scene old) (held_in scene) a visits p c some is stops)
    (answers_behind Q (files_walk scene (levels - 1) p (visits ++ Published p ∷ [])) (Err e) old mid new same told)

pub below_visited : (scene : Scene) (levels : ℕ) (a : Authority) (visits : List Visit) (p : Point) (old mid new : List SignerState) (place serial : ℕ) (n0 n1 n2 n3 : Noted) → (levels ≡ 0 → ⊥)
    → mid ≡ old → accepted_point (context_of scene old) (held_in scene) a (visited visits) ≡ Ok p → place ≡ length (point_values n0.points.items) → Opens visits p n0 n1
    → Answers (λ n m. VisitsFiles (held_in scene) p (visits ++ Published p ∷ []) n1 n2 n m) (λ s. visit_files (context_of scene s) (held_in scene) (visit_below (levels - 1) (context_of scene s) (held_in scene)) p (other_files p) (visits ++ Published p ∷ [])) (Ok serial) mid new
    → Closes place serial n2 n3 → (new ≡ old) × WalkContinues (held_in scene) visits n0 n3 (visit_below levels (context_of scene old) (held_in scene) a visits)
below_visited scene levels a visits p old mid new place serial n0 n1 n2 n3 some same is at opens told closes =
    let Q : ℕ → Checked (List Visit) → Type 0 = λ n m. VisitsFiles (held_in scene) p (visits ++ Published p ∷ []) n1 n2 n m in
    let here = answers_behind Q (files_walk scene (levels - 1) p (visits ++ Published p ∷ [])) (Ok serial) old mid new same told in
    (here.0, point_goes levels (context_of scene old) (held_in scene) a visits p place serial n0 n1 n2 n3 some is at opens here.1 closes)

-- ---- the walk

pub anchor_answers : {X : Type 0} (P : X → Checked (List Visit) → Type 0) (scene : Scene) (old new : List SignerState) (e : AuditRefused)
    → Answers (Gives authority_value) (λ s. accepted_anchor (context_of scene s) (held_in scene)) (Err e) old new → Answers P (λ s. walk (context_of scene s) (held_in scene)) (Err e) old new
anchor_answers P scene old new e told =
    answers_stop (Gives authority_value) P (λ s. accepted_anchor (context_of scene s) (held_in scene)) (λ s. walk (context_of scene s) (held_in scene)) old new e
    (λ c stops. anchor_stops (context_of scene old) (held_in scene) c stops) told

pub walk_answers : {X Y : Type 0} (P : X → Checked (List Visit) → Type 0) (Q : Y → Checked (List Visit) → Type 0) (scene : Scene) (a : Authority) (old mid new : List SignerState) (e : AuditRefused) → mid ≡ old
    → accepted_anchor (context_of scene old) (held_in scene) ≡ Ok a → Answers Q (λ s. visit_below 65 (context_of scene s) (held_in scene) a (Certificate a ∷ [])) (Err e) mid new
    → Answers P (λ s. walk (context_of scene s) (held_in scene)) (Err e) old new
walk_answers P Q scene a old mid new e same is told =
    answers_stop Q P (below_walk scene 65 a (Certificate a ∷ [])) (λ s. walk (context_of scene s) (held_in scene)) old new e
    (λ c stops. walk_stops (context_of scene old) (held_in scene) a c is stops)
    (answers_behind Q (below_walk scene 65 a (Certificate a ∷ [])) (Err e) old mid new same told)

pub walk_visited : {Y : Type 0} (scene : Scene) (a : Authority) (old mid new : List SignerState) (n0 n1 n2 : Noted) (u : Y) → mid ≡ old → accepted_anchor (context_of scene old) (held_in scene) ≡ Ok a
    → n0.origins.items ≡ [] → n0.points.items ≡ [] → Notes (held_in scene) [] (Certificate a ∷ []) n0 n1 → Sees [] n0.visited_uris
    → Answers {A = Y} (λ _ m. WalkContinues (held_in scene) (Certificate a ∷ []) n1 n2 m) (λ s. visit_below 65 (context_of scene s) (held_in scene) a (Certificate a ∷ [])) (Ok u) mid new
    → (new ≡ old) × IsWalk (held_in scene) n2 (walk (context_of scene old) (held_in scene))
walk_visited {Y} scene a old mid new n0 n1 n2 u same is origins points_ first none told =
    let Q : Y → Checked (List Visit) → Type 0 = λ _ m. WalkContinues (held_in scene) (Certificate a ∷ []) n1 n2 m in
    let here = answers_behind Q (below_walk scene 65 a (Certificate a ∷ [])) (Ok u) old mid new same told in
    (here.0, whole_walk (context_of scene old) (held_in scene) a n0 n1 n2 is origins points_ first none here.1)
