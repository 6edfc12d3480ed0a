use Rattle.std.proofs.Common.{◌≡◌, ℕ, ◌+◌, ◌-◌, List, [], ◌∷◌, ◌++◌, Ok, Err, drop, length, refl, sym, ap, subst, ◌∙◌, arith}
use Rattle.std.proofs.lemmas.Result.{err_from_is_err_and}
use Rattle.std.proofs.lemmas.List.{length-map}
use Rattle.std.proofs.Math.ListN.{drop_of_length-le}
use Rattle.crl_obj.specs.declared.values.CrlEntry.{CrlEntry}
use Rattle.payloads.specs.declared.values.ListedFile.{ListedFile}
use Rattle.payloads.specs.ManifestFormats.{file_view}
use Rattle.rp_rules.specs.declared.rules.Rule.TheVariants as rule
use Rattle.rp_rules.specs.Checks.{Checked}
use Rattle.rp_rules.specs.Certificates.{accepted_authority}
use Rattle.rp_rules.specs.Points.{other_files}
use Rattle.rp_rules.specs.Walk.{Visit, Certificate, Published, visited, visit_file, visit_files, visit_below}
use Rattle.rp_rules.specs.Views.{point_value as value_of}
use Rattle.rp_audit.specs.declared.noted.Noted.{Noted}
use Rattle.rp_audit.specs.inner.Told.{IsRefusal, Answers, Gives}
use Rattle.rp_audit.specs.inner.Views.{context_of, held_in, authority_value, point_value}
use Rattle.rp_audit.specs.inner.Noted.{Sees, Notes, WalkContinues, VisitsFile, VisitsFiles, visit_authority, visit_roa}
use Rattle.rp_audit.proofs.Answering.{answers_same, memory_answers}
use Rattle.rp_audit.proofs.Lists.{drop_here}
use Rattle.rp_audit.proofs.Steps.{Opens, Closes, certificate_notes}
use Rattle.rp_audit.proofs.FileSteps.{SoFar, file_is_authority, file_is_roa, others, others_skip, others_take, at_start, same_left, at_end}
use Rattle.rp_audit.proofs.Visits.{authority_stops, child_stops, child_visited, file_stops, file_visited, none_answers, point_stops, listed_stops, below_visited}
use Rattle.rp_audit.proofs.walking.+walk.Goals as goal

-- ---- an authority

pub visit_authority-returns-in_err-child : goal.visit_authority-returns-in_err-child
visit_authority-returns-in_err-child g t c = λ visits sees.
    let e = err_from_is_err_and c.from_residual.result c.from_residual.ensures.1 in
    let scene = c.args.scene.now in
    let point = point_value c.args.authority.now c.args.listing.now in
    let file = file_view c.args.file.now in
    let told = subst (λ (es : List CrlEntry). Answers (Gives authority_value) (λ s. accepted_authority (context_of scene s) (held_in scene) point.authority es (visited visits) file) (Err c.in_err-child.field-0.0) c.args.ring.now c.accept_authority.new.ring)
    c.as_slice-entries.ensures.value (c.in_err-child.ensures (visited visits) sees) in
    rw (e.1, e.2) (authority_stops (λ serial m. VisitsFile (held_in scene) point file visits c.args.noted.now c.args.noted.now serial m) scene c.args.levels point file visits c.args.ring.now c.accept_authority.new.ring c.in_err-child.field-0.0 told)

pub visit_authority-returns-in_err-owned : goal.visit_authority-returns-in_err-owned
visit_authority-returns-in_err-owned g t c = λ visits sees.
    let e = err_from_is_err_and c.from_residual-in_err-owned.result c.from_residual-in_err-owned.ensures.1 in
    rw (e.1, e.2) ((c.in_ok-child.ensures (visited visits) sees).0)

pub visit_authority-returns-in_err-add : goal.visit_authority-returns-in_err-add
visit_authority-returns-in_err-add g t c = λ visits sees.
    let e = err_from_is_err_and c.from_residual-in_err-add.result c.from_residual-in_err-add.ensures.1 in
    rw (e.1, e.2) ((c.in_ok-child.ensures (visited visits) sees).0)

pub visit_authority-returns-in_err-visit_below : goal.visit_authority-returns-in_err-visit_below
visit_authority-returns-in_err-visit_below g t c = λ visits sees.
    let e = err_from_is_err_and c.from_residual-in_err-visit_below.result c.from_residual-in_err-visit_below.ensures.1 in
    let scene = c.args.scene.now in
    let point = point_value c.args.authority.now c.args.listing.now in
    let file = file_view c.args.file.now in
    let child = authority_value c.in_ok-child.child in
    let told = subst (λ (es : List CrlEntry). Answers (Gives authority_value) (λ s. accepted_authority (context_of scene s) (held_in scene) point.authority es (visited visits) file) (Ok c.in_ok-child.child) c.args.ring.now c.accept_authority.new.ring)
    c.as_slice-entries.ensures.value (c.in_ok-child.ensures (visited visits) sees) in
    let before : Noted = c.args.noted.now in
    let mid : Noted = record { visited_uris = c.add.new.self; origins = before.origins; points = before.points } in
    let notes : Notes (held_in scene) visits (Certificate child ∷ []) before mid =
    certificate_notes (held_in scene) visits child before mid refl refl
    (λ s. subst (λ (u : List ℕ). Sees (visited visits ++ u ∷ []) mid.visited_uris) (c.in_ok-owned.ensures ∙ c.as_str.ensures.value) (c.in_ok-add.ensures (visited visits) s)) in
    rw (e.1, e.2) (child_stops (λ serial m. VisitsFile (held_in scene) point file visits before c.visit_below.new.noted serial m)
    (λ (u : Unit {0}) m. WalkContinues (held_in scene) (visits ++ Certificate child ∷ []) mid c.visit_below.new.noted m)
    scene c.args.levels point file visits c.args.ring.now c.accept_authority.new.ring c.visit_below.new.ring child c.in_err-visit_below.field-0.0 told.0 told.1
    (c.in_err-visit_below.ensures (visits ++ Certificate child ∷ []) (notes.uris sees)))

pub visit_authority-returns : goal.visit_authority-returns
visit_authority-returns g t c = λ visits sees.
    let scene = c.args.scene.now in
    let point = point_value c.args.authority.now c.args.listing.now in
    let file = file_view c.args.file.now in
    let child = authority_value c.in_ok-child.child in
    let told = subst (λ (es : List CrlEntry). Answers (Gives authority_value) (λ s. accepted_authority (context_of scene s) (held_in scene) point.authority es (visited visits) file) (Ok c.in_ok-child.child) c.args.ring.now c.accept_authority.new.ring)
    c.as_slice-entries.ensures.value (c.in_ok-child.ensures (visited visits) sees) in
    let before : Noted = c.args.noted.now in
    let mid : Noted = record { visited_uris = c.add.new.self; origins = before.origins; points = before.points } in
    let notes : Notes (held_in scene) visits (Certificate child ∷ []) before mid =
    certificate_notes (held_in scene) visits child before mid refl refl
    (λ s. subst (λ (u : List ℕ). Sees (visited visits ++ u ∷ []) mid.visited_uris) (c.in_ok-owned.ensures ∙ c.as_str.ensures.value) (c.in_ok-add.ensures (visited visits) s)) in
    child_visited scene c.args.levels point file visits c.args.ring.now c.accept_authority.new.ring c.visit_below.new.ring before mid c.visit_below.new.noted child (tt {0}) c.in_ok-child.child.cert.serial
    c.requires told.0 told.1 notes (c.in_ok-visit_below.ensures (visits ++ Certificate child ∷ []) (notes.uris sees)) refl

-- ---- files

pub visit_file-returns-then-is_certificate_file : goal.visit_file-returns-then-is_certificate_file
visit_file-returns-then-is_certificate_file g t c = λ visits sees.
    let scene = c.args.scene.now in
    let point = point_value c.args.authority.now c.args.listing.now in
    let file = file_view c.args.file.now in
    answers_same (λ serial m. VisitsFile (held_in scene) point file visits c.args.noted.now c.visit_authority.new.noted serial m)
    (λ s. visit_file (context_of scene s) (held_in scene) (visit_below c.args.levels (context_of scene s) (held_in scene)) point file visits)
    (λ s. visit_authority (context_of scene s) (held_in scene) (visit_below c.args.levels (context_of scene s) (held_in scene)) point file visits)
    c.visit_authority.result c.args.ring.now c.visit_authority.new.ring
    (file_is_authority (context_of scene c.args.ring.now) (held_in scene) (visit_below c.args.levels (context_of scene c.args.ring.now) (held_in scene)) point file visits (sym c.is_certificate_file.ensures ∙ c.if-is_certificate_file.true))
    (c.visit_authority.ensures visits sees)

pub visit_file-returns : goal.visit_file-returns
visit_file-returns g t c = λ visits sees.
    let scene = c.args.scene.now in
    let point = point_value c.args.authority.now c.args.listing.now in
    let file = file_view c.args.file.now in
    answers_same (λ serial m. VisitsFile (held_in scene) point file visits c.args.noted.now c.visit_roa.new.noted serial m)
    (λ s. visit_file (context_of scene s) (held_in scene) (visit_below c.args.levels (context_of scene s) (held_in scene)) point file visits)
    (λ s. visit_roa (context_of scene s) (held_in scene) point file visits)
    c.visit_roa.result c.args.ring.now c.visit_roa.new.ring
    (file_is_roa (context_of scene c.args.ring.now) (held_in scene) (visit_below c.args.levels (context_of scene c.args.ring.now) (held_in scene)) point file visits (sym c.is_certificate_file.ensures ∙ c.if-is_certificate_file.false))
    (c.visit_roa.ensures visits sees)

-- ---- the files of a point

pub visit_files-loop-file-init : goal.visit_files-loop-file-init
visit_files-loop-file-init g t c = λ visits sees. record {
  stays = refl;
  so = at_start (context_of c.args.scene.now c.args.ring.now) (held_in c.args.scene.now) (visit_below c.args.levels (context_of c.args.scene.now c.args.ring.now) (held_in c.args.scene.now))
      (point_value c.args.authority.now c.args.listing.now) visits c.args.noted.now c.first_serial-greatest.result c.first_serial-greatest.ensures;
}

pub visit_files-loop-file-preserved-then-is_crl_file : goal.visit_files-loop-file-preserved-then-is_crl_file
visit_files-loop-file-preserved-then-is_crl_file g t c = λ visits sees.
    let l = c.loop-file in
    let scene = c.args.scene.now in
    let files = c.args.listing.now.manifest.body.files.items in
    let here : drop l.file-index files ≡ c.file-item.result ∷ drop (l.file-index + 1) files =
    subst (λ (xs : List ListedFile). drop l.file-index xs ≡ c.file-item.result ∷ drop (l.file-index + 1) xs) c.deref-file-items.ensures.value
    (drop_here c.deref-file-items.result.now l.file-index c.file-item.result c.loop-file-test.true c.file-item.is) in
    let was = l.invariant visits sees in
    record {
      stays = was.stays;
      so = same_left (context_of scene c.args.ring.now) (held_in scene) (visit_below c.args.levels (context_of scene c.args.ring.now) (held_in scene)) (point_value c.args.authority.now c.args.listing.now) visits
          (others (drop l.file-index files)) (others (drop (l.file-index + 1) files)) c.args.noted.now l.noted l.greatest
          (ap others here ∙ others_skip c.file-item.result (drop (l.file-index + 1) files) (sym c.is_crl_file.ensures ∙ c.if-is_crl_file.true)) was.so;
    }

pub visit_files-loop-file-preserved : goal.visit_files-loop-file-preserved
visit_files-loop-file-preserved g t c = λ visits sees.
    let l = c.loop-file in
    let scene = c.args.scene.now in
    let point = point_value c.args.authority.now c.args.listing.now in
    let files = c.args.listing.now.manifest.body.files.items in
    let file = file_view c.file-item.result in
    let left = others (drop (l.file-index + 1) files) in
    let here : drop l.file-index files ≡ c.file-item.result ∷ drop (l.file-index + 1) files =
    subst (λ (xs : List ListedFile). drop l.file-index xs ≡ c.file-item.result ∷ drop (l.file-index + 1) xs) c.deref-file-items.ensures.value
    (drop_here c.deref-file-items.result.now l.file-index c.file-item.result c.loop-file-test.true c.file-item.is) in
    let was = l.invariant visits sees in
    let so : SoFar (context_of scene c.args.ring.now) (held_in scene) (visit_below c.args.levels (context_of scene c.args.ring.now) (held_in scene)) point visits (file ∷ left) c.args.noted.now l.noted l.greatest =
    same_left (context_of scene c.args.ring.now) (held_in scene) (visit_below c.args.levels (context_of scene c.args.ring.now) (held_in scene)) point visits
    (others (drop l.file-index files)) (file ∷ left) c.args.noted.now l.noted l.greatest
    (ap others here ∙ others_take c.file-item.result (drop (l.file-index + 1) files) (sym c.is_crl_file.ensures ∙ c.if-is_crl_file.false)) was.so in
    let told = c.in_ok-serial.ensures (visits ++ so.added) (so.notes.uris sees) in
    record {
      stays = told.0 ∙ was.stays;
      so = rw c.max-greatest.ensures (file_visited scene c.args.levels point file left visits c.args.ring.now l.ring c.visit_file.new.ring c.args.noted.now l.noted c.visit_file.new.noted l.greatest c.in_ok-serial.serial was.stays so told);
    }

pub visit_files-returns-in_err-serial : goal.visit_files-returns-in_err-serial
visit_files-returns-in_err-serial g t c = λ visits sees.
    let e = err_from_is_err_and c.from_residual.result c.from_residual.ensures.1 in
    let l = c.loop-file in
    let scene = c.args.scene.now in
    let point = point_value c.args.authority.now c.args.listing.now in
    let files = c.args.listing.now.manifest.body.files.items in
    let file = file_view c.file-item.result in
    let left = others (drop (l.file-index + 1) files) in
    let here : drop l.file-index files ≡ c.file-item.result ∷ drop (l.file-index + 1) files =
    subst (λ (xs : List ListedFile). drop l.file-index xs ≡ c.file-item.result ∷ drop (l.file-index + 1) xs) c.deref-file-items.ensures.value
    (drop_here c.deref-file-items.result.now l.file-index c.file-item.result c.loop-file-test.true c.file-item.is) in
    let was = l.invariant visits sees in
    let so : SoFar (context_of scene c.args.ring.now) (held_in scene) (visit_below c.args.levels (context_of scene c.args.ring.now) (held_in scene)) point visits (file ∷ left) c.args.noted.now l.noted l.greatest =
    same_left (context_of scene c.args.ring.now) (held_in scene) (visit_below c.args.levels (context_of scene c.args.ring.now) (held_in scene)) point visits
    (others (drop l.file-index files)) (file ∷ left) c.args.noted.now l.noted l.greatest
    (ap others here ∙ others_take c.file-item.result (drop (l.file-index + 1) files) (sym c.is_crl_file.ensures ∙ c.if-is_crl_file.false)) was.so in
    rw (e.1, e.2) (file_stops (λ (n : ℕ) m. VisitsFiles (held_in scene) point visits c.args.noted.now c.visit_file.new.noted n m)
    (λ (n : ℕ) m. VisitsFile (held_in scene) point file (visits ++ so.added) l.noted c.visit_file.new.noted n m)
    scene c.args.levels point file left visits c.args.ring.now l.ring c.visit_file.new.ring c.args.noted.now l.noted l.greatest c.in_err-serial.field-0.0 was.stays so
    (c.in_err-serial.ensures (visits ++ so.added) (so.notes.uris sees)))

pub visit_files-returns : goal.visit_files-returns
visit_files-returns g t c = λ visits sees.
    let l = c.loop-file in
    let scene = c.args.scene.now in
    let files = c.args.listing.now.manifest.body.files.items in
    let was = l.invariant visits sees in (
      was.stays,
      at_end (context_of scene c.args.ring.now) (held_in scene) (visit_below c.args.levels (context_of scene c.args.ring.now) (held_in scene)) (point_value c.args.authority.now c.args.listing.now) visits c.args.noted.now l.noted l.greatest
          (same_left (context_of scene c.args.ring.now) (held_in scene) (visit_below c.args.levels (context_of scene c.args.ring.now) (held_in scene)) (point_value c.args.authority.now c.args.listing.now) visits
          (others (drop l.file-index files)) [] c.args.noted.now l.noted l.greatest (ap others (drop_of_length-le files (omega arith))) was.so),
    )

-- ---- below an authority

pub visit_below-returns-then-levels-eq0 : goal.visit_below-returns-then-levels-eq0
visit_below-returns-then-levels-eq0 g t c = λ visits sees.
    none_answers (λ (u : Unit {0}) m. WalkContinues (held_in c.args.scene.now) visits c.args.noted.now c.args.noted.now m) c.args.scene.now c.args.levels (authority_value c.args.authority.now) visits c.args.ring.now c.refusal.result
    (omega arith) (subst (λ (u : List ℕ). IsRefusal u rule.Depth c.refusal.result) c.as_str.ensures.value c.refusal.ensures)

pub visit_below-returns-in_err-listing : goal.visit_below-returns-in_err-listing
visit_below-returns-in_err-listing g t c = λ visits sees.
    let e = err_from_is_err_and c.from_residual.result c.from_residual.ensures.1 in
    rw (e.1, e.2) (point_stops (λ (u : Unit {0}) m. WalkContinues (held_in c.args.scene.now) visits c.args.noted.now c.args.noted.now m) c.args.scene.now c.args.levels c.args.authority.now visits c.args.ring.now c.accept_point.new.ring c.in_err-listing.field-0.0
    (λ none. omega (arith, none)) (c.in_err-listing.ensures (visited visits) sees))

pub visit_below-returns-in_err-note_point : goal.visit_below-returns-in_err-note_point
visit_below-returns-in_err-note_point g t c = λ visits sees.
    let e = err_from_is_err_and c.from_residual-in_err-note_point.result c.from_residual-in_err-note_point.ensures.1 in
    rw (e.1, e.2) ((c.in_ok-listing.ensures (visited visits) sees).0)

pub visit_below-returns-in_err-serial : goal.visit_below-returns-in_err-serial
visit_below-returns-in_err-serial g t c = λ visits sees.
    let e = err_from_is_err_and c.from_residual-in_err-serial.result c.from_residual-in_err-serial.ensures.1 in
    let scene = c.args.scene.now in
    let a = authority_value c.args.authority.now in
    let point = point_value c.args.authority.now c.in_ok-listing.listing in
    let told = c.in_ok-listing.ensures (visited visits) sees in
    rw (e.1, e.2) (listed_stops (λ (u : Unit {0}) m. WalkContinues (held_in scene) visits c.args.noted.now c.visit_files.new.noted m)
    (λ (n : ℕ) m. VisitsFiles (held_in scene) point (visits ++ Published point ∷ []) c.note_point.new.noted c.visit_files.new.noted n m)
    scene c.args.levels a visits point c.args.ring.now c.accept_point.new.ring c.visit_files.new.ring c.in_err-serial.field-0.0 (λ none. omega (arith, none)) told.0 told.1
    (c.in_err-serial.ensures (visits ++ Published point ∷ []) (c.in_ok-note_point.ensures.uris visits sees)))

pub visit_below-returns : goal.visit_below-returns
visit_below-returns g t c = λ visits sees.
    let scene = c.args.scene.now in
    let a = authority_value c.args.authority.now in
    let point = point_value c.args.authority.now c.in_ok-listing.listing in
    let told = c.in_ok-listing.ensures (visited visits) sees in
    let place : c.len-place.result ≡ length c.args.noted.now.points.items = omega arith in
    below_visited scene c.args.levels a visits point c.args.ring.now c.accept_point.new.ring c.visit_files.new.ring c.len-place.result c.in_ok-serial.serial
    c.args.noted.now c.note_point.new.noted c.visit_files.new.noted c.close_point.new.noted (λ none. omega (arith, none)) told.0 told.1
    (place ∙ sym (length-map c.args.noted.now.points.items value_of))
    (record { uris = c.in_ok-note_point.ensures.uris visits; origins = c.in_ok-note_point.ensures.origins; listed = c.in_ok-note_point.ensures.points })
    (c.in_ok-serial.ensures (visits ++ Published point ∷ []) (c.in_ok-note_point.ensures.uris visits sees))
    (record { visited_uris = c.close_point.ensures.visited_uris; origins = c.close_point.ensures.origins; listed = c.close_point.ensures.points })
