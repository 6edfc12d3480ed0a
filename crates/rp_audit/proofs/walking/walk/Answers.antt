use Rattle.std.proofs.Common.{◌≡◌, ℕ, List, [], ◌∷◌, ◌++◌, refl, subst, ◌∙◌}
use Rattle.std.proofs.lemmas.Result.{err_from_is_err_and}
use Rattle.rp_rules.specs.Walk.{Visit, Certificate, visited}
use Rattle.rp_audit.specs.declared.noted.Noted.{Noted}
use Rattle.rp_audit.specs.inner.Views.{held_in, authority_value}
use Rattle.rp_audit.specs.inner.Noted.{Sees, Notes, WalkContinues, IsWalk}
use Rattle.rp_audit.proofs.Steps.{certificate_notes}
use Rattle.rp_audit.proofs.Visits.{anchor_answers, walk_answers, walk_visited}
use Rattle.rp_audit.proofs.walking.walk.Goals as goal

pub returns-in_err-anchor : goal.returns-in_err-anchor
returns-in_err-anchor g c =
    let e = err_from_is_err_and c.from_residual.result c.from_residual.ensures.1 in
    rw (e.1, e.2) (anchor_answers (λ (noted : Noted) m. IsWalk (held_in c.args.scene.now) noted m) c.args.scene.now c.args.ring.now c.accept_anchor.new.ring c.in_err-anchor.field-0.0 c.in_err-anchor.ensures)

pub returns-in_err-visit_below : goal.returns-in_err-visit_below
returns-in_err-visit_below g c =
    let e = err_from_is_err_and c.from_residual-in_err-visit_below.result c.from_residual-in_err-visit_below.ensures.1 in
    let scene = c.args.scene.now in
    let a = authority_value c.in_ok-anchor.anchor in
    let first : Noted = c.new-noted.result in
    let mid : Noted = record { visited_uris = c.add.new.self; origins = first.origins; points = first.points } in
    let notes : Notes (held_in scene) [] (Certificate a ∷ []) first mid =
    certificate_notes (held_in scene) [] a first mid refl refl
    (λ s. subst (λ (u : List ℕ). Sees (u ∷ []) mid.visited_uris) (c.in_ok-owned.ensures ∙ c.as_str.ensures.value) (c.in_ok-add.ensures [] s)) in
    rw (e.1, e.2) (walk_answers (λ (noted : Noted) m. IsWalk (held_in scene) noted m) (λ (u : Unit {0}) m. WalkContinues (held_in scene) (Certificate a ∷ []) mid c.visit_below.new.noted m)
    scene a c.args.ring.now c.accept_anchor.new.ring c.visit_below.new.ring c.in_err-visit_below.field-0.0 c.in_ok-anchor.ensures.0 c.in_ok-anchor.ensures.1
    (c.in_err-visit_below.ensures (Certificate a ∷ []) (notes.uris c.new-noted.ensures.visited_uris)))

pub returns : goal.returns
returns g c =
    let scene = c.args.scene.now in
    let a = authority_value c.in_ok-anchor.anchor in
    let first : Noted = c.new-noted.result in
    let mid : Noted = record { visited_uris = c.add.new.self; origins = first.origins; points = first.points } in
    let notes : Notes (held_in scene) [] (Certificate a ∷ []) first mid =
    certificate_notes (held_in scene) [] a first mid refl refl
    (λ s. subst (λ (u : List ℕ). Sees (u ∷ []) mid.visited_uris) (c.in_ok-owned.ensures ∙ c.as_str.ensures.value) (c.in_ok-add.ensures [] s)) in
    walk_visited scene a c.args.ring.now c.accept_anchor.new.ring c.visit_below.new.ring first mid c.visit_below.new.noted (tt {0}) c.in_ok-anchor.ensures.0 c.in_ok-anchor.ensures.1
    c.new-noted.ensures.origins c.new-noted.ensures.points notes c.new-noted.ensures.visited_uris (c.in_ok-visit_below.ensures (Certificate a ∷ []) (notes.uris c.new-noted.ensures.visited_uris))
