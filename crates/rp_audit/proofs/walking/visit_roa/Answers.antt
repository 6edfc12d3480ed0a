use Rattle.std.proofs.Common.{◌≡◌, ℕ, List, refl, sym, ap, ◌∙◌, rules}
use Rattle.std.proofs.lemmas.Result.{err_from_is_err_and}
use Rattle.payloads.specs.ManifestFormats.{file_view}
use Rattle.rp_rules.specs.Walk.{visited}
use Rattle.rp_audit.specs.inner.Views.{held_in, point_value}
use Rattle.rp_audit.specs.inner.Noted.{VisitsFile}
use Rattle.rp_audit.proofs.Visits.{roa_stops, roa_visited}
use Rattle.rp_audit.proofs.walking.visit_roa.Goals as goal

pub returns-in_err-roa : goal.returns-in_err-roa
returns-in_err-roa g c = λ visits sees.
    let e = err_from_is_err_and c.from_residual.result c.from_residual.ensures.1 in
    rw (e.1, e.2) (let point = point_value c.args.authority.now c.args.listing.now in
    let file = file_view c.args.file.now in
    roa_stops (λ serial m. VisitsFile (held_in c.args.scene.now) point file visits c.args.noted.now c.args.noted.now serial m) c.args.scene.now point file visits
    c.args.ring.now c.accept_roa.new.ring c.in_err-roa.field-0.0 (c.in_err-roa.ensures point (visited visits) refl (sym c.as_slice-entries.ensures.value) sees))

pub returns-in_err-note_roa : goal.returns-in_err-note_roa
returns-in_err-note_roa g c = λ visits sees.
    let point = point_value c.args.authority.now c.args.listing.now in
    let same : c.accept_roa.new.ring ≡ c.args.ring.now = (c.in_ok-roa.ensures point (visited visits) refl (sym c.as_slice-entries.ensures.value) sees).0 in
    search rules

pub returns : goal.returns
returns g c = λ visits sees.
    let point = point_value c.args.authority.now c.args.listing.now in
    let file = file_view c.args.file.now in
    let told = c.in_ok-roa.ensures point (visited visits) refl (sym c.as_slice-entries.ensures.value) sees in (
      told.0,
      roa_visited c.args.scene.now point file visits c.args.noted.now c.note_roa.new.noted c.args.ring.now c.in_ok-roa.roa _ c.requires told.1
          (c.in_ok-note_roa.ensures (held_in c.args.scene.now) visits) refl,
    )
