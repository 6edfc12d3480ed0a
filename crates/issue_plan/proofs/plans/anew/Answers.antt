use Rattle.std.proofs.Common.{◌≡◌, ℕ, not, ◌++◌, subst, ap, ◌∙◌, List, map}
use Rattle.std.specs.Prelude.{filter}
use Rattle.std.specs.List.{filter_map}
use Rattle.key_ids.specs.declared.identifier.KeyId.{KeyId}
use Rattle.key_roll.specs.declared.issued.IssuedRow.{IssuedRow}
use Rattle.key_roll.specs.declared.work.CertWork.{CertWork}
use Rattle.key_roll.specs.declared.work.RoaWork.{RoaWork}
use Rattle.pub_set.specs.Objects.{Rise}
use Rattle.issue_plan.specs.declared.live.LiveKey.{LiveKey}
use Rattle.issue_plan.specs.Wanted.{wanted_roas}
use Rattle.issue_plan.specs.Fits.{settled}
use Rattle.issue_plan.specs.inner.Live.{live_key}
use Rattle.issue_plan.specs.inner.Anew.{is_settled, kept_certificate, kept_roa, point_stays}
use Rattle.issue_plan.specs.inner.Changed.{AreChanged}
use Rattle.issue_plan.proofs.FitLemmas.{settled-are, works-are}
use Rattle.issue_plan.proofs.plans.anew.Goals as goal

pub returns-clause-anew : goal.returns-clause-anew
returns-clause-anew c = λ plan_input over of-certs of-roas.
    let s = c.args.standing.now in
    let roas : List RoaWork = wanted_roas c.args.keys.now c.args.owed.now in
    let keys : List LiveKey = c.deref-settled.result.now in
    let are-settled : keys ≡ map live_key (settled plan_input) =
    settled-are plan_input s over c.args.certs.items keys of-certs
    (c.deref-settled.ensures.value
    ∙ subst (λ (l : List CertWork). c.in_ok-settled.settled.items ≡ filter (is_settled s l) s.live.now)
    c.deref.ensures.value c.in_ok-settled.ensures) in
    let first : c.certificates_anew.new.kept.items ≡ filter_map (kept_certificate s keys) c.args.certs.items =
    c.in_ok-certs.ensures.kept ∙ ap (λ (l : List ℕ). l ++ filter_map (kept_certificate s keys) c.args.certs.items) c.in_ok-kept.ensures.items in
    let kept : c.roas_anew.new.kept.items
    ≡ filter_map (kept_certificate s keys) c.args.certs.items ++ filter_map (kept_roa s keys) roas =
    c.in_ok-roas.ensures.kept ∙ ap (λ (l : List ℕ). l ++ filter_map (kept_roa s keys) roas) first in
    let changed : AreChanged plan_input.issued c.roas_anew.new.kept.items c.in_ok-certs.certs.items c.in_ok-roas.roas.items
    c.in_ok-changed.changed.items =
    subst (λ (l : List IssuedRow). AreChanged l c.roas_anew.new.kept.items c.in_ok-certs.certs.items c.in_ok-roas.roas.items
    c.in_ok-changed.changed.items) over.issued
    (subst (λ (k : List ℕ). AreChanged s.issued.now k c.in_ok-certs.certs.items c.in_ok-roas.roas.items c.in_ok-changed.changed.items)
    c.deref-4.ensures.value
    (subst (λ (l : List CertWork). AreChanged s.issued.now c.deref-4.result.now l c.in_ok-roas.roas.items c.in_ok-changed.changed.items)
    c.deref-5.ensures.value
    (subst (λ (l : List RoaWork). AreChanged s.issued.now c.deref-4.result.now c.deref-5.result.now l c.in_ok-changed.changed.items)
    c.deref-6.ensures.value c.in_ok-changed.ensures))) in
    let are = works-are plan_input s over keys are-settled (subst (λ (l : List IssuedRow). Rise (λ (row : IssuedRow). row.uri) l) over.issued c.requires.rising)
    c.in_ok-certs.certs.items c.args.certs.items c.in_ok-roas.roas.items roas
    c.in_ok-points.points.items c.args.points.now c.roas_anew.new.kept.items c.in_ok-changed.changed.items
    of-certs of-roas c.in_ok-certs.ensures.anew c.in_ok-roas.ensures.anew kept changed
    (subst (λ (l : List KeyId). c.in_ok-points.points.items
    ≡ filter (λ point. not (point_stays s keys l point)) c.args.points.now) c.deref-7.ensures.value c.in_ok-points.ensures) in
    record { certs = are.0; roas = are.1; points = are.2 }
