use Rattle.std.proofs.Common.{ℕ, get_or, sym, ap, subst, ◌∙◌}
use Rattle.entitle.specs.declared.trees.Owed.{Owed}
use Rattle.issue_plan.specs.inner.OwedPlaces.{owed_place, IsServing}
use Rattle.issue_plan.proofs.PlaceLemmas.{that-each, that-place}
use Rattle.issue_plan.proofs.StayLemmas.{serving-stays}
use Rattle.issue_plan.proofs.owed_places.note_named.Goals as goal

pub returns-clause-positions : goal.returns-clause-positions
returns-clause-positions c = λ s place at are.
    let owed = c.args.owed.now in
    let index = c.in-Some.index in
    let desk = c.args.issuer.now.desk in
    let origin = c.in-Route.origin in
    c.note_position.ensures s owed (that-each owed index desk origin c.in-Some.ensures).0
    (that-place s owed index desk c.args.position origin c.args.row.now c.in-Some.ensures c.in-Route.is place at) are

pub returns-clause-stay : goal.returns-clause-stay
returns-clause-stay c = λ s keys settled moment is place at stands are.
    let owed = c.args.owed.now in
    let index = c.in-Some.index in
    let desk = c.args.issuer.now.desk in
    let origin = c.in-Route.origin in
    let that = that-each owed index desk origin c.in-Some.ensures in
    c.note_staying.ensures s keys settled (λ d serving.
    serving-stays s keys settled c.args.issuer.now (get_or owed index d) c.args.row.now c.args.position is
    (sym (ap (λ (o : Owed). o.desk) (that.1 d)))
    (ap (owed_place s.site.now s.names.now) (that.1 d) ∙ place origin c.in-Route.is)
    at stands (subst (λ (m : ℕ). IsServing m c.args.issuer.now (get_or owed index d) c.args.row.now) (sym moment) serving)) are
