use Rattle.std.proofs.Common.{◌≡◌, ◌<◌, true, length, subst, ◌∙◌, rules}
use Rattle.issue_plan.specs.inner.OwedPlaces.{IsServing}
use Rattle.std.proofs.lemmas.List.{get_or_default}
use Rattle.issue_plan.proofs.StayLemmas.{one-staying}
use Rattle.issue_plan.proofs.owed_places.note_staying.Goals as goal

pub returns-then-index-len : goal.returns-then-index-len
returns-then-index-len c = λ s keys settled stays are.
    let owed = c.args.owed.now in
    let index = c.args.index in
    let inside : index < length owed = search rules in
    one-staying s keys settled owed c.args.stay.now.items index c.serves_owed.result
    (λ so d. stays d (subst (λ each. IsServing c.args.moment c.args.issuer.now each c.args.row.now)
    (c.index-owed-index.is ∙ get_or_default owed index c.index-owed-index.result d inside) (c.serves_owed.ensures so))) are
