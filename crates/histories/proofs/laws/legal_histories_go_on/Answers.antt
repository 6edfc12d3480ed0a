use Rattle.histories.specs.Events.Event.{Commit, DeskFault, Publish, Stop}
use Rattle.histories.specs.Events.{signing}
use Rattle.histories.specs.Legal.{CanBeWritten}
use Rattle.histories.specs.Found.{store_after}
use Rattle.histories.proofs.GoesOn.{with_next, reopenings, choices, editions}
use Rattle.histories.proofs.laws.legal_histories_go_on.Goals as goal

pub returns-clause-reopenings : goal.returns-clause-reopenings
returns-clause-reopenings c = λ site history signed lists editions legal.
    reopenings site history legal c.steps_stay_steps.ensures.one signed lists editions

pub returns-clause-choices : goal.returns-clause-choices
returns-clause-choices c = λ site history signed desks press legal. choices site history legal signed desks press

pub returns-clause-editions : goal.returns-clause-editions
returns-clause-editions c = λ site history signed clock edition old new legal.
    editions site history legal c.steps_stay_steps.ensures.one c.what_is_planned_and_made_follows.ensures signed clock edition old new

pub returns-clause-publications : goal.returns-clause-publications
returns-clause-publications c = λ site history signed edition legal may.
    with_next site history legal (record { signed = signed; event = Publish edition }) may

pub returns-clause-commits : goal.returns-clause-commits
returns-clause-commits c = λ site history signed desk command device legal running there unshut next.
    let can : CanBeWritten site (signing (store_after history) signed) desk command =
    record { running = running; device = device; there = there; is_open = unshut; next = next } in (
      with_next site history legal (record { signed = signed; event = Commit desk command }) can,
      with_next site history legal (record { signed = signed; event = DeskFault desk command }) can,
    )

pub returns-clause-stops : goal.returns-clause-stops
returns-clause-stops c = λ site history signed commands edition legal running desks press.
    with_next site history legal (record { signed = signed; event = Stop commands edition })
    (record { running = running; desks = desks; press = press })
