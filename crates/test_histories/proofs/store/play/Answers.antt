use Rattle.std.proofs.Common.{◌≡◌, [], List, sym, subst, rules}
use Rattle.key_ids.specs.Uris.{Bases}
use Rattle.histories.specs.Legal.{IsLegal}
use Rattle.test_histories.specs.declared.done.Done.{Done}
use Rattle.test_histories.specs.Standing.{IsAt}
use Rattle.test_histories.proofs.store.play.Goals as goal

pub loop-step-init : goal.loop-step-init
loop-step-init g c =
    let store = c.in_ok-store.store in
    let empty : c.new-done.result.items ≡ [] = search rules in (
      subst (λ (done : List Done). IsAt store.desks.items store.press done) (sym empty) c.in_ok-store.ensures.at,
      c.in_ok-store.ensures.site,
    )

pub returns : goal.returns
returns g c =
    let at = c.loop-step.invariant.0 in
    (at.history, subst (λ (site : Bases). IsLegal site at.history) c.loop-step.invariant.1 at.legal, at.told)
