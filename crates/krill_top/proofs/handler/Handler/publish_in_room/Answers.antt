use Rattle.std.proofs.Common.{ℕ, List, subst}
use Rattle.krill_top.specs.Publishing.{outcome_of}
use Rattle.krill_top.specs.Working.{IsPublishedOrTold}
use Rattle.krill_top.specs.inner.Handlers.{timed}
use Rattle.krill_top.proofs.Workloads.{published_so}
use Rattle.krill_top.proofs.handler.Handler.publish_in_room.Goals as goal

pub returns : goal.returns
returns g c =
    published_so g.D.Disk g.O.Outlet c.published_or_told-published.new.out.items c.now-now.result (outcome_of c.publish-outcome.result) c.published_or_told-published.result (timed g.C.Clock c.args.self.now)
    (record { instance = c.publish-outcome.new.self; clock = g.C.Clock.readings c.now-now.new.self; kept = c.keep_publication.new.kept }) c.now-now.ensures c.keep_publication.ensures
    (subst (λ (l : List ℕ). IsPublishedOrTold (outcome_of c.publish-outcome.result) c.published_or_told-published.result l c.published_or_told-published.new.out.items) c.requires.empty c.published_or_told-published.ensures) c.publish-outcome.ensures
