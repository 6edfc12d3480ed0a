use Rattle.std.proofs.Common.{◌∙◌, ap, [], ◌∷◌, ◌++◌, List, ℕ, refl}
use Rattle.krill_top.specs.Publishing.{outcome_of}
use Rattle.krill_top.specs.Replies.{publish_text}
use Rattle.krill_top.specs.inner.Handlers.{timed}
use Rattle.krill_top.proofs.Answering.{publish_told}
use Rattle.krill_top.proofs.handler.Handler.answer_publish.Goals as goal

pub returns-clause-ok : goal.returns-clause-ok
returns-clause-ok g c =
    let text = publish_text (outcome_of c.publish-publication.result) in (
      text,
      c.append_publication.ensures ∙ ap (λ (l : List ℕ). l ++ text ++ 10 ∷ []) c.in_ok-reserve.ensures.items,
      publish_told g.D.Disk g.O.Outlet c.now-now.result (outcome_of c.publish-publication.result) text c.has_changed-changed.result (timed g.C.Clock c.args.self.now)
          (record { instance = c.publish-publication.new.self; clock = g.C.Clock.readings c.now-now.new.self; kept = c.keep_publication.new.kept }) c.now-now.ensures
          c.keep_publication.ensures refl c.has_changed-changed.ensures c.publish-publication.ensures,
    )
