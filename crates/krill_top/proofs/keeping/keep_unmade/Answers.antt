use Rattle.std.proofs.Common.{◌≡◌, sym, ◌∙◌, subst}
use Rattle.krill_top.specs.declared.publish_fault.PublishFault.{PublishFault}
use Rattle.krill_top.specs.Keeps.{keeps_of_no_edition}
use Rattle.krill_top.specs.Publishing.{unmade_of}
use Rattle.krill_top.proofs.KeptValues.{keeps_unprepared}
use Rattle.krill_top.proofs.keeping.keep_unmade.Goals as goal

pub returns-in-Unprepared : goal.returns-in-Unprepared
returns-in-Unprepared g c =
    subst (λ (f : PublishFault g.row.D.Denot). c.keep_unmade.new.self ≡ keeps_of_no_edition (unmade_of f) c.args.kept.now) (sym c.in-Unprepared.is)
    (c.keep_unmade.ensures ∙ keeps_unprepared c.in-Unprepared.fault c.args.kept.now)
