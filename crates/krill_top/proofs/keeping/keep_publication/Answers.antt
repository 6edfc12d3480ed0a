use Rattle.std.proofs.Common.{◌≡◌, sym, ◌∙◌, subst}
use Rattle.krill_top.specs.declared.publication.Publication.{Publication}
use Rattle.krill_top.specs.Keeps.{keeps_of_publication_outcome}
use Rattle.krill_top.specs.Publishing.{outcome_of}
use Rattle.krill_top.proofs.KeptValues.{keeps_unexported}
use Rattle.krill_top.proofs.keeping.keep_publication.Goals as goal

pub returns-in-Unexported : goal.returns-in-Unexported
returns-in-Unexported g c =
    subst (λ (p : Publication g.row.D.Denot g.row.O.Denot). c.keep_export.new.self ≡ keeps_of_publication_outcome (outcome_of p) c.args.kept.now) (sym c.in-Unexported.is)
    (c.keep_export.ensures ∙ keeps_unexported c.in-Unexported.fault c.args.kept.now)
