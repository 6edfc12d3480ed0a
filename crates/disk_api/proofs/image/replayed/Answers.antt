use Rattle.std.proofs.Common.{◌∙◌, ap, List, sym, subst, arith}
use Rattle.disk_api.specs.Steps.{FitsAt, after_step}
use Rattle.disk_api.proofs.Replay.{fits_there, content_after-there}
use Rattle.disk_api.proofs.image.replayed.Goals as goal

pub redo-requires : goal.redo-requires
redo-requires c =
    subst (λ (l : List _). FitsAt l c.step-item.result) (sym c.loop-step.invariant)
    (fits_there c.args.first.now c.args.steps.now c.loop-step.step-index c.step-item.result c.step-item.is (omega arith) c.requires)

pub loop-step-preserved : goal.loop-step-preserved
loop-step-preserved c =
    c.in_ok-redo.ensures
    ∙ ap (λ (l : List _). after_step l c.step-item.result) c.loop-step.invariant
    ∙ sym (content_after-there c.args.first.now c.args.steps.now c.loop-step.step-index c.step-item.result c.step-item.is (omega arith))
