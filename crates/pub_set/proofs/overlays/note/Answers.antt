use Rattle.pub_set.proofs.Drafting.{overlaid-insert}
use Rattle.pub_set.proofs.overlays.note.Goals as goal

pub returns-in-Ok : goal.returns-in-Ok
returns-in-Ok c =
    rw (← c.into_string.ensures) (λ held at. overlaid-insert held c.args.overlay.now c.insert.new.self c.into_string.result c.args.left c.in-Ok.ensures.updates at)
