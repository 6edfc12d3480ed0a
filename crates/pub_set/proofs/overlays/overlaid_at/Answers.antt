use Rattle.std.proofs.Common.{refl}
use Rattle.pub_set.specs.Objects.{content_at}
use Rattle.pub_set.proofs.Drafting.{overlaid-get}
use Rattle.pub_set.proofs.overlays.overlaid_at.Goals as goal

pub returns-in-Some-Some : goal.returns-in-Some-Some
returns-in-Some-Some c =
    rw (overlaid-get (content_at c.args.objects.now) c.args.overlay.now c.args.uri.now, ← c.in-Some-Some.ensures.value, c.in-Some-Some.field-0-is, c.as_slice.ensures) refl

pub returns-in-Some-None : goal.returns-in-Some-None
returns-in-Some-None c =
    rw (overlaid-get (content_at c.args.objects.now) c.args.overlay.now c.args.uri.now, ← c.in-Some-None.ensures.value, c.in-Some-None.field-0-is) refl

pub returns-in-None : goal.returns-in-None
returns-in-None c =
    rw (overlaid-get (content_at c.args.objects.now) c.args.overlay.now c.args.uri.now, ← c.in-None.ensures.value) c.content_of.ensures
