use Rattle.std.proofs.Common.{◌<◌}
use Rattle.origins.proofs.Begun.{address_begins}
use Rattle.origins.proofs.quick.address_at.Goals as goal

pub returns : goal.returns
returns c =
    let fits : (c.in_ok-first.first < 256) × (c.in_ok-second.second < 256) × (c.in_ok-third.third < 256) × (c.in_ok-fourth.fourth < 256) = (c.in_ok-first.ensures.fits, c.in_ok-second.ensures.fits, c.in_ok-third.ensures.fits, c.in_ok-fourth.ensures.fits) in
    address_begins _ c.in_ok-first.rest.now c.in_ok-second.rest.now c.in_ok-third.rest.now _ c.in_ok-first.first c.in_ok-second.second c.in_ok-third.third c.in_ok-fourth.fourth _
    fits c.in_ok-first.ensures.reads c.in_ok-second.ensures.reads c.in_ok-third.ensures.reads c.in_ok-fourth.ensures.reads c.from_be_bytes.ensures
