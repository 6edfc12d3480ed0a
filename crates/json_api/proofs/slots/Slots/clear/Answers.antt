use Rattle.std.proofs.Common.{arith}
use Rattle.json_api.specs.Names.{place_of}
use Rattle.json_api.proofs.Named.{place_within}
use Rattle.json_api.proofs.Members.{vacated}
use Rattle.json_api.proofs.slots.Slots.clear.Goals as goal

pub loop-place-init : goal.loop-place-init
loop-place-init c p none = absurd (omega (arith, none))

pub loop-place-preserved : goal.loop-place-preserved
loop-place-preserved c = vacated c.loop-place.self c.vacate.new.self c.loop-place.place c.loop-place.invariant c.vacate.ensures.here c.vacate.ensures.others

pub returns : goal.returns
returns c f =
    let within = place_within f in
    c.loop-place.invariant (place_of f) (omega (arith, within, c.loop-place-test.false))
