use Rattle.std.proofs.Common.{arith, refl}
use Rattle.serde_json.specs.View.{view}
use Rattle.json_api.specs.Names.{place_of}
use Rattle.json_api.proofs.Named.{place_within}
use Rattle.json_api.proofs.Told.{AreFirst-set}
use Rattle.json_api.proofs.values.slots_of.Goals as goal

pub loop-field-init : goal.loop-field-init
loop-field-init c f none = absurd (omega (arith, none))

pub loop-field-preserved : goal.loop-field-preserved
loop-field-preserved c =
    AreFirst-set (view c.args.line.now) c.loop-field.slots c.set.new.self _ c.in_ok-slot_of.field-0 c.set.ensures.new c.set.ensures.here c.in_ok-slot_of.ensures
    c.loop-field.field-index _ refl c.loop-field.invariant

pub returns : goal.returns
returns c f =
    let within = place_within f in
    c.loop-field.invariant f (omega (arith, within, c.loop-field-test.false))
