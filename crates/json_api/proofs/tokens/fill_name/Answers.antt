use Rattle.json_api.specs.declared.fields.Kind.TheVariants as kind
use Rattle.json_api.specs.declared.slots.Slot.TheVariants as slot
use Rattle.json_api.proofs.Members.{filled}
use Rattle.json_api.proofs.tokens.fill_name.Goals as goal

pub returns-clause-good : goal.returns-clause-good
returns-clause-good c _ =
    filled c.args.field kind.Name (slot.Name c.in-Some.name) c.args.reader.now c.take_name.new.reader c.args.slots.now c.set.new.self
    c.requires.kind c.in-Some.ensures.good c.set.ensures.new c.set.ensures.here
