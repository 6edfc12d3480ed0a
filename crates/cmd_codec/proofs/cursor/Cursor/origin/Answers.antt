use Rattle.std.proofs.Common.{◌∙◌, sym, ap}
use Rattle.cmd_codec.specs.Spelling.{origin_spelling}
use Rattle.cmd_codec.specs.Fault.{is_origin}
use Rattle.cmd_codec.proofs.Ways.{field_short, field_broken, passes_field}
use Rattle.cmd_codec.proofs.cursor.Cursor.origin.Goals as goal

pub returns-in_default : goal.returns-in_default
returns-in_default c = field_short 23 is_origin c.args.self.now c.fault-fault.result c.fault-fault.ensures c.in_default.ensures.0

pub returns-in-None : goal.returns-in-None
returns-in-None c =
    let (long, taken, moved) = c.in-Some.ensures in
    field_broken 23 is_origin c.args.self.now c.fault-fault.result c.fault-fault.ensures long (ap is_origin (sym taken) ∙ c.in-None.ensures)

pub returns-in-Some-origin_of : goal.returns-in-Some-origin_of
returns-in-Some-origin_of c =
    let (long, taken, moved) = c.in-Some.ensures in
    let (good, spelled) = c.in-Some-origin_of.ensures in
    passes_field 23 is_origin c.args.self.now c.take.new.self (origin_spelling c.in-Some-origin_of.origin) long (ap is_origin (sym taken) ∙ good) moved (sym spelled ∙ taken)
