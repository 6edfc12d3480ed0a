use Rattle.serde_json.specs.View.{view}
use Rattle.json_api.proofs.Told.{AreFirst}
use Rattle.json_api.proofs.values.slots_of.Given as goal

abbrev pub invariant-loop-field : goal.invariant-loop-field
invariant-loop-field l = AreFirst (view l.line) l.slots l.field-index
