use Rattle.std.proofs.Common.{take}
use Rattle.serde_json.specs.View.{items_view}
use Rattle.json_api.specs.Line.{AreOriginTexts}
use Rattle.json_api.proofs.values.read_items.Given as goal

abbrev pub invariant-loop-item : goal.invariant-loop-item
invariant-loop-item l = AreOriginTexts (items_view (take l.item-index l.items)) l.origins.items
