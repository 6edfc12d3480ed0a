use Rattle.std.proofs.Common.{◌≡◌}
use Rattle.serde_json.specs.View.{members_view}
use Rattle.json_api.specs.inner.Slots.{first_left}
use Rattle.json_api.proofs.values.first_left.Given as goal

abbrev pub invariant-loop-name : goal.invariant-loop-name
invariant-loop-name l = first_left l.left (members_view l.members.entries) ≡ first_left l.left (members_view l.name-iterator)
