use Rattle.std.proofs.Common.{◌≡◌}
use Rattle.entitle.specs.Certified.{settings_of}
use Rattle.issue_plan.specs.Keys.{keys_of_first}
use Rattle.issue_plan.proofs.keys.next_keys.Given as goal

abbrev pub invariant-loop-desk : goal.invariant-loop-desk
invariant-loop-desk l =
    l.keys.items ≡ keys_of_first (record { rows = l.rows; configs = settings_of l.configs; sets = l.tree.sets.items; moment = l.moment }) l.desk
