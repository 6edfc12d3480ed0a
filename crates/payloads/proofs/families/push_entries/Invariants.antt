use Rattle.std.proofs.Common.{◌≡◌, ◌++◌, false, take, map}
use Rattle.std.specs.List.{flat_map}
use Rattle.payloads.specs.RoaFormats.{entry_view, entry}
use Rattle.payloads.proofs.families.push_entries.Given as goal

abbrev pub invariant-loop-entry : goal.invariant-loop-entry
invariant-loop-entry l = l.out.items ≡ l.fn.out.items ++ flat_map (entry false).spelling (map entry_view (take l.entry-index l.entries))
