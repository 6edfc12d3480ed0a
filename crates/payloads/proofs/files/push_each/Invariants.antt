use Rattle.std.proofs.Common.{◌≡◌, ◌++◌, take, map}
use Rattle.std.specs.List.{flat_map}
use Rattle.payloads.specs.ManifestFormats.{file_view, file_name, file}
use Rattle.payloads.proofs.files.push_each.Given as goal

abbrev pub invariant-loop-item : goal.invariant-loop-item
invariant-loop-item l = l.out.items ≡ l.fn.out.items ++ flat_map (file file_name).spelling (map file_view (take l.item-index l.items))
