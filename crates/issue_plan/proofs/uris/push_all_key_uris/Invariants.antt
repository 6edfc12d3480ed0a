use Rattle.std.proofs.Common.{◌≡◌, ◌++◌, take}
use Rattle.std.specs.List.{flat_map}
use Rattle.entitle.specs.Certified.{settings_of}
use Rattle.issue_plan.specs.Uris.{key_uris}
use Rattle.issue_plan.proofs.uris.push_all_key_uris.Given as goal

abbrev pub invariant-loop-key : goal.invariant-loop-key
invariant-loop-key l =
    l.uris.items ≡ l.fn.uris.items ++ flat_map (key_uris l.site (settings_of l.configs)) (take l.key-index l.keys)
