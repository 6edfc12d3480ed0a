use Rattle.std.proofs.Common.{◌≡◌, take}
use Rattle.std.specs.List.{filter_map}
use Rattle.entitle.specs.Certified.{settings_of}
use Rattle.issue_plan.specs.Wanted.{certificate_of}
use Rattle.issue_plan.proofs.wanted.certificates.Given as goal

abbrev pub invariant-loop-key : goal.invariant-loop-key
invariant-loop-key l =
    l.certificates.items ≡ filter_map (certificate_of (settings_of l.configs) l.tree.sets.items l.keys) (take l.key-index l.keys)
