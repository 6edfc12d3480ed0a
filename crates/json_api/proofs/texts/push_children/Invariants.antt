use Rattle.std.proofs.Common.{◌≡◌, ◌++◌, take, map}
use Rattle.json_api.specs.Texts.{commas, child_line}
use Rattle.json_api.proofs.Commas.{between}
use Rattle.json_api.proofs.texts.push_children.Given as goal

abbrev pub invariant-loop-child : goal.invariant-loop-child
invariant-loop-child l = (l.out.items ≡ l.initial.out.items ++ commas (map child_line (take l.child-index l.children))) × (l.between ≡ between (take l.child-index l.children))
