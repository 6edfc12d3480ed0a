use Rattle.std.proofs.Common.{◌≡◌, ◌++◌, take, map}
use Rattle.json_api.specs.inner.Members.{member_line}
use Rattle.json_api.specs.Texts.{commas}
use Rattle.json_api.proofs.Commas.{between}
use Rattle.json_api.proofs.history.push_each.Given as goal

abbrev pub invariant-loop-member : goal.invariant-loop-member
invariant-loop-member l = (l.out.items ≡ l.initial.out.items ++ commas (map member_line (take l.member-index l.members))) × (l.between ≡ between (take l.member-index l.members))
