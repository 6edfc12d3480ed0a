use Rattle.std.proofs.Common.{◌≡◌, ◌++◌, take, map}
use Rattle.json_api.specs.Texts.{origin_member}
use Rattle.json_api.specs.Texts.{commas}
use Rattle.json_api.proofs.Commas.{between}
use Rattle.json_api.proofs.history.push_origin_texts.Given as goal

abbrev pub invariant-loop-origin : goal.invariant-loop-origin
invariant-loop-origin l = (l.out.items ≡ l.initial.out.items ++ commas (map origin_member (take l.origin-index l.origins))) × (l.between ≡ between (take l.origin-index l.origins))
