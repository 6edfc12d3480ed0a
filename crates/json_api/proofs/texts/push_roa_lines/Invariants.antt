use Rattle.std.proofs.Common.{◌≡◌, ◌++◌, take, map}
use Rattle.json_api.specs.Texts.{commas, roa_line}
use Rattle.json_api.proofs.Commas.{between}
use Rattle.json_api.proofs.texts.push_roa_lines.Given as goal

abbrev pub invariant-loop-line : goal.invariant-loop-line
invariant-loop-line l = (l.out.items ≡ l.initial.out.items ++ commas (map roa_line (take l.line-index l.lines))) × (l.between ≡ between (take l.line-index l.lines))
