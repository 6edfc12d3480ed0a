use Rattle.std.proofs.Common.{◌≡◌, map, take}
use Rattle.session_lines.specs.Texts.{roa_line_of}
use Rattle.session_lines.proofs.reads.roa_lines.Given as goal

abbrev pub invariant-loop-row : goal.invariant-loop-row
invariant-loop-row l = l.lines.items ≡ map roa_line_of (take l.row-index l.rows)
