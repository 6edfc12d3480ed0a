use Rattle.std.proofs.Common.{◌≡◌, ◌∙◌, ◌++◌, ◌∷◌, [], ap, arith, rules}
use Rattle.json_api.specs.declared.texts.RoaLine.{RoaLine}
use Rattle.session_lines.specs.Texts.{roa_line_of}
use Rattle.session_lines.proofs.Mapping.{mapped_more, mapped_all}
use Rattle.session_lines.proofs.reads.roa_lines.Goals as goal

pub loop-row-preserved : goal.loop-row-preserved
loop-row-preserved c =
    let pushed : c.push.new.self.items ≡ c.loop-row.lines.items ++ c.roa_line.result ∷ [] = search rules in
    mapped_more roa_line_of c.args.rows.now c.loop-row.row-index c.row-item.result c.loop-row.lines.items c.push.new.self.items
    c.loop-row-test.true c.row-item.is c.loop-row.invariant (pushed ∙ ap (λ (l : RoaLine). c.loop-row.lines.items ++ l ∷ []) c.roa_line.ensures)

pub returns : goal.returns
returns c = mapped_all roa_line_of c.args.rows.now c.loop-row.row-index c.loop-row.lines.items (omega (arith, c.loop-row-test.false)) c.loop-row.invariant
