use Rattle.std.proofs.Common.{◌≡◌, ◌++◌, ◌∷◌, [], arith, rules}
use Rattle.session_lines.specs.Texts.{list_line_of}
use Rattle.session_lines.proofs.Mapping.{mapped_more, mapped_all}
use Rattle.session_lines.proofs.reads.list_lines.Goals as goal

pub loop-row-preserved : goal.loop-row-preserved
loop-row-preserved c =
    let pushed : c.push.new.self.items ≡ c.loop-row.lines.items ++ list_line_of c.row-item.result ∷ [] = search rules in
    mapped_more list_line_of c.args.rows.now c.loop-row.row-index c.row-item.result c.loop-row.lines.items c.push.new.self.items
    c.loop-row-test.true c.row-item.is c.loop-row.invariant pushed

pub returns : goal.returns
returns c = mapped_all list_line_of c.args.rows.now c.loop-row.row-index c.loop-row.lines.items (omega (arith, c.loop-row-test.false)) c.loop-row.invariant
