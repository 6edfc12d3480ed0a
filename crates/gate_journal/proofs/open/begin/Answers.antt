use Rattle.std.proofs.Common.{◌∙◌}
use Rattle.gate_journal.proofs.Begun.{new_short, written_new}
use Rattle.gate_journal.proofs.open.begin.Goals as goal

pub returns-clause-short : goal.returns-clause-short
returns-clause-short g c =
    let old = g.D.Disk.content c.args.disk.now in
    let mid = g.D.Disk.content c.write_at.new.self in
    new_short old (g.D.Disk.content c.sync.new.self) (c.sync.ensures.content ∙ written_new old mid c.requires.short c.in_ok-write_at.ensures.written)
