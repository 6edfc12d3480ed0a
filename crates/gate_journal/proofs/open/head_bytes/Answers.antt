use Rattle.std.proofs.Common.{rules}
use Rattle.gate_journal.proofs.Windows.{head_filled}
use Rattle.gate_journal.proofs.open.head_bytes.Goals as goal

pub returns-clause-head : goal.returns-clause-head
returns-clause-head g c = head_filled (g.D.Disk.content c.args.disk.now) c.args.at c.args.left c.min-want.result c.reach.new.window.start c.head.result c.reach.new.window.bytes.items (search rules) (search rules) c.in_ok-reach.ensures.window c.requires.known c.head.ensures.known
