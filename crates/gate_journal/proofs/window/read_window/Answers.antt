use Rattle.gate_journal.proofs.Windows.{read_window_is}
use Rattle.gate_journal.proofs.window.read_window.Goals as goal

pub returns-clause-window : goal.returns-clause-window
returns-clause-window g c = read_window_is (g.D.Disk.content c.args.disk.now) c.args.at c.min-size.result c.in_ok-bytes.bytes.items c.in_ok-bytes.ensures.size c.in_ok-bytes.ensures.part
