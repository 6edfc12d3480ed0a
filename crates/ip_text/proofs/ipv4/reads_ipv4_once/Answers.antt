use Rattle.ip_text.specs.laws.Ipv4Laws.{one_ipv4}
use Rattle.ip_text.proofs.ipv4.reads_ipv4_once.Goals as goal

pub returns : goal.returns
returns c = one_ipv4
