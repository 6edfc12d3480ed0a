use Rattle.ip_text.specs.laws.Ipv6Laws.{one_ipv6}
use Rattle.ip_text.proofs.ipv6.reads_ipv6_once.Goals as goal

pub returns : goal.returns
returns c = one_ipv6
