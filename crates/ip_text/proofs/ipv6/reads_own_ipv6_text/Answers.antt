use Rattle.ip_text.specs.laws.Ipv6Laws.{own_ipv6_text}
use Rattle.ip_text.proofs.ipv6.reads_own_ipv6_text.Goals as goal

pub returns : goal.returns
returns c = own_ipv6_text
