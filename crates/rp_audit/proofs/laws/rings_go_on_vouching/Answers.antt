use Rattle.rp_audit.proofs.Vouched.{vouched_more}
use Rattle.rp_audit.proofs.laws.rings_go_on_vouching.Goals as goal

pub returns : goal.returns
returns c = vouched_more
