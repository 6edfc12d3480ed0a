use Rattle.rp_audit.proofs.Vouched.{vouched_true, vouched_from}
use Rattle.rp_audit.proofs.laws.rings_vouch_by_their_signers.Goals as goal

pub returns-clause-some : goal.returns-clause-some
returns-clause-some c = vouched_true

pub returns-clause-all : goal.returns-clause-all
returns-clause-all c = vouched_from
