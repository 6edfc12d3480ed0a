use Rattle.crl_obj.specs.Formats.{signed_crl}
use Rattle.rp_audit.proofs.certificates.crl_in.Goals as goal

pub returns-in-Ok-clause-rises : goal.returns-in-Ok-clause-rises
unfolding signed_crl
returns-in-Ok-clause-rises c = c.in-Ok.ensures.found.good.crl.rising
