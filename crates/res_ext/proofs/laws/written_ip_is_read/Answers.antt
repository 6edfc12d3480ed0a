use Rattle.res_ext.specs.laws.WrittenLaws.{written-ip, inherited-ip}
use Rattle.res_ext.proofs.laws.written_ip_is_read.Goals as goal

pub returns-clause-listed : goal.returns-clause-listed
returns-clause-listed c = written-ip

pub returns-clause-inherited : goal.returns-clause-inherited
returns-clause-inherited c = inherited-ip
