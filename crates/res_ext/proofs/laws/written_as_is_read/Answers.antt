use Rattle.res_ext.specs.laws.WrittenLaws.{written-as, inherited-as}
use Rattle.res_ext.proofs.laws.written_as_is_read.Goals as goal

pub returns-clause-listed : goal.returns-clause-listed
returns-clause-listed c = written-as

pub returns-clause-inherited : goal.returns-clause-inherited
returns-clause-inherited c = inherited-as
