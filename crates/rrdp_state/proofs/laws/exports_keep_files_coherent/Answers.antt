use Rattle.rrdp_state.proofs.Besides.{beside_left}
use Rattle.rrdp_state.proofs.Exports.{all_along, all_end, newest_along, newest_end}
use Rattle.rrdp_state.proofs.laws.exports_keep_files_coherent.Goals as goal

pub returns-clause-all : goal.returns-clause-all
returns-clause-all c = λ repository editions beside files calls follow small are coherent. all_along repository editions small beside are files coherent calls

pub returns-clause-all_in_the_end : goal.returns-clause-all_in_the_end
returns-clause-all_in_the_end c = λ repository older edition beside files small are. all_end repository older edition small beside are files

pub returns-clause-newest : goal.returns-clause-newest
returns-clause-newest c = λ repository editions beside files later calls follow small are near shows. newest_along repository editions follow small beside are files later near shows calls

pub returns-clause-newest_in_the_end : goal.returns-clause-newest_in_the_end
returns-clause-newest_in_the_end c = λ repository editions beside files later follow small are near shows. newest_end repository editions follow small beside are files later near shows

pub returns-clause-beside : goal.returns-clause-beside
returns-clause-beside c = λ repository editions all beside files path are is. beside_left repository editions all beside files path is
