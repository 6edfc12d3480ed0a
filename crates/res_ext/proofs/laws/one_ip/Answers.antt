use Rattle.res_ext.specs.Formats.{ip_content}
use Rattle.res_ext.specs.laws.FormatLaws.{ip_content-law}
use Rattle.res_ext.specs.laws.AnswerLaws.{one-value}
use Rattle.res_ext.specs.laws.FamilyLaws.{no-fault}
use Rattle.res_ext.proofs.laws.one_ip.Goals as goal

pub returns-clause-value : goal.returns-clause-value
returns-clause-value c a b bytes fits = one-value ip_content ip_content-law a b bytes fits

pub returns-clause-no_fault : goal.returns-clause-no_fault
returns-clause-no_fault c value bytes fits = no-fault value bytes fits
