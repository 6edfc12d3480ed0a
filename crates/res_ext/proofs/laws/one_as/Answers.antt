use Rattle.res_ext.specs.Formats.{as_content}
use Rattle.res_ext.specs.laws.FormatLaws.{as_content-law}
use Rattle.res_ext.specs.laws.AnswerLaws.{one-value}
use Rattle.res_ext.proofs.laws.one_as.Goals as goal

pub returns : goal.returns
returns c a b bytes fits = one-value as_content as_content-law a b bytes fits
