use Rattle.moments.specs.laws.DigitLaws.{length-civil_text}
use Rattle.moments.specs.Text.{time_text}
use Rattle.moments.specs.Days.{civil_of}
use Rattle.moments.proofs.laws.text_length.Goals as goal

pub returns : goal.returns
unfolding time_text
returns c general seconds = length-civil_text general (civil_of seconds)
