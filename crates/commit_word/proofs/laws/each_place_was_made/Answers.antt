use Rattle.commit_word.proofs.SetAside.{each}
use Rattle.commit_word.proofs.laws.each_place_was_made.Goals as goal

pub returns : goal.returns
returns c = each
