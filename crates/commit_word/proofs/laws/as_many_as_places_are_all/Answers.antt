use Rattle.commit_word.proofs.Places.{rising_covers}
use Rattle.commit_word.proofs.laws.as_many_as_places_are_all.Goals as goal

pub returns : goal.returns
returns c = rising_covers
