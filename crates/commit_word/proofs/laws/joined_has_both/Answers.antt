use Rattle.std.proofs.Common.{⊎_elim}
use Rattle.commit_word.proofs.Places.{has_joined, joined_left, joined_right, joined_end, length-joined}
use Rattle.commit_word.proofs.laws.joined_has_both.Goals as goal

pub returns-clause-both : goal.returns-clause-both
returns-clause-both c xs ys place entry =
    (has_joined xs ys place entry, λ h. ⊎_elim (joined_left xs ys place entry) (joined_right xs ys place entry) h)

pub returns-clause-count : goal.returns-clause-count
returns-clause-count c = length-joined

pub returns-clause-last : goal.returns-clause-last
returns-clause-last c = joined_end
