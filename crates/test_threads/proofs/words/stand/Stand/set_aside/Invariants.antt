use Rattle.std.proofs.Common.{[], ◌∷◌}
use Rattle.test_threads.proofs.words.stand.Stand.set_aside.Given as goal

-- the empty entry
abbrev pub ghosts-split_for : goal.ghosts-split_for
ghosts-split_for a = record { list = [] ∷ [] }
