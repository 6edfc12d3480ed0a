use Rattle.std.proofs.Common.{[], ◌∷◌}
use Rattle.test_threads.proofs.words.stand.Stand.commit.Given as goal

-- the empty entry
abbrev pub ghosts-commit : goal.ghosts-commit
ghosts-commit g a = record { list = [] ∷ [] }
