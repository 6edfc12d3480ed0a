use Rattle.std.proofs.Common.{[], replicate}
use Rattle.test_threads.proofs.word_races.race.race.Given as goal

-- as many empty entries as the count says
abbrev pub ghosts-new : goal.ghosts-new
ghosts-new g a = record { list = replicate a.count [] }
