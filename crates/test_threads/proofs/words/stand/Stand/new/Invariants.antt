use Rattle.std.proofs.Common.{[], replicate}
use Rattle.test_threads.proofs.words.stand.Stand.new.Given as goal

-- as many empty entries as the count says
abbrev pub ghosts-new : goal.ghosts-new
ghosts-new a = record { list = replicate a.count [] }
