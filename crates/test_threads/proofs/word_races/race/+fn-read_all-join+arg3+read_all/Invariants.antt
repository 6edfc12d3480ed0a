use Rattle.std.proofs.Common.{◌+◌, ◌-◌, ◌*◌}
use Rattle.test_threads.proofs.word_races.race.+fn-read_all-join+arg3+read_all.Given as goal

abbrev pub decreases-join+arg3 : goal.decreases-join+arg3
decreases-join+arg3 g l = 2 * (l.readers - 1) + 1

abbrev pub decreases-read_all : goal.decreases-read_all
decreases-read_all g l = 2 * l.readers
