use Rattle.std.proofs.Common.{[], ◌∷◌}
use Rattle.cmd_codec.specs.Spelling.{spelling}
use Rattle.desk_core.proofs.counting.count_record.Given as goal

-- the command's record
abbrev pub ghosts-set_aside : goal.ghosts-set_aside
ghosts-set_aside a = record { list = spelling a._accepted.now.value ∷ [] }
