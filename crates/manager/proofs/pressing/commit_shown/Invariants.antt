use Rattle.manager.specs.Run.{numbers_of}
use Rattle.manager.proofs.pressing.commit_shown.Given as goal

-- the numbers of what stands
abbrev pub ghosts-show_last : goal.ghosts-show_last
ghosts-show_last g a = record { numbers = numbers_of a._press.now.press.at }
