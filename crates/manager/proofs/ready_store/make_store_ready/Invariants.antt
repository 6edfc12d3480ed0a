use Rattle.manager.specs.Run.{numbers_of}
use Rattle.manager.proofs.ready_store.make_store_ready.Given as goal

-- the numbers of what stands
abbrev pub ghosts-board_of : goal.ghosts-board_of
ghosts-board_of g a = record { numbers = numbers_of a.press.now.press.at }
