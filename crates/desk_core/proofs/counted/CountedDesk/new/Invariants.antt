use Rattle.desk_core.proofs.counted.CountedDesk.new.Given as goal

-- the records that were found
abbrev pub ghosts-word_of : goal.ghosts-word_of
ghosts-word_of g a = record { list = a.desk.now.records }
