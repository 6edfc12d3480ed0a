use Rattle.std.proofs.Common.{◌≡◌, ◌+◌, [], ◌∷◌, None, length}
use Rattle.test_threads.proofs.word_races.race.write_all.Given as goal

-- the empty entry
abbrev pub ghosts-split_for : goal.ghosts-split_for
ghosts-split_for a = record { list = [] ∷ [] }

abbrev pub invariant-loop-i : goal.invariant-loop-i
invariant-loop-i l = (l.owner.word ≡ l.word) × (l.mine.word ≡ l.word) × (l.owner.coming ≡ None) × (length l.owner.seen ≡ 3 + l.i)
