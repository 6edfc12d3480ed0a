-- The answers that a script plays.
use Rattle.std.specs.Prelude.{ℕ, min, max, drop, List, [], ◌∷◌, Result, Ok, Err}
use Rattle.host_calls.specs.declared.CallFault.{CallFault}
use Rattle.host_calls.specs.declared.script.Play.{Play}
use Rattle.host_calls.specs.declared.script.Play.TheVariants.{Whole, Short, Fault}
use Rattle.host_calls.specs.declared.script.Script.{Script}

-- how the next calls are to go
abbrev pub plays_left : Script → List Play
plays_left script = drop script.at script.plays.items

abbrev pub first_play : List Play → Play
first_play [] = Whole
first_play (play ∷ plays) = play

abbrev pub behind : List Play → List Play
behind [] = []
behind (play ∷ plays) = plays

-- how many bytes of so many a call moves, or why it fails
abbrev pub moved_by : Play → ℕ → Result ℕ CallFault
moved_by Whole len = Ok len
moved_by (Short most) len = Ok (min len (max most 1))
moved_by (Fault fault) len = Err fault

abbrev pub played : List Play → ℕ → Result ℕ CallFault
played plays len = moved_by (first_play plays) len
