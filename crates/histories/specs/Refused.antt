-- Which events are reopenings.
use Rattle.std.specs.Prelude.{⊤, [], ◌∷◌}
use Rattle.histories.specs.Events.{Event, History}
use Rattle.histories.specs.Events.Event.{Commit, Publish, DeskFault, PressFault, Stop, Reopen}

abbrev pub IsReopening : Event → Type 0
IsReopening (Commit desk command) = ⊥
IsReopening (Publish edition) = ⊥
IsReopening (DeskFault desk command) = ⊥
IsReopening (PressFault edition) = ⊥
IsReopening (Stop commands edition) = ⊥
IsReopening (Reopen lists editions) = ⊤

-- None of them is one.
abbrev pub AreNoReopenings : History → Type 0
AreNoReopenings [] = ⊤
AreNoReopenings (happening ∷ rest) = (IsReopening happening.event → ⊥) × AreNoReopenings rest
