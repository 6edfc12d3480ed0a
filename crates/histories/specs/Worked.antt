-- Histories that are worked out: names at three desks, a write that fails, a stop within another, and
-- a reopening; and so with an edition.
use Rattle.std.specs.Prelude.{List, [], ◌∷◌, None, Some, replicate, codes}
use Rattle.authority_book.specs.declared.commands.Command.{Command}
use Rattle.authority_book.specs.declared.commands.Command.TheVariants.{Add, Delete, AddParent}
use Rattle.editions.specs.Edition.{Edition}
use Rattle.histories.specs.Devices.{Signature}
use Rattle.histories.specs.Events.{Event, Happening, History}
use Rattle.histories.specs.Events.Event.{Commit, Publish, DeskFault, PressFault, Stop, Reopen}

abbrev pub happens : Event → Happening
happens event = record { signed = []; event = event }

-- What the reopening finds: the command in doubt at desk 0, but not the one at desk 1.
abbrev pub found_lists : List (List Command)
found_lists =
    (Add (codes "A") 0 ∷ Add (codes "B") 0 ∷ Add (codes "C") 0 ∷ [])
    ∷ (AddParent (codes "ta") ∷ []) ∷ (AddParent (codes "A") ∷ []) ∷ replicate 61 []

abbrev pub worked : History
worked =
    happens (Commit 0 (Add (codes "A") 0))
    ∷ happens (Commit 0 (Add (codes "B") 0))
    ∷ happens (Commit 1 (AddParent (codes "ta")))
    ∷ happens (DeskFault 0 (Add (codes "C") 0))
    ∷ happens (Commit 2 (AddParent (codes "A")))
    ∷ happens (Stop (None ∷ Some Delete ∷ []) None)
    ∷ happens (Reopen found_lists [])
    ∷ happens (Commit 0 (Add (codes "D") 0)) ∷ []

-- ---- with an edition

-- An edition is published, a command accepted, and the write of another fails. Everything stops, within
-- a third command at desk 1. The reopening finds the edition and the command in doubt at desk 0.
abbrev pub with_edition : List Signature → Edition → History
with_edition signed edition =
    record { signed = signed; event = Publish edition }
    ∷ happens (Commit 0 (Add (codes "A") 0))
    ∷ happens (DeskFault 0 (Add (codes "B") 0))
    ∷ happens (Stop (None ∷ Some (AddParent (codes "ta")) ∷ []) None)
    ∷ happens (Reopen ((Add (codes "A") 0 ∷ Add (codes "B") 0 ∷ []) ∷ replicate 63 []) (edition ∷ []))
    ∷ happens (Commit 0 (Add (codes "C") 0)) ∷ []

-- The write of an edition fails, and a command is accepted. Everything stops, and the reopening finds
-- the edition.
abbrev pub with_doubted_edition : List Signature → Edition → History
with_doubted_edition signed edition =
    record { signed = signed; event = PressFault edition }
    ∷ happens (Commit 0 (Add (codes "A") 0))
    ∷ happens (Stop [] None)
    ∷ happens (Reopen ((Add (codes "A") 0 ∷ []) ∷ replicate 63 []) (edition ∷ [])) ∷ []
