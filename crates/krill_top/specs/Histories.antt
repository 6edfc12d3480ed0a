-- A run as a part of a history: what it did goes on behind whichever legal history may have left what it
-- found.
use Rattle.std.specs.Prelude.{◌≡◌, ◌≢◌, ℕ, ◌≤◌, List, [], ◌∷◌, ◌++◌, Option, None, Some, map, slice_get}
use Rattle.disk_api.specs.declared.disk.Disk.{Ghosts as DiskGhosts}
use Rattle.authority_book.specs.declared.commands.Command.{Command}
use Rattle.signer_api.specs.State.{Signed}
use Rattle.signer_ring.specs.Calls.{Call}
use Rattle.signer_ring.specs.Calls.Call.{Makes, Signs, Once}
use Rattle.press_core.specs.JournalRecords.{press_limit}
use Rattle.histories.specs.Devices.{Signature}
use Rattle.histories.specs.Events.{History}
use Rattle.key_ids.specs.Uris.{Bases}
use Rattle.editions.specs.Edition.{Edition}
use Rattle.histories.specs.Legal.{IsLegal, press_bytes_for}
use Rattle.histories.specs.Found.{AreFoundAfter}
use Rattle.histories.specs.Work.{Work}
use Rattle.krill_top.specs.DeskStates.{DeskStates, DeskState}
use Rattle.krill_top.specs.InstanceState.{InstanceState, lists_of}

-- What a run did: what it found, what stands in the end, and what is in doubt.
abbrev pub work_of : InstanceState → InstanceState → Work
work_of begun ended = record {
  found = record { commands = lists_of begun.desk_states; editions = begun.editions };
  left = record { commands = lists_of ended.desk_states; editions = ended.editions };
  doubts = map (λ desk. desk.doubt) ended.desk_states;
  doubt = ended.in_doubt;
}

-- The signatures that signers made by these calls.
abbrev pub signature_of : Signed → Signature
signature_of one = record { key = one.key; digest = one.digest; bytes = one.signature }

abbrev pub signatures : List Call → List Signature
signatures [] = []
signatures (Makes signer key ∷ calls) = signatures calls
signatures (Signs signer one ∷ calls) = signature_of one ∷ signatures calls
signatures (Once signer one ∷ calls) = signature_of one ∷ signatures calls

-- A reopening behind this history may find what the run found.
pub record MayFind (history : History) (begun : InstanceState) : Type 0 where
  pub legal : IsLegal begun.site history
  pub found : AreFoundAfter history (lists_of begun.desk_states) begun.editions

abbrev pub and_doubt : {X : Type 0} → List X → Option X → List X
and_doubt list None = list
and_doubt list (Some x) = list ++ x ∷ []

-- The command in doubt at the desk of that number.
abbrev pub doubt_of : Option DeskState → Option Command
doubt_of None = None
doubt_of (Some desk) = desk.doubt

abbrev pub desk_doubt : DeskStates → ℕ → Option Command
desk_doubt desk_states number = doubt_of (slice_get desk_states number)

-- The press's journal has room for these editions.
abbrev pub HasRoomFor : Bases → List Edition → Type 0
HasRoomFor site editions = editions ≢ [] → press_bytes_for site editions ≤ press_limit

-- Where the press's disk doesn't tell on return what it holds, and its records aren't known: its journal
-- has room for the editions, and for the one in doubt.
abbrev pub HasPressRoom : {D : Type 0} → DiskGhosts D → D → InstanceState → Type 0
HasPressRoom disk_of press ended = disk_of.content press ≡ None → ended.records ≡ None
    → HasRoomFor ended.site (and_doubt ended.editions ended.in_doubt)
