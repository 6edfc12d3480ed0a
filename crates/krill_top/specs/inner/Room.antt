-- That the journals have room for what they hold and for what is in doubt.
use Rattle.std.specs.Prelude.{◌≡◌, ◌<◌, ◌≤◌, ℕ, List, [], ◌∷◌, ◌++◌, None, IfSome, All}
use Rattle.authority_book.specs.declared.commands.Command.{Command}
use Rattle.editions.specs.Edition.{Edition}
use Rattle.histories.specs.Legal.{IsOfBytes, bytes_for, most_bytes, press_bytes_for}
use Rattle.press_core.specs.Follows.{edition_of}
use Rattle.press_core.specs.JournalRecords.{press_limit}
use Rattle.press_core.specs.Next.{NextValue}
use Rattle.press_core.specs.Stands.{IsLeftBy}
use Rattle.press_core.specs.Stored.{StoredValue, HasRecordsOf}
use Rattle.krill_top.specs.DeskStates.{most_desks, commands_at}
use Rattle.krill_top.specs.Histories.{HasRoomFor, and_doubt, desk_doubt}
use Rattle.krill_top.specs.InstanceState.{InstanceState}

-- What the edition puts is bytes.
abbrev pub IsEditionOfBytes : Edition → Type 0
IsEditionOfBytes edition = All IsOfBytes edition.changes

-- All journals have room, and what editions put is bytes.
pub record HasRoom (ended : InstanceState) : Type 0 where
  pub desks : (desk : ℕ) → desk < most_desks
      → bytes_for (and_doubt (commands_at ended.desk_states desk) (desk_doubt ended.desk_states desk))
      ≤ most_bytes
  pub press : HasRoomFor ended.site (and_doubt ended.editions ended.in_doubt)
  pub bytes : All IsEditionOfBytes (and_doubt ended.editions ended.in_doubt)

-- Where the press's records aren't known, its journal has room for the editions, and for the one in doubt.
abbrev pub HasRoomUnknown : InstanceState → Type 0
HasRoomUnknown ended =
    ended.records ≡ None → HasRoomFor ended.site (and_doubt ended.editions ended.in_doubt)

-- Where the press's journal had room for the editions that were found, it has room for those that stand
-- and for the one in doubt, if its disk tells.
abbrev pub KeepsRoom : InstanceState → Type 0
KeepsRoom state = HasRoomFor state.site state.found.editions → IfSome state.records
    (λ _. HasRoomFor state.site (and_doubt state.editions state.in_doubt))

-- Where what the editions put that were found is bytes, so is what all others put.
abbrev pub KeepsBytes : InstanceState → Type 0
KeepsBytes state = All IsEditionOfBytes state.found.editions
    → All IsEditionOfBytes (and_doubt state.editions state.in_doubt)

-- Behind the editions whose records a press's journal has, there is room for this one, if its disk tells.
abbrev pub FitsBehind : {D : Type 0} → StoredValue D → NextValue → Type 0
FitsBehind stored prepared = stored.journal.limit ≡ press_limit
    → (lists : List (List Command)) (editions : List Edition)
    → IsLeftBy lists editions stored.press.at → HasRecordsOf editions stored
    → IfSome stored.journal.records
    (λ _. press_bytes_for stored.press.site (editions ++ edition_of prepared ∷ []) ≤ press_limit)
