-- The desks as the program has them and as replies see them, and how their disks go on.
use Rattle.std.specs.Prelude.{◌≡◌, ◌↔◌, ◌≤◌, ℕ, List, [], ◌∷◌, ◌++◌, Option, None, Some, IfSome, map, slice_get, ⊤}
use Rattle.std.specs.Option.{option_map}
use Rattle.host_calls.specs.Rise.{HasRisen}
use Rattle.disk_api.specs.declared.disk.Disk.{Ghosts as DiskGhosts}
use Rattle.authority_book.specs.declared.commands.Command.{Command}
use Rattle.gate_journal.specs.Format.{held_by}
use Rattle.gate_journal.specs.Storing.{stored, entry_bytes}
use Rattle.cmd_codec.specs.Spelling.{spelling}
use Rattle.desk_core.specs.View.{View, journal_limit}
use Rattle.desk_core.specs.Commands.{Records, HasCommands}
use Rattle.krill_top.specs.DeskStates.{DeskStates, DeskState, desk_named}
use Rattle.krill_top.specs.Histories.{and_doubt}

-- The desk of that number is in this state; the command in doubt would be its next one.
pub record IsIn {D : Type 0} (number : ℕ) (desk : View D) (state : DeskState) : Type 0 where
  pub number_is : desk.number ≡ number
  pub commands : HasCommands desk state.commands
  pub doubt : desk.doubt ≡ option_map spelling state.doubt
  pub shut : (desk.shut ≡ None) ↔ (state.doubt ≡ None)
  pub next : IfSome state.doubt (λ command. Records number (map spelling (state.commands ++ command ∷ [])) (state.commands ++ command ∷ []))

-- At that number stand a desk and its state, or neither.
abbrev pub InAt : {D : Type 0} → ℕ → Option (View D) → Option DeskState → Type 0
InAt number None None = ⊤
InAt number None (Some state) = ⊥
InAt number (Some desk) None = ⊥
InAt number (Some desk) (Some state) = IsIn number desk state

-- The desks, by their numbers, are in these states.
abbrev pub AreIn : {D : Type 0} → List (View D) → DeskStates → Type 0
AreIn desks desk_states = (number : ℕ) → InAt number (slice_get desks number)
    (slice_get desk_states number)

-- The desk of the authority of that name.
pub record IsNamed {D : Type 0} (desk_states : DeskStates) (name : List ℕ) (desk : View D)
    : Type 0 where
  pub number : ℕ
  pub state : DeskState
  pub named : desk_named desk_states name ≡ Some number
  pub there : slice_get desk_states number ≡ Some state
  pub stands : IsIn number desk state

-- The bytes of a journal's file with these payloads, after more are stored behind them.
abbrev pub all_stored : List (List ℕ) → List (List ℕ) → List ℕ → List ℕ
all_stored payloads [] bytes = bytes
all_stored payloads (payload ∷ more) bytes =
    all_stored (payloads ++ payload ∷ []) more (stored (held_by payloads) (entry_bytes payload) bytes)

-- A count of faults rose between two moments.
pub record RoseWithin (before after : ℕ) : Type 0 where
  pub from : ℕ
  pub to : ℕ
  pub begins : before ≤ from
  pub risen : HasRisen from to
  pub ends : to ≤ after

-- Its journal has room for its commands, and for the one in doubt.
abbrev pub HasDeskRoom : DeskState → Type 0
HasDeskRoom desk =
    held_by (map spelling (and_doubt desk.commands desk.doubt)) ≤ journal_limit

-- How a desk goes on, from one state to another: accepted commands come behind its own, and on a known
-- disk their records with their bytes. A fault of its disk alone leaves one in doubt, and then no more
-- come. Where its journal had room, it has.
pub record DeskGoesOn {D : Type 0} (disk_of : DiskGhosts D) (old new : D) (was is : DeskState)
    : Type 0 where
  pub accepted : List Command
  pub commands : is.commands ≡ was.commands ++ accepted
  pub bytes : is.doubt ≡ None
      → disk_of.content new ≡ option_map (all_stored (map spelling was.commands) (map spelling accepted)) (disk_of.content old)
  pub stays : ¬ (was.doubt ≡ None) → is ≡ was
  pub cause : was.doubt ≡ None → ¬ (is.doubt ≡ None) → RoseWithin (disk_of.fault_count old) (disk_of.fault_count new)
  pub later : disk_of.fault_count old ≤ disk_of.fault_count new
  pub room : HasDeskRoom was → HasDeskRoom is

-- So of a number's desk, if there is one.
abbrev pub DeskGoesOnAt : {D : Type 0} → DiskGhosts D → Option (View D) → Option (View D)
    → Option DeskState → Option DeskState → Type 0
DeskGoesOnAt disk_of None None None None = ⊤
DeskGoesOnAt disk_of (Some old) (Some new) (Some was)
    (Some is) = DeskGoesOn disk_of old.disk new.disk was is
DeskGoesOnAt disk_of old new was is = ⊥

-- So of each desk.
abbrev pub DesksGoOn : {D : Type 0} → DiskGhosts D → List (View D) → List (View D) → DeskStates
    → DeskStates → Type 0
DesksGoOn disk_of old new before after =
    (number : ℕ) → DeskGoesOnAt disk_of (slice_get old number) (slice_get new number)
    (slice_get before number) (slice_get after number)

-- From the desks in one state, P leads to a state in which the other desks are.
pub record Goes {D : Type 0} (disk_of : DiskGhosts D) (P : DeskStates → DeskStates → Type 0)
    (old new : List (View D)) (before : DeskStates) : Type 0 where
  pub after : DeskStates
  pub step : P before after
  pub stands : AreIn new after
  pub disks : DesksGoOn disk_of old new before after

-- What a call may do to the desks, as replies see them and as their disks go on.
abbrev pub Leads : {D : Type 0} → DiskGhosts D → (DeskStates → DeskStates → Type 0) → List
    (View D) → List (View D) → Type 0
Leads disk_of P old new = (before : DeskStates) → AreIn old before → Goes disk_of P old new before
