-- The instance as the program has it and as replies see it.
use Rattle.std.specs.Prelude.{◌≡◌, ◌≢◌, ◌↔◌, ◌<◌, ◌≤◌, ⊤, ◌∷◌, ◌++◌, ℕ, Bool, List, [], Option, None, Some, IfSome, All, length}
use Rattle.disk_api.specs.declared.disk.Disk.{Ghosts as DiskGhosts}
use Rattle.outlet_api.specs.declared.outlet.Outlet.{Ghosts as OutletGhosts}
use Rattle.authority_book.specs.declared.rows.NameRow.{NameRow}
use Rattle.desk_core.specs.View.{View}
use Rattle.signer_ring.specs.Ring.{Keeps}
use Rattle.rp_rules.specs.Certificates.{Vouched}
use Rattle.notice_board.specs.declared.sheets.Sheet.{Sheet}
use Rattle.editions.specs.PublishedState.{IsConsistentState}
use Rattle.editions.specs.Sheets.{sheet_of}
use Rattle.press_core.specs.JournalRecords.{AreRecords, IsRecordOf, press_limit}
use Rattle.press_core.specs.Next.{NextValue}
use Rattle.press_core.specs.Follows.{edition_of}
use Rattle.press_core.specs.Press.{PressValue}
use Rattle.press_core.specs.Stored.{StoredValue}
use Rattle.gate_journal.specs.View as journal
use Rattle.editions.specs.Edition.{Edition}
use Rattle.editions.specs.PublishedState.{PublishedStateValue}
use Rattle.press_core.specs.Stands.{IsLeftBy, StandsFor}
use Rattle.session_lines.specs.Keeping.{KeptValue}
use Rattle.krill_top.specs.DeskStates.{most_desks, names_in}
use Rattle.krill_top.specs.InstanceState.{InstanceState, TimedInstanceState, at_clock}
use Rattle.krill_top.specs.InstanceState.{outlet_state, lists_of, premises_of, AreVouchedIn}
use Rattle.krill_top.specs.InstanceState.{store_in, VouchForCalls, IsCoherentIn}
use Rattle.press_core.specs.Files.{HasFilesOf}
use Rattle.press_core.specs.Exports.{ShowsEdition, ShowsLast}
use Rattle.krill_top.specs.DesksInStates.{AreIn, DesksGoOn, RoseWithin}
use Rattle.krill_top.specs.Replies.{IsReply, IsText}
use Rattle.krill_top.specs.Histories.{and_doubt}
use Rattle.krill_top.specs.SoundEditions.{TakesNoMore}
use Rattle.krill_top.specs.inner.Room.{KeepsRoom, KeepsBytes}

-- The desks by their numbers, the press and its journal, what readers are shown of the last edition, how
-- many signers there are, and the outlet.
pub record InstanceValue (D O : Type 0) : Type 0 where
  pub desks : List (View D)
  pub press : PressValue
  pub journal : journal.View D
  pub sheet : Sheet
  pub signers : ℕ
  pub outlet : O

-- The press with its journal.
abbrev pub stored_in : {D O : Type 0} → InstanceValue D O → StoredValue D
stored_in instance = record { press = instance.press; journal = instance.journal }

-- The bytes are the record of the edition, as it was prepared, over what stands.
pub record IsDoubtOf (at : PublishedStateValue) (edition : Edition) (entry : List ℕ) : Type 0 where
  pub prepared : NextValue
  pub edition_is : edition ≡ edition_of prepared
  pub recorded : IsRecordOf at prepared entry

-- The journal of the press has the edition in doubt, if there is one.
abbrev pub HasInDoubt : PublishedStateValue → Option Edition → Option (List ℕ) → Type 0
HasInDoubt at None None = ⊤
HasInDoubt at None (Some entry) = ⊥
HasInDoubt at (Some edition) None = ⊥
HasInDoubt at (Some edition) (Some entry) = IsDoubtOf at edition entry

-- The journal of the press has the editions, where its disk tells, and has room for them where it had room
-- for those that were found; it takes more where none is in doubt.
pub record IsJournalOf {D : Type 0} (press : StoredValue D) (state : InstanceState) : Type 0 where
  pub limit : press.journal.limit ≡ press_limit
  pub records : press.journal.records ≡ state.records
  pub are : IfSome state.records (AreRecords (store_in state) state.editions)
  pub shut : (press.journal.shut ≡ None) ↔ (state.in_doubt ≡ None)
  pub doubt : HasInDoubt press.press.at state.in_doubt press.journal.doubt
  pub room : KeepsRoom state
  pub bytes : KeepsBytes state

-- Behind the editions that were found these stand; none of them takes in more commands of a desk than it
-- has, nor does the one in doubt.
pub record KeepsCuts (state : InstanceState) : Type 0 where
  pub made : List Edition
  pub grows : state.editions ≡ state.found.editions ++ made
  pub within : All (TakesNoMore state.desk_states) (and_doubt made state.in_doubt)

-- The instance is in this state: its desks are in their states, its press has what the editions
-- left, with their files, and stands for them whatever is vouched, if their signatures are and the
-- editions that were found are steps; its journal has the editions; the signers of all names and keys are
-- there; and the outlet shows what was exported last, if that ended Ok.
pub record IsInState {D O : Type 0} (outlet_of : OutletGhosts O) (instance : InstanceValue D O)
    (state : InstanceState) : Type 0 where
  pub desks : AreIn instance.desks state.desk_states
  pub left : IsLeftBy (lists_of state.desk_states) state.editions instance.press.at
  pub stands : (vouched : Vouched) → AreVouchedIn vouched state
      → StandsFor (premises_of vouched state) state.editions instance.press.at
  -- and so does what the one in doubt would leave
  pub in_doubt : (vouched : Vouched) → AreVouchedIn vouched state → IfSome state.in_doubt
      (λ edition. (at : PublishedStateValue)
      × StandsFor (premises_of vouched state) (state.editions ++ edition ∷ []) at)
  pub serial : instance.press.at.serial ≡ length state.editions
  pub files : HasFilesOf state.editions instance.press
  pub site : instance.press.site ≡ state.site
  pub session : instance.press.rrdp.session ≡ state.session
  pub journal : IsJournalOf (stored_in instance) state
  pub cuts : KeepsCuts state
  pub exported : instance.press.last_export ≡ state.exported
  pub outlet : outlet_state outlet_of instance.outlet ≡ state.outlet
  pub shows : ShowsLast (ShowsEdition state.session state.site) state.editions state.exported
      state.outlet.files
  pub ring : instance.press.ring ≡ state.signers
  pub kept : state.editions ≢ [] → IsConsistentState instance.press.at
  pub one_each : length instance.press.at.cut ≡ most_desks
  pub sheet : instance.sheet ≡ sheet_of instance.press.at
  pub counted : instance.signers ≡ length state.signers
  pub live_signers : All (λ row. row.signer < length state.signers) instance.press.at.rows
  pub name_signers : All (λ (name : NameRow). name.signer < length state.signers)
      (names_in state.desk_states)

-- Such an instance could be made of these, with the sheet of what stands.
abbrev pub IsPressIn : {D O : Type 0} → OutletGhosts O → List (View D) → StoredValue D → ℕ → O
    → InstanceState → Type 0
IsPressIn outlet_of desks press signers outlet state = IsInState outlet_of (record {
  desks = desks;
  press = press.press;
  journal = press.journal;
  sheet = sheet_of press.press.at;
  signers = signers;
  outlet = outlet;
}) state

-- It is in some state.
pub record IsInstance {D O : Type 0} (outlet_of : OutletGhosts O) (instance : InstanceValue D O)
    : Type 0 where
  pub state : InstanceState
  pub stands : IsInState outlet_of instance state

-- How the press's disk goes on: an edition is in doubt by a fault of it alone.
pub record PressGoesOn {D : Type 0} (disk_of : DiskGhosts D) (old new : D)
    (before after : InstanceState) : Type 0 where
  pub cause : before.in_doubt ≡ None → ¬ (after.in_doubt ≡ None)
      → RoseWithin (disk_of.fault_count old) (disk_of.fault_count new)
  pub stays : ¬ (before.in_doubt ≡ None) → after.in_doubt ≡ before.in_doubt
  pub later : disk_of.fault_count old ≤ disk_of.fault_count new

-- Editions come behind those that stand.
abbrev pub EditionsGrow : InstanceState → InstanceState → Type 0
EditionsGrow before after = (made : List Edition) × (after.editions ≡ before.editions ++ made)

-- From the instance in one state, P leads to a state in which the other instance is.
pub record Arrives {D O : Type 0} (disk_of : DiskGhosts D) (outlet_of : OutletGhosts O)
    (P : InstanceState → InstanceState → Type 0) (old new : InstanceValue D O)
    (before : InstanceState) : Type 0 where
  pub after : InstanceState
  pub same_site : after.site ≡ before.site
  pub same_session : after.session ≡ before.session
  pub same_found : after.found ≡ before.found
  pub step : P before after
  pub stands : IsInState outlet_of new after
  pub disks : DesksGoOn disk_of old.desks new.desks before.desk_states after.desk_states
  pub press : PressGoesOn disk_of old.journal.disk new.journal.disk before after
  pub grown : EditionsGrow before after
  pub kept : Keeps before.signers after.signers
  pub vouch : VouchForCalls before after
  pub coherent : IsCoherentIn before → IsCoherentIn after

-- What a call may do to the instance, as replies see it and as its disks go on.
abbrev pub Moves : {D O : Type 0} → DiskGhosts D → OutletGhosts O
    → (InstanceState → InstanceState → Type 0) → InstanceValue D O → InstanceValue D O → Type 0
Moves disk_of outlet_of P old new = (before : InstanceState) → IsInState outlet_of old before
    → Arrives disk_of outlet_of P old new before

-- The instance, what the readings of its session's clock give, where it tells, and what is kept of
-- refusals.
pub record TimedInstance (D O : Type 0) : Type 0 where
  pub instance : InstanceValue D O
  pub clock : Option (ℕ → ℕ)
  pub kept : KeptValue

-- What a line may do to the instance, the clock and what is kept.
abbrev pub MovesTimed : {D O : Type 0} → DiskGhosts D → OutletGhosts O
    → (TimedInstanceState → TimedInstanceState → Type 0)
    → TimedInstance D O → TimedInstance D O → Type 0
MovesTimed disk_of outlet_of P old new =
    Moves disk_of outlet_of
    (λ b a. P (at_clock old.clock old.kept b) (at_clock new.clock new.kept a))
    old.instance new.instance

-- A line that isn't blank may get this text.
abbrev pub MayText : {D O : Type 0} → DiskGhosts D → OutletGhosts O → TimedInstance D O → List ℕ
    → List ℕ → Bool → TimedInstance D O → Type 0
MayText disk_of outlet_of old line text changed new =
    MovesTimed disk_of outlet_of (λ b a. IsText line b text changed a) old new

-- A line may get this reply.
abbrev pub MayReply : {D O : Type 0} → DiskGhosts D → OutletGhosts O → TimedInstance D O → List ℕ
    → List ℕ → Bool → TimedInstance D O → Type 0
MayReply disk_of outlet_of old line reply changed new =
    MovesTimed disk_of outlet_of (λ b a. IsReply b line reply changed a) old new
