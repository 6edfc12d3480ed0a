-- What a run of several sessions over one store leaves: what each was answered, whose the accepted
-- commands are, and what stands in the end.
use Rattle.std.specs.Prelude.{◌≡◌, ◌≢◌, ◌⊎◌, ⊤, ℕ, ◌<◌, ◌≤◌, Bool, true, Result, Ok, Err, List, [], ◌∷◌, ◌++◌, Option, None, Some, All, length, map}
use mathlib.Core.List.{IsPrefix}
use Rattle.disk_api.specs.declared.disk.Disk.{Ghosts as DiskGhosts}
use Rattle.outlet_api.specs.declared.outlet.Outlet.{Ghosts as OutletGhosts}
use Rattle.outlet_api.specs.declared.outlet.OutletStop.{OutletStop}
use Rattle.outlet_api.specs.declared.outlet.OutletStop.TheVariants as stop
use Rattle.outlet_api.specs.declared.exports.ExportFault.{ExportFault}
use Rattle.line_loop.specs.declared.traits.Source.{Ghosts as SourceGhosts}
use Rattle.line_loop.specs.declared.traits.Sink.{Ghosts as SinkGhosts}
use Rattle.line_loop.specs.declared.traits.Clock.{Ghosts as ClockGhosts}
use Rattle.line_loop.specs.declared.session.SessionEnd.{SessionEnd}
use Rattle.signer_api.specs.State.{SignerState}
use Rattle.signer_ring.specs.Ring.{Keeps}
use Rattle.key_ids.specs.Uris.{Bases}
use Rattle.cmd_codec.specs.Spelling.{spelling}
use Rattle.commit_word.specs.Entries.{StandsIn}
use Rattle.rp_rules.specs.Certificates.{Vouched}
use Rattle.notice_board.specs.declared.shown.ShownEdition.{ShownEdition}
use Rattle.editions.specs.PublishedState.{PublishedStateValue, IsConsistentState}
use Rattle.press_core.specs.Stands.{IsLeftBy}
use Rattle.press_core.specs.declared.last_export.LastExport.TheVariants.{Failed}
use Rattle.manager.specs.Lists.{seat_at}
use Rattle.manager.specs.Passes.{PassValue, IsSplitOff}
use Rattle.manager.specs.Run.{Stood, editions_of, shown_at, shown_in, AreAfter}
use Rattle.manager.specs.Sharing.{pass_at, seat_of, made_with, IsMadeOnce}
use Rattle.session_lines.specs.Keeping.{KeptValue, nothing_kept, merged}
use Rattle.session_lines.specs.Own.{SessionMakes}
use Rattle.session_lines.specs.Runs.{IsServedWith, NoneServed}
use Rattle.session_lines.specs.declared.running.SessionEnds.{SessionEnds}
use Rattle.session_lines.specs.declared.running.SessionOutcome.{SessionOutcome}
use Rattle.krill_top.specs.declared.ends.Ends.{Ends}
use Rattle.krill_top.specs.declared.faults.RunFault.{RunFault}
use Rattle.krill_top.specs.declared.faults.RunFault.TheVariants as faults
use Rattle.krill_top.specs.declared.running.RunEnd.{RunEnd}
use Rattle.krill_top.specs.declared.summary.Summary.{Summary}
use Rattle.krill_top.specs.DeskStates.{DeskStates, most_desks, commands_at}
use Rattle.krill_top.specs.DesksInStates.{RoseWithin}
use Rattle.krill_top.specs.Exports.{stop_of}
use Rattle.histories.specs.Events.{History}
use Rattle.histories.specs.Work.{GoesOnAs}
use Rattle.krill_top.specs.Histories.{MayFind, HasPressRoom, and_doubt, signatures, work_of}
use Rattle.krill_top.specs.InstanceState.{InstanceState, is_exported, lists_of, premises_of, AreVouchedIn}
use Rattle.krill_top.specs.Crashes.{MayBeLeft, IsReopened}
use Rattle.krill_top.specs.SoundEditions.{AreFoundSound, TakesNoMore}
use Rattle.krill_top.specs.Run.{AreKept, Leaves, LeavesFound, Opens}
use Rattle.krill_top.specs.Statuses.{fault_of, export_fault, graver, run_status}

-- ---- what the sessions know

-- The records of a desk's commands.
abbrev pub records_at : DeskStates → ℕ → List (List ℕ)
records_at desk_states number = map spelling (commands_at desk_states number)

-- The pass off which those of the sessions are split knows what opening found, and the last edition
-- counts as shown to it: what is told of it is certified and published by what stands after it. Nothing
-- was made with this pass.
pub record KnowsFound (begun : InstanceState) (first : PassValue) : Type 0 where
  pub count : length first.seats ≡ most_desks
  pub seen : (desk : ℕ) → desk < most_desks
      → (seat_at first.seats desk).seen ≡ records_at begun.desk_states desk
  pub none : (desk : ℕ) → (seat_at first.seats desk).mine ≡ []
  pub at : PublishedStateValue
  pub left : IsLeftBy (lists_of begun.desk_states) begun.editions at
  pub kept : begun.editions ≢ [] → IsConsistentState at
  pub shown : first.shown ≡ shown_at at ∷ []

-- What passes know of a desk is the front of its list, and what was made of it with each stands there.
-- Each command that was accepted in the run was made with one of them, and with no other.
pub record IsSharedList (begun ended : DeskStates) (passes : List PassValue) (number : ℕ)
    : Type 0 where
  pub begins : (pass : ℕ) → IsPrefix (seat_of passes pass number).seen (records_at ended number)
  pub stands : (pass : ℕ) → StandsIn (records_at ended number) (made_with passes pass number)
  pub once : (place : ℕ) → length (commands_at begun number) ≤ place
      → place < length (commands_at ended number) → IsMadeOnce passes number place

-- These are shown of the editions: what stood when the run began, and behind it what stands after each
-- edition of the run, in their order; or the first so many of them.
pub record AreShown (begun ended : InstanceState) (shown : List ShownEdition) : Type 0 where
  pub at : PublishedStateValue
  pub left : IsLeftBy (lists_of begun.desk_states) begun.editions at
  pub kept : begun.editions ≢ [] → IsConsistentState at
  pub run : List Stood
  pub made : ended.editions ≡ begun.editions ++ editions_of run
  pub after : AreAfter (lists_of ended.desk_states) begun.editions run
  pub front : IsPrefix shown (shown_in at run)

-- What the passes know, and what was made with them, stands in the end.
pub record Shares (begun ended : InstanceState) (passes : List PassValue) : Type 0 where
  pub lists : (desk : ℕ) → desk < most_desks
      → IsSharedList begun.desk_states ended.desk_states passes desk
  pub viewed : List ShownEdition
  pub seen : (pass : ℕ) → IsPrefix (pass_at passes pass).shown viewed
  pub shown : AreShown begun ended viewed

-- ---- what the sessions are told

-- A session was served between its ends with a pass of its own, which became the one that is left. What
-- it made are the commands of its lines whose replies say that they are accepted; and where its sink
-- failed, or found no memory, at most one more, the last, whose reply was cut off.
pub record IsServedIn {D O S K C : Type 0} (disk_of : DiskGhosts D) (signers : ℕ)
    (source_of : SourceGhosts S) (sink_of : SinkGhosts K) (clock_of : ClockGhosts C)
    (given left : PassValue) (old new : SessionEnds S K C) (outcome : SessionOutcome D O)
    : Type 0 where
  pub is : IsServedWith disk_of signers source_of sink_of clock_of given left old new outcome
  pub makes : SessionMakes is.end is.session.given is.session.written given.seats left.seats

-- So was each of them, in their order.
abbrev pub AreServedIn : {D O S K C : Type 0} → DiskGhosts D → ℕ → SourceGhosts S → SinkGhosts K
    → ClockGhosts C → List PassValue → List PassValue → List (SessionEnds S K C)
    → List (SessionEnds S K C) → List (SessionOutcome D O) → Type 0
AreServedIn disk_of signers source_of sink_of clock_of [] [] [] [] [] = ⊤
AreServedIn disk_of signers source_of sink_of clock_of (given ∷ more) (left ∷ others)
    (old ∷ olds) (new ∷ news) (outcome ∷ outcomes) =
    IsServedIn disk_of signers source_of sink_of clock_of given left old new outcome
    × AreServedIn disk_of signers source_of sink_of clock_of more others olds news outcomes
AreServedIn disk_of signers source_of sink_of clock_of given left olds news outcomes = ⊥

-- Why a session ended otherwise than by the end of its source. One that has no end wasn't served.
abbrev pub ended_fault : Option SessionEnd → Option RunFault
ended_fault None = Some faults.Memory
ended_fault (Some end) = fault_of end

-- The gravest of these, behind one before them.
abbrev pub gravest_from : {D O : Type 0} → Option RunFault → List (SessionOutcome D O) → Option RunFault
gravest_from fault [] = fault
gravest_from fault (outcome ∷ outcomes) =
    gravest_from (graver fault (ended_fault outcome.ended)) outcomes

-- The last value of each kind that one of these kept, or that was kept before them.
abbrev pub kept_from : {D O : Type 0} → KeptValue → List (SessionOutcome D O) → KeptValue
kept_from kept [] = kept
kept_from kept (outcome ∷ outcomes) = kept_from (merged kept outcome.kept) outcomes

-- Each session was served, with a pass that was split off the first one.
pub record AreAllServed {D O S K C : Type 0} (disk_of : DiskGhosts D) (signers : ℕ)
    (source_of : SourceGhosts S) (sink_of : SinkGhosts K) (clock_of : ClockGhosts C)
    (first : PassValue) (left : List PassValue) (old new : List (SessionEnds S K C))
    (outcomes : List (SessionOutcome D O)) (fault : Option RunFault) : Type 0 where
  pub given : List PassValue
  pub split : All (IsSplitOff first) given
  pub served : AreServedIn disk_of signers source_of sink_of clock_of given left old new outcomes
  pub fault_is : fault ≡ gravest_from None outcomes

-- There was no memory for their passes, and none was.
pub record IsNoneServed {D O S K C : Type 0} (left : List PassValue)
    (old new : List (SessionEnds S K C)) (outcomes : List (SessionOutcome D O))
    (fault : Option RunFault) : Type 0 where
  pub is : NoneServed left old new outcomes
  pub fault_is : fault ≡ Some faults.Memory

-- ---- what stands in the end

-- The last export failed: by a fault only where the outlet's count of faults rose in this run.
pub record IsLeftUnexported (stopped : OutletStop) (begun ended : InstanceState) : Type 0 where
  pub failed : ended.exported ≡ Failed
  pub cause : stopped ≡ stop.Fault → RoseWithin begun.outlet.faults ended.outlet.faults

-- The last edition is exported in the end: where it wasn't, it was exported again. Or it couldn't be.
abbrev pub Closes : {O : Type 0} → Result Bool (ExportFault O) → InstanceState → InstanceState → Type 0
Closes (Ok told) begun ended = is_exported ended ≡ true
Closes (Err fault) begun ended = IsLeftUnexported (stop_of fault) begun ended

-- A run that opened desks and press, served its sessions over them at the same time, exported the last
-- edition again where it wasn't exported, and hands all back. What each session was answered is of what
-- its pass knew then; in the end all of that stands. What the run did, and its signers signed, is a part
-- of a legal history.
pub record ServesAll {D G S K O C : Type 0} (disk_of : DiskGhosts D) (state_of : G → SignerState)
    (outlet_of : OutletGhosts O) (source_of : SourceGhosts S) (sink_of : SinkGhosts K)
    (clock_of : ClockGhosts C) (site : Bases) (random : List ℕ) (ends : Ends D G O)
    (before : List (SessionEnds S K C)) (run : RunEnd D G S K O C) : Type 0 where
  pub opened : InstanceState
  pub begun : InstanceState
  pub ended : InstanceState
  pub summary : Summary
  pub opens : Opens disk_of state_of outlet_of site ends opened begun summary
  pub first : PassValue
  pub knows : KnowsFound begun first
  pub left : List PassValue
  pub outcomes : List (SessionOutcome D O)
  pub worst : Option RunFault
  pub sessions :
      AreAllServed disk_of (length begun.signers) source_of sink_of clock_of first left
      before run.sessions.items outcomes worst
      ⊎ IsNoneServed left before run.sessions.items outcomes worst
  pub kept : run.kept ≡ kept_from nothing_kept outcomes
  pub closing : Result Bool (ExportFault O)
  pub closes : Closes closing begun ended
  pub status : run.status ≡ run_status (graver worst (export_fault closing))
  pub fault : run.fault ≡ graver worst (export_fault closing)
  pub shares : Shares begun ended (first ∷ left)
  pub disks : AreKept disk_of ends.desks.items run.ends.desks.items begun.desk_states ended.desk_states
  pub leaves : Leaves disk_of state_of outlet_of random ends opened begun ended run
  -- what is vouched stays vouched
  pub keeps : Keeps begun.signers ended.signers
  -- whatever is vouched, also of the one in doubt
  pub cuts : All (TakesNoMore ended.desk_states) (and_doubt leaves.grown.0 ended.in_doubt)
  -- and of those that were found, where they are steps
  pub found_cuts : (vouched : Vouched) → AreVouchedIn vouched ended
      → All (TakesNoMore ended.desk_states) begun.editions
  pub published : (vouched : Vouched) → AreVouchedIn vouched ended
      → AreFoundSound (premises_of vouched ended) begun.editions leaves.grown.0
  pub goes_on : HasPressRoom disk_of run.ends.press ended
      → (history : History) → MayFind history begun
      → GoesOnAs begun.site history (signatures ended.calls) (work_of begun ended)
  -- and whatever a crash on return leaves is what a reopening behind that may find
  pub crash : (images : ℕ → List ℕ) (image : List ℕ)
      → MayBeLeft disk_of run.ends.desks.items run.ends.press images image
      → IsReopened begun ended images image

-- A run that opened desks and press, and found no memory for the locks: no session was served, and all
-- is as it was found.
pub record ServesNone {D G S K O C : Type 0} (disk_of : DiskGhosts D) (state_of : G → SignerState)
    (outlet_of : OutletGhosts O) (site : Bases) (random : List ℕ) (ends : Ends D G O)
    (before : List (SessionEnds S K C)) (run : RunEnd D G S K O C) : Type 0 where
  pub opened : InstanceState
  pub begun : InstanceState
  pub summary : Summary
  pub untouched : run.sessions.items ≡ before
  pub kept : run.kept ≡ nothing_kept
  pub status : run.status ≡ 6
  pub fault : run.fault ≡ Some faults.Memory
  pub opens : Opens disk_of state_of outlet_of site ends opened begun summary
  pub leaves : LeavesFound disk_of state_of outlet_of random ends opened begun run

-- What is done with several sessions.
abbrev pub ServesMany : {D G S K O C : Type 0} → DiskGhosts D → (G → SignerState) → OutletGhosts O
    → SourceGhosts S → SinkGhosts K → ClockGhosts C → Bases → List ℕ → Ends D G O
    → List (SessionEnds S K C) → RunEnd D G S K O C → Type 0
ServesMany disk_of state_of outlet_of source_of sink_of clock_of site random ends before run =
    ServesAll disk_of state_of outlet_of source_of sink_of clock_of site random ends before run
    ⊎ ServesNone disk_of state_of outlet_of site random ends before run
