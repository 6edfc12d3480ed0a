-- What a whole run leaves.
use Rattle.std.specs.Prelude.{◌≡◌, ◌≢◌, ◌⊎◌, ℕ, ◌≤◌, ◌<◌, ◌+◌, ◌==◌, ◌||◌, nat_lt, max, Bool, true}
use Rattle.std.specs.Prelude.{not, if◌then◌else◌, Result, Ok, String, Vec, List, [], ◌∷◌, ◌++◌}
use Rattle.std.specs.Prelude.{Option, None, Some, IfSome, All, length, map, slice_get, ⊤}
use Rattle.std.specs.Option.{option_map}
use Rattle.gate_journal.specs.Format.{opened}
use Rattle.host_calls.specs.Rise.{HasRisen}
use Rattle.disk_api.specs.declared.disk.Disk.{Ghosts as DiskGhosts}
use Rattle.line_loop.specs.declared.traits.Source.{Ghosts as SourceGhosts}
use Rattle.line_loop.specs.declared.traits.Sink.{Ghosts as SinkGhosts}
use Rattle.line_loop.specs.declared.traits.Clock.{Ghosts as ClockGhosts}
use Rattle.line_loop.specs.declared.session.SessionEnd.{SessionEnd}
use Rattle.line_loop.specs.declared.session.SessionEnd.TheVariants.{SourceFault, SinkFault}
use Rattle.authority_book.specs.declared.commands.Command.{Command}
use Rattle.authority_book.specs.declared.rows.NameRow.{NameRow}
use Rattle.cmd_codec.specs.Spelling.{spelling}
use Rattle.desk_core.specs.Commands.{Records}
use Rattle.signer_api.specs.State.{SignerState}
use Rattle.rp_rules.specs.Certificates.{Vouched}
use Rattle.editions.specs.Step.{AreSteps}
use Rattle.krill_top.specs.declared.faults.OpenFault.{OpenFault}
use Rattle.krill_top.specs.declared.faults.OpenFault.TheVariants.{WrongCount}
use Rattle.krill_top.specs.declared.faults.RunFault.{RunFault}
use Rattle.krill_top.specs.declared.faults.RunFault.TheVariants as faults
use Rattle.krill_top.specs.declared.ends.Ends.{Ends}
use Rattle.krill_top.specs.declared.summary.Summary.{Summary}
use Rattle.krill_top.specs.declared.words.Doing.{Doing}
use Rattle.krill_top.specs.declared.words.Doing.TheVariants.{Run}
use Rattle.krill_top.specs.Words.{AskedValue, asked_of, bases_of}
use Rattle.key_ids.specs.Base.{IsBase, rsync_scheme, https_scheme}
use Rattle.key_ids.specs.declared.site.SiteFault.TheVariants as site
use Rattle.std.specs.declared.alloc.Global.{Global}
use Rattle.krill_top.specs.Summaries.{summary_line, summary_of, no_edition}
use Rattle.krill_top.specs.PressDisk.{Given, IsPressServed, AreAsked, IsNotLoaded}
use Rattle.krill_top.specs.PressDisk.{IsLoadedAndStopped}
use Rattle.key_ids.specs.Uris.{Bases}
use Rattle.signer_ring.specs.Ring.{AllTell, Vouched as VouchedBy}
use Rattle.entitle.specs.Owed.{AreOwed}
use Rattle.rp_rules.specs.Certificates.{WalkContext}
use Rattle.rp_rules.specs.Sound.{IsAuditOf}
use Rattle.rp_rules.specs.Yield.{AuditedValue}
use Rattle.editions.specs.Edition.{Edition, state_after}
use Rattle.editions.specs.PublishedState.{PublishedStateValue}
use Rattle.press_core.specs.Stands.{IsLeftBy}
use Rattle.press_core.specs.Agreement.{owed_yield, AreSameOrigins, first_mismatch}
use Rattle.press_core.specs.Loading.{anchor_of}
use Rattle.session_lines.specs.Keeping.{KeptValue, nothing_kept}
use Rattle.session_lines.specs.declared.running.SessionEnds.{SessionEnds}
use Rattle.krill_top.specs.declared.running.RunEnd.{RunEnd}
use Rattle.krill_top.specs.DeskStates.{DeskStates, DeskState, most_desks, most_sessions, names_in}
use Rattle.krill_top.specs.DeskStates.{commands_at}
use Rattle.krill_top.specs.InstanceState.{InstanceState, OutletState, at_clock, outlet_state}
use Rattle.krill_top.specs.InstanceState.{lists_of, premises_of, IsJustOpened}
use Rattle.krill_top.specs.InstanceState.{is_exported, AreVouchedIn, VouchForCalls, IsCoherentIn}
use Rattle.krill_top.specs.InstanceState.{ShowsLastIn}
use Rattle.histories.specs.Events.{History}
use Rattle.histories.specs.Work.{GoesOnAs}
use Rattle.krill_top.specs.Histories.{HasPressRoom, MayFind, and_doubt, signatures, work_of}
use Rattle.krill_top.specs.Crashes.{MayBeLeft, IsReopened}
use Rattle.krill_top.specs.SoundEditions.{AreFoundSound, TakesNoMore}
use Rattle.krill_top.specs.Exports.{Repeats}
use Rattle.krill_top.specs.Session.{session_of}
use Rattle.outlet_api.specs.declared.outlet.Outlet.{Ghosts as OutletGhosts}
use Rattle.outlet_api.specs.declared.exports.ExportFault.{ExportFault}
use Rattle.krill_top.specs.DesksInStates.{all_stored, RoseWithin}
use Rattle.krill_top.specs.Sessions.{Streams, Converses}
use Rattle.krill_top.specs.Telling.{Tells}
use Rattle.krill_top.specs.Working.{Worked, Works, ended_by}
use Rattle.krill_top.specs.RunDisks.{RecoveredTo, IsSafe, IsOpeningRefused}
use Rattle.krill_top.specs.Statuses.{fault_status, run_status, end_fault, opening_fault}

-- ---- words, bases and numbers

-- The devices as they are handed in.
abbrev pub ends_of : {D G O : Type 0} → Vec D Global → D → Vec G Global → O → Ends D G O
ends_of desks press signers outlet = record {
  desks = desks;
  press = press;
  signers = signers;
  outlet = outlet;
}

-- Both are bases of a repository.
abbrev pub AreBases : Bases → Type 0
AreBases bases = IsBase rsync_scheme bases.rsync × IsBase https_scheme bases.rrdp

-- Why these are not the bases of a repository, or there was no memory for them.
abbrev pub AreRefusedBases : Bases → RunFault → Type 0
AreRefusedBases bases (faults.Base site.BadRsync) = ¬ IsBase rsync_scheme bases.rsync
AreRefusedBases bases (faults.Base site.BadRrdp) =
    IsBase rsync_scheme bases.rsync × (¬ IsBase https_scheme bases.rrdp)
AreRefusedBases bases faults.Memory = AreBases bases
AreRefusedBases bases other = ⊥

-- Why the words ask for nothing that is done.
abbrev pub IsUnwanted : List (String Global) → RunFault → Type 0
IsUnwanted words faults.Words = asked_of words ≡ None
IsUnwanted words fault = (asked : AskedValue) × (asked_of words ≡ Some asked)
    × AreRefusedBases (bases_of asked) fault

-- What is wrong in number, before any device is called: sessions, disks or signers, asked in this order.
-- `run` serves one to eight sessions; what else is done is told to one.
abbrev pub wrong_count : ℕ → ℕ → ℕ → RunFault
wrong_count what needed found = faults.Refused (WrongCount what needed found)

abbrev pub wrong_sessions : Doing → ℕ → Option RunFault
wrong_sessions Run sessions = if (sessions == 0) || nat_lt most_sessions sessions
    then Some (wrong_count 2 most_sessions sessions) else None
wrong_sessions other sessions =
    if not (sessions == 1) then Some (wrong_count 2 1 sessions) else None

abbrev pub wrong_devices : ℕ → ℕ → Option RunFault
wrong_devices disks signers =
    if not (disks == most_desks) then Some (wrong_count 0 most_desks disks)
    else if signers == 0 then Some (wrong_count 1 1 0)
    else if nat_lt 8 signers then Some (wrong_count 1 8 signers) else None

abbrev pub or_else : Option RunFault → Option RunFault → Option RunFault
or_else None other = other
or_else (Some fault) other = Some fault

abbrev pub miscounted : Doing → ℕ → ℕ → ℕ → Option RunFault
miscounted doing sessions disks signers =
    or_else (wrong_sessions doing sessions) (wrong_devices disks signers)

-- A run that was refused at once: nothing was read or written, and no device was called.
pub record IsRefusedRun {D G S K O C : Type 0} (ends : Ends D G O)
    (sessions : List (SessionEnds S K C)) (fault : RunFault)
    (run : RunEnd D G S K O C) : Type 0 where
  pub status_is : run.status ≡ fault_status fault
  pub fault_is : run.fault ≡ Some fault
  pub devices_untouched : run.ends ≡ ends
  pub untouched : run.sessions.items ≡ sessions
  pub kept : run.kept ≡ nothing_kept

-- The command in doubt would be the next one of its desk.
abbrev pub IsNext : ℕ → DeskState → Command → Type 0
IsNext number desk command =
    Records number (map spelling (desk.commands ++ command ∷ [])) (desk.commands ++ command ∷ [])

-- The disk of the desk of that number went through the run: it held the commands with which the desk
-- begins, and holds these and the accepted ones, in order, with the one in doubt or without it. So does
-- each image that a crash may leave, and all can be opened again. A command is in doubt only where the
-- disk failed in this run.
pub record IsKept {D : Type 0} (disk_of : DiskGhosts D) (number : ℕ) (old new : D)
    (begun ended : DeskState) : Type 0 where
  pub found : RecoveredTo (disk_of.content old) number begun.commands
  pub is_open : begun.doubt ≡ None
  pub accepted : List Command
  pub grows : ended.commands ≡ begun.commands ++ accepted
  pub recorded : Records number (map spelling ended.commands) ended.commands
  pub next : IfSome ended.doubt (IsNext number ended)
  pub left : IsSafe disk_of ended.commands ended.doubt new
  pub cause : ¬ (ended.doubt ≡ None)
      → RoseWithin (disk_of.fault_count old) (disk_of.fault_count new)
  pub later : disk_of.fault_count old ≤ disk_of.fault_count new

-- And a known disk's bytes are those that opening made of it, with the accepted commands' records.
pub record IsServed {D : Type 0} (disk_of : DiskGhosts D) (number : ℕ) (old new : D)
    (begun ended : DeskState) : Type 0 where
  pub kept : IsKept disk_of number old new begun ended
  pub bytes : ended.doubt ≡ None → disk_of.content new
      ≡ option_map (all_stored (map spelling begun.commands) (map spelling kept.accepted))
      (option_map opened (disk_of.content old))

-- So of a number's disk, if there is one.
abbrev pub IsServedAt : {D : Type 0} → DiskGhosts D → ℕ → Option D → Option D → Option DeskState
    → Option DeskState → Type 0
IsServedAt disk_of number None None None None = ⊤
IsServedAt disk_of number (Some old) (Some new) (Some begun) (Some ended) =
    IsServed disk_of number old new begun ended
IsServedAt disk_of number old new begun ended = ⊥

-- So of each disk.
abbrev pub AreServed : {D : Type 0} → DiskGhosts D → List D → List D → DeskStates → DeskStates
    → Type 0
AreServed disk_of old new begun ended = (number : ℕ)
    → IsServedAt disk_of number (slice_get old number) (slice_get new number)
    (slice_get begun number) (slice_get ended number)

-- The same without the bytes.
abbrev pub IsKeptAt : {D : Type 0} → DiskGhosts D → ℕ → Option D → Option D → Option DeskState
    → Option DeskState → Type 0
IsKeptAt disk_of number None None None None = ⊤
IsKeptAt disk_of number (Some old) (Some new) (Some begun) (Some ended) =
    IsKept disk_of number old new begun ended
IsKeptAt disk_of number old new begun ended = ⊥

abbrev pub AreKept : {D : Type 0} → DiskGhosts D → List D → List D → DeskStates → DeskStates
    → Type 0
AreKept disk_of old new begun ended = (number : ℕ)
    → IsKeptAt disk_of number (slice_get old number) (slice_get new number)
    (slice_get begun number) (slice_get ended number)

-- ---- signers

-- How many signers the names use: they have numbers below this one.
abbrev pub signers_needed : List NameRow → ℕ
signers_needed [] = 0
signers_needed (row ∷ rows) = max (row.signer + 1) (signers_needed rows)

-- The names use a signer that isn't there.
abbrev pub IsSignersCause : OpenFault → ℕ → DeskStates → Type 0
IsSignersCause fault signers found = (signers < signers_needed (names_in found))
    × (fault ≡ WrongCount 1 (signers_needed (names_in found)) signers)

-- ---- a run that was refused at opening

-- What the devices hold, as opening is given them.
abbrev pub given_with : {G O : Type 0} → (G → SignerState) → OutletGhosts O → Bases → List ℕ
    → DeskStates → List G → O → Given
given_with state_of outlet_of site session found signers outlet = record {
  site = site;
  session = session;
  found = found;
  signers = map state_of signers;
  outlet = outlet_state outlet_of outlet;
}

-- The press wasn't called, since the names use a signer that isn't there.
pub record LacksNamed {D : Type 0} (given : Given) (fault : OpenFault) (old new : D)
    (outlet : OutletState) : Type 0 where
  pub lacks : IsSignersCause fault (length given.signers) given.found
  pub press_untouched : new ≡ old
  pub outlet_untouched : outlet ≡ given.outlet

-- Nothing was loaded of its disk, and nothing put.
pub record IsUnloaded {D : Type 0} (disk_of : DiskGhosts D) (given : Given) (fault : OpenFault)
    (old new : D) (outlet : OutletState) : Type 0 where
  pub there : signers_needed (names_in given.found) ≤ length given.signers
  pub unloaded : IsNotLoaded disk_of given fault old new
  pub outlet_untouched : outlet ≡ given.outlet

-- Or what was loaded doesn't stand, or couldn't be exported.
pub record IsLoadedInVain {D : Type 0} (disk_of : DiskGhosts D) (given : Given)
    (fault : OpenFault) (old new : D) (signers : List SignerState) (outlet : OutletState)
    : Type 0 where
  pub there : signers_needed (names_in given.found) ≤ length given.signers
  pub stopped : IsLoadedAndStopped disk_of given fault old new signers outlet

abbrev pub IsBehind : {D : Type 0} → DiskGhosts D → Given → OpenFault → D → D
    → List SignerState → OutletState → Type 0
IsBehind disk_of given fault old new signers outlet = LacksNamed given fault old new outlet
    ⊎ IsUnloaded disk_of given fault old new outlet
    ⊎ IsLoadedInVain disk_of given fault old new signers outlet

-- The desks were all opened, and closed again: each holds the commands that it held.
pub record IsClosedAgain {D G O : Type 0} (disk_of : DiskGhosts D) (state_of : G → SignerState)
    (outlet_of : OutletGhosts O) (site : Bases) (session : List ℕ) (fault : OpenFault)
    (old new : Ends D G O) : Type 0 where
  pub found : DeskStates
  pub desks : AreServed disk_of old.desks.items new.desks.items found found
  pub asked : AreAsked fault (map state_of old.signers.items) (map state_of new.signers.items)
  pub behind : IsBehind disk_of
      (given_with state_of outlet_of site session found old.signers.items old.outlet)
      fault old.press new.press (map state_of new.signers.items)
      (outlet_state outlet_of new.outlet)

-- A desk wasn't opened: nothing else was called.
pub record IsDeskRefused {D G O : Type 0} (disk_of : DiskGhosts D) (state_of : G → SignerState)
    (fault : OpenFault) (old new : Ends D G O) : Type 0 where
  pub desks : IsOpeningRefused disk_of fault old.desks.items new.desks.items
  pub press_untouched : new.press ≡ old.press
  pub outlet_untouched : new.outlet ≡ old.outlet
  pub same_signers : map state_of new.signers.items ≡ map state_of old.signers.items

-- A run over which nothing was opened: no source was read, and no sink was given anything. No signer
-- made or signed anything.
pub record IsRefusedAtOpening {D G S K O C : Type 0} (disk_of : DiskGhosts D)
    (state_of : G → SignerState) (outlet_of : OutletGhosts O) (site : Bases) (session : List ℕ)
    (ends : Ends D G O) (sessions : List (SessionEnds S K C)) (run : RunEnd D G S K O C)
    : Type 0 where
  pub fault : OpenFault
  pub status_is : run.status ≡ fault_status (opening_fault fault)
  pub fault_is : run.fault ≡ Some (opening_fault fault)
  pub refused : IsDeskRefused disk_of state_of fault ends run.ends
      ⊎ IsClosedAgain disk_of state_of outlet_of site session fault ends run.ends
  pub untouched : run.sessions.items ≡ sessions
  pub kept : run.kept ≡ nothing_kept

-- ---- what opening finds

-- Whatever the disks held: where there is an edition, the last set is sound at its moment to whoever
-- goes by what the signers vouch for, it yields just what is owed at its cut over the commands that were
-- found, and each live key agrees with its publication point.
pub record IsFoundSound (begun : InstanceState) (audited : AuditedValue) : Type 0 where
  pub published_state : PublishedStateValue
  pub left : IsLeftBy (lists_of begun.desk_states) begun.editions published_state
  pub context : WalkContext
  pub bases : context.bases ≡ begun.site
  pub moment : context.moment ≡ published_state.moment
  pub anchor : anchor_of published_state.rows ≡ Some context.anchor
  pub vouched : (key digest signature : List ℕ) → context.vouched key digest signature ≡ true
      → AllTell begun.signers → VouchedBy begun.signers key digest signature
  pub audit : IsAuditOf context published_state.set audited
  pub owes : AreOwed published_state.configs published_state.owed
  pub origins : AreSameOrigins
      (owed_yield begun.site published_state.configs published_state.owed) audited.origins
  pub rows : first_mismatch published_state.rows audited.points ≡ None

-- What is told of it: nothing of a store without an edition.
abbrev pub IsSummary : InstanceState → Summary → Type 0
IsSummary begun told = ((begun.editions ≡ []) × (told ≡ no_edition))
    ⊎ ((audited : AuditedValue) × IsFoundSound begun audited
    × (told ≡ summary_of (state_after begun.editions) audited))

-- A run opened desks and press: the desks hold what was found there, the press the editions, whatever
-- they are; and where there is one, it was exported.
pub record Opens {D G O : Type 0} (disk_of : DiskGhosts D) (state_of : G → SignerState)
    (outlet_of : OutletGhosts O) (site : Bases) (old : Ends D G O) (opened begun : InstanceState)
    (summary : Summary) : Type 0 where
  pub just : IsJustOpened opened
  pub signers : opened.signers ≡ map state_of old.signers.items
  pub outlet : opened.outlet ≡ outlet_state outlet_of old.outlet
  pub site_is : opened.site ≡ site
  pub signers_there : signers_needed (names_in opened.desk_states) ≤ length opened.signers
  pub keys_there : All (λ row. row.signer < length opened.signers)
      (state_after opened.editions).rows
  pub summary_is : IsSummary opened summary
  pub exported : Repeats {O = O} (Ok (not (is_exported opened))) opened begun

-- ---- a run that served its session

abbrev pub streams_of : {S K C : Type 0} → SessionEnds S K C → Streams S K
streams_of ends = record { source = ends.source; sink = ends.sink }

abbrev pub worked_by : {S K C : Type 0} → ClockGhosts C → SessionEnds S K C → KeptValue
    → InstanceState → Worked K
worked_by clock_of ends kept state =
    record { sink = ends.sink; timed = at_clock (clock_of.readings ends.clock) kept state }

-- What a run leaves that opened desks and press, beside its desks. The press's disk holds the editions
-- that it held and those that the run published. Each of these follows those before it where the
-- signatures that were made for them are vouched and those that were found are steps; and where all
-- signers tell what they vouch for, the signatures are among that.
pub record Leaves {D G S K O C : Type 0} (disk_of : DiskGhosts D) (state_of : G → SignerState)
    (outlet_of : OutletGhosts O) (random : List ℕ) (ends : Ends D G O)
    (opened begun ended : InstanceState) (run : RunEnd D G S K O C) : Type 0 where
  pub press : IsPressServed disk_of (session_of random) ends.press run.ends.press begun ended
  pub same_site : ended.site ≡ begun.site
  pub same_session : ended.session ≡ begun.session
  pub same_found : ended.found ≡ begun.found
  pub grown : (made : List Edition) × (ended.editions ≡ begun.editions ++ made)
  pub steps : (vouched : Vouched) → AreVouchedIn vouched ended
      → AreSteps (premises_of vouched ended) ended.editions
  -- with the one in doubt, too, behind which the next run may go on
  pub doubt : (vouched : Vouched) → AreVouchedIn vouched ended → IfSome ended.in_doubt
      (λ edition. AreSteps (premises_of vouched ended) (ended.editions ++ edition ∷ []))
  pub vouch : VouchForCalls begun ended
  pub signers_ended : map state_of run.ends.signers.items ≡ ended.signers
  pub outlet_ended : outlet_state outlet_of run.ends.outlet ≡ ended.outlet
  -- where the files were coherent at first they are so in the end; and in any case where opening
  -- exported an edition
  pub coherent : IsCoherentIn opened → IsCoherentIn ended
  pub coherent_then : begun.editions ≢ [] → IsCoherentIn ended
  -- and where the last edition is exported, the notification is its own
  pub shown : is_exported ended ≡ true → (ended.editions ≡ []) ⊎ ShowsLastIn ended
  -- as it is where the run ended well
  pub well : run.status ≡ 0 → (ended.editions ≡ []) ⊎ ShowsLastIn ended

-- What a run leaves that opened desks and press and changed nothing of them. It is a part of a history,
-- too: behind each legal one that may have left what was found, it is a reopening and no more.
pub record LeavesFound {D G S K O C : Type 0} (disk_of : DiskGhosts D) (state_of : G → SignerState)
    (outlet_of : OutletGhosts O) (random : List ℕ) (ends : Ends D G O)
    (opened begun : InstanceState) (run : RunEnd D G S K O C) : Type 0 where
  pub disks : AreServed disk_of ends.desks.items run.ends.desks.items
      begun.desk_states begun.desk_states
  pub press : IsPressServed disk_of (session_of random) ends.press run.ends.press begun begun
  pub signers_ended : map state_of run.ends.signers.items ≡ begun.signers
  pub outlet_ended : outlet_state outlet_of run.ends.outlet ≡ begun.outlet
  pub coherent : IsCoherentIn opened → IsCoherentIn begun
  pub shown : (begun.editions ≡ []) ⊎ ShowsLastIn begun
  -- no edition takes in more than the desks hold, where those that were found are steps (where the
  -- press's disk tells what it holds, `press.cuts` says so without that)
  pub found_cuts : (vouched : Vouched) → AreVouchedIn vouched begun
      → All (TakesNoMore begun.desk_states) begun.editions
  pub goes_on : (history : History) → MayFind history begun
      → GoesOnAs begun.site history (signatures begun.calls) (work_of begun begun)
  -- and whatever a crash on return leaves is what a reopening behind that may find
  pub crash : (images : ℕ → List ℕ) (image : List ℕ)
      → MayBeLeft disk_of run.ends.desks.items run.ends.press images image
      → IsReopened begun begun images image

-- A run that opened all, served its session over it, exported the last edition again where it wasn't
-- exported, and hands all back. The session's clock was read for its publications alone. A fault of the
-- source or the sink comes only where it failed in this run.
pub record ServesOne {D G S K O C : Type 0} (disk_of : DiskGhosts D) (state_of : G → SignerState)
    (outlet_of : OutletGhosts O) (source_of : SourceGhosts S) (sink_of : SinkGhosts K)
    (clock_of : ClockGhosts C) (site : Bases) (random : List ℕ) (ends : Ends D G O)
    (before : SessionEnds S K C) (run : RunEnd D G S K O C) : Type 0 where
  pub after : SessionEnds S K C
  pub end : SessionEnd
  pub closing : Result Bool (ExportFault O)
  pub opened : InstanceState
  pub begun : InstanceState
  pub served : InstanceState
  pub ended : InstanceState
  pub summary : Summary
  pub handed_back : run.sessions.items ≡ after ∷ []
  pub status : run.status ≡ run_status (end_fault end closing)
  pub fault : run.fault ≡ end_fault end closing
  pub opens : Opens disk_of state_of outlet_of site ends opened begun summary
  pub session : Converses source_of sink_of (streams_of before) (streams_of after) end
      (at_clock (clock_of.readings before.clock) nothing_kept begun)
      (at_clock (clock_of.readings after.clock) run.kept served)
  pub repeats : Repeats closing served ended
  pub disks : AreServed disk_of ends.desks.items run.ends.desks.items
      begun.desk_states ended.desk_states
  pub leaves : Leaves disk_of state_of outlet_of random ends opened begun ended run
  pub published : (vouched : Vouched) → AreVouchedIn vouched ended
      → AreFoundSound (premises_of vouched ended) begun.editions leaves.grown.0
  -- whatever is vouched, also of the one in doubt
  pub cuts : All (TakesNoMore ended.desk_states) (and_doubt leaves.grown.0 ended.in_doubt)
  -- and of those that were found, where they are steps
  pub found_cuts : (vouched : Vouched) → AreVouchedIn vouched ended
      → All (TakesNoMore ended.desk_states) begun.editions
  -- and what the run did, and its signers signed, is a part of a legal history
  pub goes_on : HasPressRoom disk_of run.ends.press ended
      → (history : History) → MayFind history begun
      → GoesOnAs begun.site history (signatures ended.calls) (work_of begun ended)
  -- and whatever a crash on return leaves is what a reopening behind that may find
  pub crash : (images : ℕ → List ℕ) (image : List ℕ)
      → MayBeLeft disk_of run.ends.desks.items run.ends.press images image
      → IsReopened begun ended images image
  pub source_fault : end ≡ SourceFault
      → HasRisen (source_of.fault_count before.source) (source_of.fault_count after.source)
  pub sink_fault : end ≡ SinkFault
      → HasRisen (sink_of.fault_count before.sink) (sink_of.fault_count after.sink)
  pub source_later : source_of.fault_count before.source ≤ source_of.fault_count after.source
  pub sink_later : sink_of.fault_count before.sink ≤ sink_of.fault_count after.sink

-- ---- a run that tells

-- A run that opened all, gave the sink one line on the last edition, and hands all back. No source and
-- no clock was read.
pub record TellsOne {D G S K O C : Type 0} (disk_of : DiskGhosts D) (state_of : G → SignerState)
    (outlet_of : OutletGhosts O) (sink_of : SinkGhosts K) (site : Bases) (random : List ℕ)
    (ends : Ends D G O) (before : SessionEnds S K C) (run : RunEnd D G S K O C) : Type 0 where
  pub after : SessionEnds S K C
  pub opened : InstanceState
  pub begun : InstanceState
  pub summary : Summary
  pub handed_back : run.sessions.items ≡ after ∷ []
  pub kept : run.kept ≡ nothing_kept
  pub status : run.status ≡ run_status run.fault
  pub same_source : after.source ≡ before.source
  pub same_clock : after.clock ≡ before.clock
  pub opens : Opens disk_of state_of outlet_of site ends opened begun summary
  pub tells : Tells sink_of (summary_line summary) run.fault before.sink after.sink
  pub leaves : LeavesFound disk_of state_of outlet_of random ends opened begun run

-- ---- a run of a workload

-- No desk holds a command; or that one is the first that does, and holds so many.
abbrev pub IsFirstHeld : DeskStates → Option (ℕ × ℕ) → Type 0
IsFirstHeld desk_states None = (desk : ℕ) → commands_at desk_states desk ≡ []
IsFirstHeld desk_states (Some found) = (found.1 ≢ 0)
    × (length (commands_at desk_states found.0) ≡ found.1)
    × ((before : ℕ) → before < found.0 → commands_at desk_states before ≡ [])

-- A run that opened all and found that a desk holds a command: no source or clock was read, no sink was
-- given anything, and all is as it was found.
pub record FindsHeld {D G S K O C : Type 0} (disk_of : DiskGhosts D) (state_of : G → SignerState)
    (outlet_of : OutletGhosts O) (site : Bases) (random : List ℕ) (ends : Ends D G O)
    (before : SessionEnds S K C) (run : RunEnd D G S K O C) : Type 0 where
  pub opened : InstanceState
  pub begun : InstanceState
  pub summary : Summary
  pub desk : ℕ
  pub held : ℕ
  pub holds : IsFirstHeld begun.desk_states (Some (desk, held))
  pub untouched : run.sessions.items ≡ before ∷ []
  pub kept : run.kept ≡ nothing_kept
  pub status : run.status ≡ 3
  pub fault : run.fault ≡ Some (faults.NotEmpty desk held)
  pub opens : Opens disk_of state_of outlet_of site ends opened begun summary
  pub leaves : LeavesFound disk_of state_of outlet_of random ends opened begun run

-- A run that opened all, found that no desk holds a command, gave the generated commands, published
-- these and told of that, up to the first of these steps that was refused or failed, and hands all back. No
-- source was read.
pub record WorksOne {D G S K O C : Type 0} (disk_of : DiskGhosts D) (state_of : G → SignerState)
    (outlet_of : OutletGhosts O) (sink_of : SinkGhosts K) (clock_of : ClockGhosts C)
    (authorities : ℕ) (site : Bases) (random : List ℕ) (ends : Ends D G O)
    (before : SessionEnds S K C) (run : RunEnd D G S K O C) : Type 0 where
  pub after : SessionEnds S K C
  pub opened : InstanceState
  pub begun : InstanceState
  pub ended : InstanceState
  pub summary : Summary
  pub result : Result (Unit {0}) (Option RunFault)
  pub empty : IsFirstHeld begun.desk_states None
  pub handed_back : run.sessions.items ≡ after ∷ []
  pub status : run.status ≡ run_status (ended_by result)
  pub fault : run.fault ≡ ended_by result
  pub same_source : after.source ≡ before.source
  pub opens : Opens disk_of state_of outlet_of site ends opened begun summary
  pub works : Works sink_of authorities result
      (worked_by clock_of before nothing_kept begun) (worked_by clock_of after run.kept ended)
  pub disks : AreServed disk_of ends.desks.items run.ends.desks.items
      begun.desk_states ended.desk_states
  pub leaves : Leaves disk_of state_of outlet_of random ends opened begun ended run
  pub published : (vouched : Vouched) → AreVouchedIn vouched ended
      → AreFoundSound (premises_of vouched ended) begun.editions leaves.grown.0
  -- whatever is vouched, also of the one in doubt
  pub cuts : All (TakesNoMore ended.desk_states) (and_doubt leaves.grown.0 ended.in_doubt)
  -- and of those that were found, where they are steps
  pub found_cuts : (vouched : Vouched) → AreVouchedIn vouched ended
      → All (TakesNoMore ended.desk_states) begun.editions
  -- and what the run did, and its signers signed, is a part of a legal history
  pub goes_on : HasPressRoom disk_of run.ends.press ended
      → (history : History) → MayFind history begun
      → GoesOnAs begun.site history (signatures ended.calls) (work_of begun ended)
  -- and whatever a crash on return leaves is what a reopening behind that may find
  pub crash : (images : ℕ → List ℕ) (image : List ℕ)
      → MayBeLeft disk_of run.ends.desks.items run.ends.press images image
      → IsReopened begun ended images image

abbrev pub DoesWork : {D G S K O C : Type 0} → DiskGhosts D → (G → SignerState)
    → OutletGhosts O → SinkGhosts K → ClockGhosts C → ℕ → Bases → List ℕ → Ends D G O
    → SessionEnds S K C → RunEnd D G S K O C → Type 0
DoesWork disk_of state_of outlet_of sink_of clock_of authorities site random ends before run =
    FindsHeld disk_of state_of outlet_of site random ends before run
    ⊎ WorksOne disk_of state_of outlet_of sink_of clock_of authorities site random ends before run
