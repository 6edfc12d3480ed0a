-- What a run comes to, by what its words ask for.
use Rattle.std.specs.Prelude.{◌⊎◌, ℕ, List, [], ◌∷◌, Option, None, Some, length}
use Rattle.disk_api.specs.declared.disk.Disk.{Ghosts as DiskGhosts}
use Rattle.outlet_api.specs.declared.outlet.Outlet.{Ghosts as OutletGhosts}
use Rattle.line_loop.specs.declared.traits.Source.{Ghosts as SourceGhosts}
use Rattle.line_loop.specs.declared.traits.Sink.{Ghosts as SinkGhosts}
use Rattle.line_loop.specs.declared.traits.Clock.{Ghosts as ClockGhosts}
use Rattle.signer_api.specs.State.{SignerState}
use Rattle.key_ids.specs.Uris.{Bases}
use Rattle.session_lines.specs.declared.running.SessionEnds.{SessionEnds}
use Rattle.krill_top.specs.declared.ends.Ends.{Ends}
use Rattle.krill_top.specs.declared.faults.RunFault.{RunFault}
use Rattle.krill_top.specs.declared.running.RunEnd.{RunEnd}
use Rattle.krill_top.specs.declared.words.Doing.{Doing}
use Rattle.krill_top.specs.declared.words.Doing.TheVariants.{Run, Audit, Workload}
use Rattle.krill_top.specs.Words.{AskedValue, bases_of}
use Rattle.krill_top.specs.Session.{session_of}
use Rattle.krill_top.specs.Run.{IsRefusedRun, IsRefusedAtOpening, ServesOne, TellsOne, DoesWork, miscounted}
use Rattle.krill_top.specs.SharedRuns.{ServesMany}

-- What is done with one session.
abbrev pub DoesOne : {D G S K O C : Type 0} → DiskGhosts D → (G → SignerState) → OutletGhosts O
    → SourceGhosts S → SinkGhosts K → ClockGhosts C → Doing → Bases → List ℕ → Ends D G O
    → SessionEnds S K C → RunEnd D G S K O C → Type 0
DoesOne disk_of state_of outlet_of source_of sink_of clock_of Run site random ends before run =
    ServesOne disk_of state_of outlet_of source_of sink_of clock_of site random ends before run
DoesOne disk_of state_of outlet_of source_of sink_of clock_of Audit site random ends before run =
    TellsOne disk_of state_of outlet_of sink_of site random ends before run
DoesOne disk_of state_of outlet_of source_of sink_of clock_of (Workload authorities) site random ends
    before run =
    DoesWork disk_of state_of outlet_of sink_of clock_of authorities site random ends before run

-- What is done with several: only `run` takes as many.
abbrev pub DoesMany : {D G S K O C : Type 0} → DiskGhosts D → (G → SignerState) → OutletGhosts O
    → SourceGhosts S → SinkGhosts K → ClockGhosts C → Doing → Bases → List ℕ → Ends D G O
    → List (SessionEnds S K C) → RunEnd D G S K O C → Type 0
DoesMany disk_of state_of outlet_of source_of sink_of clock_of Run site random ends before run =
    ServesMany disk_of state_of outlet_of source_of sink_of clock_of site random ends before run
DoesMany disk_of state_of outlet_of source_of sink_of clock_of other site random ends before run = ⊥

-- What is done where the words ask for it. Without a session nothing is.
abbrev pub Does : {D G S K O C : Type 0} → DiskGhosts D → (G → SignerState) → OutletGhosts O
    → SourceGhosts S → SinkGhosts K → ClockGhosts C → Doing → Bases → List ℕ → Ends D G O
    → List (SessionEnds S K C) → RunEnd D G S K O C → Type 0
Does disk_of state_of outlet_of source_of sink_of clock_of doing site random ends [] run = ⊥
Does disk_of state_of outlet_of source_of sink_of clock_of doing site random ends (before ∷ []) run =
    DoesOne disk_of state_of outlet_of source_of sink_of clock_of doing site random ends before run
Does disk_of state_of outlet_of source_of sink_of clock_of doing site random ends sessions run =
    DoesMany disk_of state_of outlet_of source_of sink_of clock_of doing site random ends sessions run

-- A run by these words: what is wrong in number, or it was refused at opening, or did what they ask for.
abbrev pub RunsBy : {D G S K O C : Type 0} → DiskGhosts D → (G → SignerState) → OutletGhosts O
    → SourceGhosts S → SinkGhosts K → ClockGhosts C → AskedValue → List ℕ → Ends D G O
    → List (SessionEnds S K C) → RunEnd D G S K O C → Option RunFault → Type 0
RunsBy disk_of state_of outlet_of source_of sink_of clock_of asked random ends sessions run
    (Some fault) = IsRefusedRun ends sessions fault run
RunsBy disk_of state_of outlet_of source_of sink_of clock_of asked random ends sessions run None =
    IsRefusedAtOpening disk_of state_of outlet_of (bases_of asked) (session_of random) ends sessions run
    ⊎ Does disk_of state_of outlet_of source_of sink_of clock_of asked.doing (bases_of asked) random
    ends sessions run

abbrev pub RunsAs : {D G S K O C : Type 0} → DiskGhosts D → (G → SignerState) → OutletGhosts O
    → SourceGhosts S → SinkGhosts K → ClockGhosts C → AskedValue → List ℕ → Ends D G O
    → List (SessionEnds S K C) → RunEnd D G S K O C → Type 0
RunsAs disk_of state_of outlet_of source_of sink_of clock_of asked random ends sessions run =
    RunsBy disk_of state_of outlet_of source_of sink_of clock_of asked random ends sessions run
    (miscounted asked.doing (length sessions) (length ends.desks.items) (length ends.signers.items))
