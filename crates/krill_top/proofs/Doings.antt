-- What is done with so many sessions.
use Rattle.std.proofs.Common.{◌≡◌, ◌≢◌, ◌≤◌, ℕ, Bool, true, false, List, [], ◌∷◌, length, refl, sym, subst, arith}
use Rattle.std.specs.Prelude.{None, Some, nat_lt, not, ◌==◌, ◌||◌, if◌then◌else◌}
use Rattle.std.proofs.lemmas.Bool.{eqb-true, or_parts}
use Rattle.std.proofs.lemmas.Bool.Decides.{nat_tests}
use Rattle.disk_api.specs.declared.disk.Disk.{Ghosts as DiskGhosts}
use Rattle.outlet_api.specs.declared.outlet.Outlet.{Ghosts as OutletGhosts}
use Rattle.line_loop.specs.declared.traits.Source.{Ghosts as SourceGhosts}
use Rattle.line_loop.specs.declared.traits.Sink.{Ghosts as SinkGhosts}
use Rattle.line_loop.specs.declared.traits.Clock.{Ghosts as ClockGhosts}
use Rattle.signer_api.specs.State.{SignerState}
use Rattle.key_ids.specs.Uris.{Bases}
use Rattle.session_lines.specs.declared.running.SessionEnds.{SessionEnds}
use Rattle.krill_top.specs.declared.ends.Ends.{Ends}
use Rattle.krill_top.specs.declared.faults.RunFault.{RunFault}
use Rattle.krill_top.specs.declared.running.RunEnd.{RunEnd}
use Rattle.krill_top.specs.declared.words.Doing.{Doing}
use Rattle.krill_top.specs.declared.words.Doing.TheVariants.{Run, Audit, Workload}
use Rattle.krill_top.specs.Run.{wrong_sessions}
use Rattle.krill_top.specs.Runs.{DoesOne, DoesMany, Does}
use Rattle.krill_top.specs.SharedRuns.{ServesMany}

none_first : (b : Bool) (fault : RunFault) → (if b then Some fault else None) ≡ None → b ≡ false
none_first true fault is = absurd (cc)
none_first false fault is = refl

none_second : (b : Bool) (fault : RunFault) → (if not b then Some fault else None) ≡ None → b ≡ true
none_second true fault is = refl
none_second false fault is = absurd (cc)

-- only `run` takes another number of sessions than one
pub many_run : (doing : Doing) (sessions : ℕ) → wrong_sessions doing sessions ≡ None → sessions ≢ 1 → doing ≡ Run
many_run Run sessions is many = refl
many_run Audit sessions is many = absurd (many (eqb-true sessions 1 (none_second (sessions == 1) _ is)))
many_run (Workload authorities) sessions is many = absurd (many (eqb-true sessions 1 (none_second (sessions == 1) _ is)))

-- and no more than eight
pub many_fit : (sessions : ℕ) → wrong_sessions Run sessions ≡ None → sessions ≤ 8
many_fit sessions is =
    let within : nat_lt 8 sessions ≡ false = (or_parts (sessions == 0) (nat_lt 8 sessions) (none_first ((sessions == 0) || nat_lt 8 sessions) _ is)).1 in
    grind (arith, nat_tests)

-- and at least one
pub many_there : (doing : Doing) (sessions : ℕ) → wrong_sessions doing sessions ≡ None → sessions ≢ 0
many_there Run sessions is none =
    let there : (sessions == 0) ≡ false = (or_parts (sessions == 0) (nat_lt 8 sessions) (none_first ((sessions == 0) || nat_lt 8 sessions) _ is)).0 in
    grind (arith, nat_tests)
many_there Audit sessions is none =
    let one : sessions ≡ 1 = eqb-true sessions 1 (none_second (sessions == 1) _ is) in omega (arith, one, none)
many_there (Workload authorities) sessions is none =
    let one : sessions ≡ 1 = eqb-true sessions 1 (none_second (sessions == 1) _ is) in omega (arith, one, none)

module _ {D G S K O C : Type 0} (disk_of : DiskGhosts D) (state_of : G → SignerState) (outlet_of : OutletGhosts O) (source_of : SourceGhosts S) (sink_of : SinkGhosts K) (clock_of : ClockGhosts C)
    (site : Bases) (random : List ℕ) (ends : Ends D G O) (run : RunEnd D G S K O C) where
  pub does_one : (doing : Doing) (sessions : List (SessionEnds S K C)) → length sessions ≡ 1
      → ((before : SessionEnds S K C) → sessions ≡ before ∷ [] → DoesOne disk_of state_of outlet_of source_of sink_of clock_of doing site random ends before run)
      → Does disk_of state_of outlet_of source_of sink_of clock_of doing site random ends sessions run
  does_one doing [] one does = absurd (omega (arith, one))
  does_one doing (before ∷ []) one does = does before refl
  does_one doing (before ∷ other ∷ sessions) one does = absurd (omega (arith, one))

  pub does_many : (doing : Doing) (sessions : List (SessionEnds S K C)) → length sessions ≢ 0 → length sessions ≢ 1 → doing ≡ Run
      → ServesMany disk_of state_of outlet_of source_of sink_of clock_of site random ends sessions run
      → Does disk_of state_of outlet_of source_of sink_of clock_of doing site random ends sessions run
  does_many doing [] there many is serves = absurd (there refl)
  does_many doing (before ∷ []) there many is serves = absurd (many refl)
  does_many doing (before ∷ other ∷ sessions) there many is serves =
      subst (λ (d : Doing). DoesMany disk_of state_of outlet_of source_of sink_of clock_of d site random ends (before ∷ other ∷ sessions) run) (sym is) serves
