-- Sessions as they take their seats, as they are served, and as they rise again.
use Rattle.std.specs.Prelude.{◌≡◌, ⊤, ℕ, List, [], ◌∷◌}
use Rattle.disk_api.specs.declared.disk.Disk.{Ghosts as DiskGhosts}
use Rattle.line_loop.specs.declared.traits.Source.{Ghosts as SourceGhosts}
use Rattle.line_loop.specs.declared.traits.Sink.{Ghosts as SinkGhosts}
use Rattle.line_loop.specs.declared.traits.Clock.{Ghosts as ClockGhosts}
use Rattle.manager.specs.Passes.{PassValue}
use Rattle.session_lines.specs.Keeping.{nothing_kept}
use Rattle.session_lines.specs.Sessions.{IsServed}
use Rattle.session_lines.specs.declared.running.SessionEnds.{SessionEnds}
use Rattle.session_lines.specs.declared.running.SessionOutcome.{SessionOutcome}
use Rattle.session_lines.specs.declared.serving.ServedSession.{ServedSession}

-- The seat has this pass and these ends, and nothing is kept yet.
pub record IsSeated {N D O S K C : Type 0} (pass : PassValue) (ends : SessionEnds S K C)
    (seat : ServedSession N D O S K C) : Type 0 where
  pub pass_is : seat.handler.pass ≡ pass
  pub clock_is : seat.handler.clock ≡ ends.clock
  pub source_is : seat.source ≡ ends.source
  pub sink_is : seat.sink ≡ ends.sink
  pub kept_is : seat.handler.kept ≡ nothing_kept

-- So each of them, in their order.
abbrev pub AreSeated : {N D O S K C : Type 0} → List PassValue → List (SessionEnds S K C)
    → List (ServedSession N D O S K C) → Type 0
AreSeated [] [] [] = ⊤
AreSeated (pass ∷ passes) (ends ∷ sessions) (seat ∷ seats) =
    IsSeated pass ends seat × AreSeated passes sessions seats
AreSeated passes sessions seats = ⊥

-- Each was served at its seat.
abbrev pub AreServed : {N D O S K C : Type 0} → DiskGhosts D → ℕ → SourceGhosts S → SinkGhosts K
    → ClockGhosts C → List (ServedSession N D O S K C) → List (ServedSession N D O S K C) → Type 0
AreServed disk_of signers source_of sink_of clock_of [] [] = ⊤
AreServed disk_of signers source_of sink_of clock_of (old ∷ olds) (new ∷ news) =
    IsServed disk_of signers source_of sink_of clock_of old new
    × AreServed disk_of signers source_of sink_of clock_of olds news
AreServed disk_of signers source_of sink_of clock_of olds news = ⊥

-- These are the pass and the ends of a seat, what was kept, and how the session ended.
pub record IsRisen {N D O S K C : Type 0} (seat : ServedSession N D O S K C) (pass : PassValue)
    (ends : SessionEnds S K C) (outcome : SessionOutcome D O) : Type 0 where
  pub pass_is : pass ≡ seat.handler.pass
  pub clock_is : ends.clock ≡ seat.handler.clock
  pub source_is : ends.source ≡ seat.source
  pub sink_is : ends.sink ≡ seat.sink
  pub kept_is : outcome.kept ≡ seat.handler.kept
  pub ended_is : outcome.ended ≡ seat.ended

-- So each of them, in their order.
abbrev pub AreRisen : {N D O S K C : Type 0} → List (ServedSession N D O S K C) → List PassValue
    → List (SessionEnds S K C) → List (SessionOutcome D O) → Type 0
AreRisen [] [] [] [] = ⊤
AreRisen (seat ∷ seats) (pass ∷ passes) (ends ∷ sessions) (outcome ∷ outcomes) =
    IsRisen seat pass ends outcome × AreRisen seats passes sessions outcomes
AreRisen seats passes sessions outcomes = ⊥
