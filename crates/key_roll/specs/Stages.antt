-- The stages of a key rollover, and the table by which an edition goes from one to the next (RFC
-- 6489 section 2).
use Rattle.std.specs.Prelude.{ℕ, ◌+◌, ◌<◌, ◌≤◌, Bool, true, false, ◌&&◌, nat_lt, nat_le, if◌then◌else◌}
use Rattle.key_roll.specs.declared.stages.Stage.{Stage}
use Rattle.key_roll.specs.declared.stages.Stage.TheVariants.{Steady, Staged, Retiring}
use Rattle.key_roll.specs.declared.stages.StepEnd.{StepEnd}

-- How long a new key stands beside the current one, at least, before it takes its place: a day.
abbrev pub staging_period : ℕ
staging_period = 86400

-- A rollover begins: the authority was told to begin more of them than are done.
abbrev pub is_begun : ℕ → ℕ → Bool
is_begun inits done = nat_lt done inits

-- The new key, which was made at that moment, takes the place of the current one: the authority
-- was told to activate more rollovers than are done, and the staging period is over.
abbrev pub is_activated : ℕ → ℕ → ℕ → ℕ → Bool
is_activated activates done since moment =
    nat_lt done activates && nat_le (since + staging_period) moment

-- The same as a statement, of any stage.
abbrev pub MayActivate : Stage → ℕ → ℕ → ℕ → Type 0
MayActivate Steady activates done moment = ⊥
MayActivate (Staged since) activates done moment =
    (done < activates) × (since + staging_period ≤ moment)
MayActivate Retiring activates done moment = ⊥

-- The moment at which the new key of a stage was made, and 0 where none waits.
abbrev pub since_of : Stage → ℕ
since_of Steady = 0
since_of (Staged since) = since
since_of Retiring = 0

-- ---- what becomes of an authority's keys

-- Nothing does: the authority stays in its stage.
abbrev pub stays : Stage → ℕ → StepEnd
stays stage done =
    record { stage = stage; done = done; made = false; activated = false; dropped = false }

-- A new key is made at the moment.
abbrev pub begins : ℕ → ℕ → StepEnd
begins moment done = record (stays (Staged moment) done) { made = true }

-- The new key becomes the current one, and the current one old. One more rollover is done.
abbrev pub activates : ℕ → StepEnd
activates done = record (stays Retiring (done + 1)) { activated = true }

-- The old key is dropped.
abbrev pub ends : ℕ → StepEnd
ends done = record (stays Steady done) { dropped = true }

-- The table: what an edition at the moment makes of an authority in the stage, which was told to
-- begin and to activate so many rollovers, and of which so many are done.
abbrev pub step_of : Stage → ℕ → ℕ → ℕ → ℕ → StepEnd
step_of Steady begun activated done moment =
    if is_begun begun done then begins moment done else stays Steady done
step_of (Staged since) begun activated done moment =
    if is_activated activated done since moment then activates done else stays (Staged since) done
step_of Retiring begun activated done moment = ends done
