-- What a session leaves at each of its ends.
use Rattle.std.specs.Prelude.{◌≡◌, ◌⊎◌, ℕ, Bool, ◌^◌, ◌<◌, ◌≤◌, List, length}
use Rattle.line_loop.specs.declared.session.SessionEnd.{SessionEnd}
use Rattle.line_loop.specs.declared.session.SessionEnd.TheVariants.{End, SourceFault, SinkFault, Spent, Memory}
use Rattle.line_loop.specs.declared.traits.SinkStop.{SinkStop}
use Rattle.line_loop.specs.declared.traits.SinkStop.TheVariants as stops
use Rattle.line_loop.specs.Lines.{all_lines, ended_lines}
use Rattle.line_loop.specs.Replies.{Answers, BreaksOff}

-- How many bytes a session takes at most.
abbrev pub session_limit : ℕ
session_limit = 2 ^ 40

-- The replies break off. Only where nothing is left of the source may the last line, which no line feed
-- ended, have been answered.
abbrev pub Breaks : {H : Type 0} → (H → List ℕ → List ℕ → Bool → H → Type 0) → H → List ℕ → Type 0 → List ℕ → H → Type 0
Breaks answers old given at_end written new =
    (length given ≤ session_limit) × ((at_end × BreaksOff answers old (all_lines given) written new) ⊎ BreaksOff answers old (ended_lines given) written new)

-- The source gave these bytes, the sink took those that were written, and the session ended so. at_end
-- says that nothing is left of the source.
abbrev pub Serves : {H : Type 0} → (H → List ℕ → List ℕ → Bool → H → Type 0) → H → List ℕ → Type 0 → List ℕ → H → SessionEnd → Type 0
-- each line was answered, the last too
Serves answers old given at_end written new End =
    at_end × (length given < session_limit) × Answers answers old (all_lines given) written new
-- each line that a line feed ended was answered
Serves answers old given at_end written new SourceFault =
    (length given < session_limit) × Answers answers old (ended_lines given) written new
Serves answers old given at_end written new (Spent bytes) =
    (length given ≡ session_limit) × (bytes ≡ session_limit) × Answers answers old (ended_lines given) written new
-- the replies break off
Serves answers old given at_end written new SinkFault = Breaks answers old given at_end written new
Serves answers old given at_end written new Memory = Breaks answers old given at_end written new

-- how a session ends whose sink stopped
abbrev pub end_of : SinkStop → SessionEnd
end_of stops.Fault = SinkFault
end_of stops.Memory = Memory
