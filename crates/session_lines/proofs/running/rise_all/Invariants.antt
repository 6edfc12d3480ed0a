use Rattle.std.proofs.Common.{◌≡◌, ◌+◌, length, reverse}
use Rattle.std.specs.Vec.{vec_capacity}
use Rattle.session_lines.proofs.Seating.{RisenSoFar}
use Rattle.session_lines.proofs.running.rise_all.Given as goal

abbrev pub invariant-loop : goal.invariant-loop
invariant-loop g l = record {
  long : length l.seats.items + l.counter ≡ length l.fn.seats.items;
  passes : length l.passes.items ≡ l.counter;
  passes_room : vec_capacity l.passes ≡ vec_capacity l.fn.passes;
  sessions : length l.sessions.items ≡ l.counter;
  sessions_room : vec_capacity l.sessions ≡ vec_capacity l.fn.sessions;
  outcomes : length l.outcomes.items ≡ l.counter;
  outcomes_room : vec_capacity l.outcomes ≡ vec_capacity l.fn.outcomes;
  risen : RisenSoFar (reverse l.fn.seats.items) (reverse l.seats.items) l.passes.items l.sessions.items l.outcomes.items;
}
