use Rattle.std.proofs.Common.{◌≡◌, ◌≤◌, ◌+◌, length, take, drop, reverse}
use Rattle.std.specs.Vec.{vec_capacity}
use Rattle.session_lines.specs.inner.Seats.{AreSeated}
use Rattle.session_lines.proofs.running.seat_all.Given as goal

abbrev pub invariant-loop : goal.invariant-loop
invariant-loop g l = record {
  long : length l.sessions.items + l.counter ≡ length l.fn.sessions.items;
  same : length l.passes.items ≡ length l.sessions.items;
  passes : l.passes.items ≡ take (length l.passes.items) l.fn.passes.items;
  passes_room : vec_capacity l.passes ≡ vec_capacity l.fn.passes;
  sessions : l.sessions.items ≡ take (length l.sessions.items) l.fn.sessions.items;
  sessions_room : vec_capacity l.sessions ≡ vec_capacity l.fn.sessions;
  seats : length l.seats.items ≡ l.counter;
  seats_room : vec_capacity l.seats ≡ vec_capacity l.fn.seats;
  sit : AreSeated (drop (length l.sessions.items) l.fn.passes.items) (drop (length l.sessions.items) l.fn.sessions.items) (reverse l.seats.items);
}
