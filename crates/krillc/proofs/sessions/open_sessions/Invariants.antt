use Rattle.std.proofs.Common.{◌≤◌, length}
use Rattle.krillc.proofs.sessions.open_sessions.Given as goal

-- the standard streams stay
abbrev pub invariant-loop-number : goal.invariant-loop-number
invariant-loop-number l = 1 ≤ length l.sessions.items
