use Rattle.std.proofs.Common.{◌≡◌, ℕ, ◌≤◌, List, [], length}
use Rattle.std.specs.Io.KnownBytes.{Appends}
use Rattle.line_loop.specs.Replies.{Answers}
use Rattle.line_loop.specs.inner.Progress.{Advances}
use Rattle.line_loop.proofs.session.answer_pending.Given as goal

abbrev pub invariant-batches : goal.invariant-batches
invariant-batches g l = record {
  given : (written : List ℕ) × Appends (g.K.Sink.taken l.initial.sink) (g.K.Sink.taken l.sink) written
      × Advances (Answers g.H.LineHandler.answers) l.initial.handler l.initial.window written l.handler l.window;
  empty : l.out.items ≡ [];
  later : g.K.Sink.fault_count l.initial.sink ≤ g.K.Sink.fault_count l.sink;
}

abbrev pub decreases-batches : goal.decreases-batches
decreases-batches g l = length l.window.bytes
