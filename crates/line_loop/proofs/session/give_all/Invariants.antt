use Rattle.std.proofs.Common.{◌-◌, ◌≤◌, take, vec_len}
use Rattle.std.specs.Io.KnownBytes.{Appends}
use Rattle.line_loop.proofs.session.give_all.Given as goal

abbrev pub invariant-loop-at : goal.invariant-loop-at
invariant-loop-at g l = record {
  within : l.at ≤ vec_len l.out;
  later : g.K.Sink.fault_count l.initial.sink ≤ g.K.Sink.fault_count l.sink;
  given : Appends (g.K.Sink.taken l.initial.sink) (g.K.Sink.taken l.sink) (take l.at l.out.items);
}

abbrev pub decreases-loop-at : goal.decreases-loop-at
decreases-loop-at g l = vec_len l.out - l.at
