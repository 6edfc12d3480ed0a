use Rattle.std.proofs.Common.{◌-◌, ◌≤◌, length, take}
use Rattle.std.specs.Io.KnownBytes.{Appends}
use Rattle.krill_top.proofs.summary.give_all.Given as goal

abbrev pub invariant-loop-at : goal.invariant-loop-at
invariant-loop-at g l = record {
  within : l.at ≤ length l.bytes;
  later : g.K.Sink.fault_count l.initial.sink ≤ g.K.Sink.fault_count l.sink;
  given : Appends (g.K.Sink.taken l.initial.sink) (g.K.Sink.taken l.sink) (take l.at l.bytes);
}

abbrev pub decreases-loop-at : goal.decreases-loop-at
decreases-loop-at g l = length l.bytes - l.at
