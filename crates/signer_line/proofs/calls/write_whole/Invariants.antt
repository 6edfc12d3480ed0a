use Rattle.std.proofs.Common.{◌≡◌, ◌≤◌, ◌-◌, length, take}
use Rattle.std.specs.Io.KnownBytes.{Appends}
use Rattle.signer_line.proofs.calls.write_whole.Given as goal

abbrev pub invariant-pieces : goal.invariant-pieces
invariant-pieces g l = record {
  within : l.at ≤ length l.fn.bytes;
  sent : Appends (g.W.RawWriter.taken l.fn.to) (g.W.RawWriter.taken l.to) (take l.at l.fn.bytes);
  counted : g.W.RawWriter.fault_count l.to ≡ g.W.RawWriter.fault_count l.fn.to;
}

abbrev pub decreases-pieces : goal.decreases-pieces
decreases-pieces g l = length l.fn.bytes - l.at
