use Rattle.std.proofs.Common.{◌≡◌, take, length}
use Rattle.std.specs.Io.KnownBytes.{Consumes}
use Rattle.signer_line.specs.Lines.{NoFeed}
use Rattle.signer_line.specs.Streams.{inbox_left, inbox_from}
use Rattle.signer_line.proofs.line.receive.Given as goal

abbrev pub invariant-loop-len : goal.invariant-loop-len
invariant-loop-len g l = record {
  read : Consumes (inbox_left g.R.RawReader.left l.initial.from) (inbox_left g.R.RawReader.left l.from) (take l.len l.bytes);
  long : length l.bytes ≡ 1058;
  whole : NoFeed (take l.len l.bytes);
  counted : g.R.RawReader.fault_count (inbox_from l.from) ≡ g.R.RawReader.fault_count (inbox_from l.initial.from);
}
