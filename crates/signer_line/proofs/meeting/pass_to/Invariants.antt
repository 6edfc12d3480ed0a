use Rattle.std.proofs.Common.{◌≡◌, ◌<◌, length}
use Rattle.signer_line.specs.Streams.{inbox_left, inbox_from}
use Rattle.signer_line.proofs.MeetingLemmas.{Passes}
use Rattle.signer_line.proofs.meeting.pass_to.Given as goal

abbrev pub invariant-loop-passed : goal.invariant-loop-passed
invariant-loop-passed g l = record {
  low : l.matched < length l.line;
  read : Passes (inbox_left g.R.RawReader.left l.initial.from) (inbox_left g.R.RawReader.left l.from) l.line l.passed l.matched;
  counted : g.R.RawReader.fault_count (inbox_from l.from) ≡ g.R.RawReader.fault_count (inbox_from l.initial.from);
}
