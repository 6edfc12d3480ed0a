use Rattle.std.proofs.Common.{◌≡◌}
use Rattle.signer_line.specs.Streams.{inbox_left, inbox_from}
use Rattle.signer_line.proofs.OpeningLemmas.{Skips}
use Rattle.signer_line.proofs.opening.pass_lines.Given as goal

abbrev pub invariant-loop-passed : goal.invariant-loop-passed
invariant-loop-passed g l = record {
  read : Skips (inbox_left g.R.RawReader.left l.initial.from) (inbox_left g.R.RawReader.left l.from) l.passed;
  counted : g.R.RawReader.fault_count (inbox_from l.from) ≡ g.R.RawReader.fault_count (inbox_from l.initial.from);
}
