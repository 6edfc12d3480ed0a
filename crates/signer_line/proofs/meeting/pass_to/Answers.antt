use Rattle.std.proofs.Common.{refl}
use Rattle.signer_line.proofs.MeetingLemmas.{starts}
use Rattle.signer_line.proofs.meeting.pass_to.Goals as goal

pub loop-passed-init : goal.loop-passed-init
loop-passed-init g c = record {
  low = c.requires;
  read = starts _ _;
  counted = refl;
}
