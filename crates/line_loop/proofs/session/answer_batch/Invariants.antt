use Rattle.std.proofs.Common.{◌≤◌, ◌<◌, length, vec_len}
use Rattle.line_loop.specs.inner.Pending.{NoneWaits}
use Rattle.line_loop.specs.inner.Progress.{AnswersQuietly, Advances}
use Rattle.line_loop.proofs.session.answer_batch.Given as goal

abbrev pub invariant-lines : goal.invariant-lines
invariant-lines g l = record {
  quiet : Advances (AnswersQuietly g.H.LineHandler.answers) l.initial.handler l.initial.window l.out.items l.handler l.window;
  no_longer : length l.window.bytes ≤ length l.initial.window.bytes;
  few : vec_len l.out < 65536;
  none_waits : NoneWaits g.H.LineHandler.takes_time l.window l.out.items;
}

abbrev pub decreases-lines : goal.decreases-lines
decreases-lines g l = length l.window.bytes
