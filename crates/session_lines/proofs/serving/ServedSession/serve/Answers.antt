use Rattle.std.proofs.Common.{refl}
use Rattle.session_lines.proofs.serving.ServedSession.serve.Goals as goal

pub returns : goal.returns
returns g c = record {
  end = c.serve.result;
  ended = refl;
  session = c.serve.ensures.session;
  source_fault = c.serve.ensures.source_fault;
  sink_fault = c.serve.ensures.sink_fault;
  source_later = c.serve.ensures.source_later;
  sink_later = c.serve.ensures.sink_later;
}
