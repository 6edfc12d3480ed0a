use Rattle.std.proofs.Common.{◌≡◌, ◌-◌, ◌≤◌, [], length}
use Rattle.line_loop.specs.declared.TheConstants.{SESSION_LIMIT, LINE_LIMIT}
use Rattle.line_loop.specs.inner.Pending.{NoFeed}
use Rattle.line_loop.proofs.Serving.{Serving}
use Rattle.line_loop.proofs.session.serve_lines.Given as goal

abbrev pub invariant-loop-taken : goal.invariant-loop-taken
invariant-loop-taken g l = record {
  serving : Serving g.H.LineHandler.answers l.initial.handler (g.S.Source.left l.initial.source) (g.S.Source.left l.source) (g.K.Sink.taken l.initial.sink) (g.K.Sink.taken l.sink) l.taken l.window l.handler;
  within : l.taken ≤ SESSION_LIMIT;
  none : NoFeed l.window.bytes;
  short : length l.window.bytes ≤ LINE_LIMIT;
  empty : l.out.items ≡ [];
  source_later : g.S.Source.fault_count l.initial.source ≤ g.S.Source.fault_count l.source;
  sink_later : g.K.Sink.fault_count l.initial.sink ≤ g.K.Sink.fault_count l.sink;
}

abbrev pub decreases-loop-taken : goal.decreases-loop-taken
decreases-loop-taken g l = SESSION_LIMIT - l.taken
