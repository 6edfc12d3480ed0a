use Rattle.std.proofs.Common.{◌+◌, [], ◌++◌, sym, ◌∙◌, subst, inr, arith}
use Rattle.std.specs.Io.KnownBytes.{IsAtEnd}
use Rattle.std.proofs.KnownBytes.{Appends-nil, Appends-trans, Consumes-nil, Consumes-kept}
use Rattle.line_loop.specs.declared.session.SessionEnd.{SessionEnd}
use Rattle.line_loop.specs.Session.{Serves}
use Rattle.line_loop.proofs.Tails.{shortened_no_feed, shortened_is_short}
use Rattle.line_loop.proofs.Progress.{Reaches-start, BreaksOff-none}
use Rattle.line_loop.proofs.Serving.{serving_filled, serving_answered, serving_shortened, serving_ended, serving_all, serving_none, serving_broken, serving_broken_last, stopped, none_came}
use Rattle.line_loop.proofs.session.serve_lines.Goals as goal

pub returns-in_default-clause-session : goal.returns-in_default-clause-session
returns-in_default-clause-session g c =
    let handler = c.args.handler.now in (
      [],
      [],
      Consumes-nil (g.S.Source.left c.args.source.now),
      Appends-nil (g.K.Sink.taken c.args.sink.now),
      (omega arith, inr (BreaksOff-none g.H.LineHandler.answers handler [] [] [] handler (Reaches-start g.H.LineHandler.answers handler []))),
    )

pub returns-in-Err-clause-session : goal.returns-in-Err-clause-session
returns-in-Err-clause-session g c =
    let o = c.in-Ok-eq0.ensures.ok.1 in
    let e = c.in-Err.ensures.err in
    let f = serving_filled g.H.LineHandler.answers c.args.handler.now (g.S.Source.left c.args.source.now) (g.K.Sink.taken c.args.sink.now)
    (g.S.Source.left c.loop-taken.source) (g.K.Sink.taken c.loop-taken.sink) c.loop-taken.taken c.loop-taken.window c.loop-taken.handler
    (g.S.Source.left c.fill.new.source) c.in-Ok-eq0.field-0 c.fill.new.self o.0 c.loop-taken.invariant.serving o.1 o.2 o.3 c.in-Ok-eq0.ensures.skips in
    let at_end = IsAtEnd (g.S.Source.left c.fill.new.source) in (
      f.given,
      f.written ++ e.0,
      f.from_source,
      Appends-trans (g.K.Sink.taken c.args.sink.now) (g.K.Sink.taken c.loop-taken.sink) (g.K.Sink.taken c.finish.new.sink) f.written e.0 f.to_sink e.1,
      subst (λ (end : SessionEnd). Serves g.H.LineHandler.answers c.args.handler.now f.given at_end (f.written ++ e.0) c.finish.new.handler end) (sym c.end_after.ensures)
          (stopped g.H.LineHandler.answers c.args.handler.now f.given at_end (f.written ++ e.0) c.finish.new.handler c.in-Err.stop
          (serving_broken_last g.H.LineHandler.answers c.args.handler.now (g.S.Source.left c.args.source.now) (g.K.Sink.taken c.args.sink.now)
          (g.S.Source.left c.fill.new.source) (g.K.Sink.taken c.loop-taken.sink) (c.loop-taken.taken + c.in-Ok-eq0.field-0) c.fill.new.self c.loop-taken.handler f
          at_end e.0 c.finish.new.handler (c.in-Ok-eq0.ensures.end c.in-Ok-eq0.field-0-test) (omega (arith, c.in-Ok-eq0.ensures.ok.0))
          (none_came c.loop-taken.window.bytes c.fill.new.self.bytes o.0 o.3 (o.1 ∙ c.in-Ok-eq0.field-0-test) c.loop-taken.invariant.none) e.2)),
    )

pub returns-in-Ok-eq0-clause-session : goal.returns-in-Ok-eq0-clause-session
returns-in-Ok-eq0-clause-session g c =
    let o = c.in-Ok-eq0.ensures.ok.1 in
    let last = c.in_default-finish.ensures.ok in
    let f = serving_filled g.H.LineHandler.answers c.args.handler.now (g.S.Source.left c.args.source.now) (g.K.Sink.taken c.args.sink.now)
    (g.S.Source.left c.loop-taken.source) (g.K.Sink.taken c.loop-taken.sink) c.loop-taken.taken c.loop-taken.window c.loop-taken.handler
    (g.S.Source.left c.fill.new.source) c.in-Ok-eq0.field-0 c.fill.new.self o.0 c.loop-taken.invariant.serving o.1 o.2 o.3 c.in-Ok-eq0.ensures.skips in (
      f.given,
      f.written ++ last.0,
      f.from_source,
      Appends-trans (g.K.Sink.taken c.args.sink.now) (g.K.Sink.taken c.loop-taken.sink) (g.K.Sink.taken c.finish.new.sink) f.written last.0 f.to_sink last.2,
      (
        c.in-Ok-eq0.ensures.end c.in-Ok-eq0.field-0-test,
        omega (arith, f.count_is),
        serving_all g.H.LineHandler.answers c.args.handler.now (g.S.Source.left c.args.source.now) (g.K.Sink.taken c.args.sink.now)
            (g.S.Source.left c.fill.new.source) (g.K.Sink.taken c.loop-taken.sink) (c.loop-taken.taken + c.in-Ok-eq0.field-0) c.fill.new.self c.loop-taken.handler f
            last.0 last.1 c.finish.new.handler
            (none_came c.loop-taken.window.bytes c.fill.new.self.bytes o.0 o.3 (o.1 ∙ c.in-Ok-eq0.field-0-test) c.loop-taken.invariant.none) last.3,
      ),
    )

pub returns-in-Err-answer_pending-clause-session : goal.returns-in-Err-answer_pending-clause-session
returns-in-Err-answer_pending-clause-session g c =
    let o = c.in-Ok-fill.ensures.ok.1 in
    let e = c.in-Err-answer_pending.ensures.err in
    let f = serving_filled g.H.LineHandler.answers c.args.handler.now (g.S.Source.left c.args.source.now) (g.K.Sink.taken c.args.sink.now)
    (g.S.Source.left c.loop-taken.source) (g.K.Sink.taken c.loop-taken.sink) c.loop-taken.taken c.loop-taken.window c.loop-taken.handler
    (g.S.Source.left c.fill.new.source) c.in-Ok-fill.n c.fill.new.self o.0 c.loop-taken.invariant.serving o.1 o.2 o.3 c.in-Ok-fill.ensures.skips in
    let at_end = IsAtEnd (g.S.Source.left c.fill.new.source) in (
      f.given,
      f.written ++ e.0,
      f.from_source,
      Appends-trans (g.K.Sink.taken c.args.sink.now) (g.K.Sink.taken c.loop-taken.sink) (g.K.Sink.taken c.answer_pending.new.sink) f.written e.0 f.to_sink e.1,
      subst (λ (end : SessionEnd). Serves g.H.LineHandler.answers c.args.handler.now f.given at_end (f.written ++ e.0) c.answer_pending.new.handler end) (sym c.end_after-in-Err-answer_pending.ensures)
          (stopped g.H.LineHandler.answers c.args.handler.now f.given at_end (f.written ++ e.0) c.answer_pending.new.handler c.in-Err-answer_pending.stop
          (serving_broken g.H.LineHandler.answers c.args.handler.now (g.S.Source.left c.args.source.now) (g.K.Sink.taken c.args.sink.now)
          (g.S.Source.left c.fill.new.source) (g.K.Sink.taken c.loop-taken.sink) (c.loop-taken.taken + c.in-Ok-fill.n) c.fill.new.self c.loop-taken.handler f
          at_end e.0 c.answer_pending.new.handler (omega (arith, c.in-Ok-fill.ensures.ok.0)) e.2)),
    )

pub loop-taken-preserved : goal.loop-taken-preserved
loop-taken-preserved g c =
    let o = c.in-Ok-fill.ensures.ok.1 in
    let a = c.in_default-answer_pending.ensures in
    let f = serving_filled g.H.LineHandler.answers c.args.handler.now (g.S.Source.left c.args.source.now) (g.K.Sink.taken c.args.sink.now)
    (g.S.Source.left c.loop-taken.source) (g.K.Sink.taken c.loop-taken.sink) c.loop-taken.taken c.loop-taken.window c.loop-taken.handler
    (g.S.Source.left c.fill.new.source) c.in-Ok-fill.n c.fill.new.self o.0 c.loop-taken.invariant.serving o.1 o.2 o.3 c.in-Ok-fill.ensures.skips in
    record {
      serving = serving_shortened g.H.LineHandler.answers c.args.handler.now (g.S.Source.left c.args.source.now) (g.K.Sink.taken c.args.sink.now)
          (g.S.Source.left c.fill.new.source) (g.K.Sink.taken c.answer_pending.new.sink) (c.loop-taken.taken + c.in-Ok-fill.n) c.answer_pending.new.window c.shorten.new.self c.answer_pending.new.handler
          (serving_answered g.H.LineHandler.answers c.args.handler.now (g.S.Source.left c.args.source.now) (g.K.Sink.taken c.args.sink.now)
          (g.S.Source.left c.fill.new.source) (g.K.Sink.taken c.loop-taken.sink) (c.loop-taken.taken + c.in-Ok-fill.n) c.fill.new.self c.loop-taken.handler
          (g.K.Sink.taken c.answer_pending.new.sink) c.answer_pending.new.window a.ok.0 c.answer_pending.new.handler f a.ok.1 a.ok.2)
          c.shorten.ensures a.none;
      within = omega (arith, c.in-Ok-fill.ensures.ok.0);
      none = shortened_no_feed c.answer_pending.new.window c.shorten.new.self c.shorten.ensures a.none;
      short = shortened_is_short c.answer_pending.new.window c.shorten.new.self c.shorten.ensures;
      empty = a.empty;
      source_later = omega (arith, c.loop-taken.invariant.source_later, c.in-Ok-fill.ensures.later);
      sink_later = omega (arith, c.loop-taken.invariant.sink_later, a.later);
    }

pub returns-in-Err-Fault-clause-session : goal.returns-in-Err-Fault-clause-session
returns-in-Err-Fault-clause-session g c =
    let s = c.loop-taken.invariant.serving in (
      s.given,
      s.written,
      Consumes-kept (g.S.Source.left c.args.source.now) (g.S.Source.left c.loop-taken.source) (g.S.Source.left c.fill.new.source) s.given s.from_source c.in-Err-Fault.ensures.err.1,
      s.to_sink,
      (omega (arith, s.count_is), serving_ended g.H.LineHandler.answers c.args.handler.now _ _ _ _ _ c.loop-taken.window c.loop-taken.handler s c.loop-taken.invariant.none),
    )

pub returns-in-Err-Memory-clause-session : goal.returns-in-Err-Memory-clause-session
returns-in-Err-Memory-clause-session g c =
    let s = c.loop-taken.invariant.serving in (
      s.given,
      s.written,
      Consumes-kept (g.S.Source.left c.args.source.now) (g.S.Source.left c.loop-taken.source) (g.S.Source.left c.fill.new.source) s.given s.from_source c.in-Err-Memory.ensures.err.1,
      s.to_sink,
      serving_none g.H.LineHandler.answers c.args.handler.now _ _ _ _ _ c.loop-taken.window c.loop-taken.handler s _ (omega (arith, c.loop-taken.invariant.within)),
    )

pub returns-clause-session : goal.returns-clause-session
returns-clause-session g c =
    let s = c.loop-taken.invariant.serving in (
      s.given,
      s.written,
      s.from_source,
      s.to_sink,
      (omega (arith, s.count_is, c.loop-taken.invariant.within), omega (arith, c.loop-taken.invariant.within), serving_ended g.H.LineHandler.answers c.args.handler.now _ _ _ _ _ c.loop-taken.window c.loop-taken.handler s c.loop-taken.invariant.none),
    )
