use Rattle.std.proofs.Common.{ℕ, List, [], ◌++◌, arith}
use Rattle.std.proofs.KnownBytes.{Appends-nil, Appends-trans}
use Rattle.std.proofs.lemmas.Result.{err_from_is_err_and, on_ok_weaker, on_err_weaker}
use Rattle.line_loop.proofs.Steps.{batch_start, batch_given, batch_cut}
use Rattle.line_loop.proofs.session.answer_pending.Goals as goal

pub batches-init : goal.batches-init
batches-init g c = record {
  given = ([], Appends-nil (g.K.Sink.taken c.args.sink.now), batch_start g.H.LineHandler.answers c.args.handler.now c.args.window.now);
  empty = c.requires.empty;
  later = omega arith;
}

pub batches-preserved : goal.batches-preserved
batches-preserved g c =
    let w = c.batches.invariant.given in
    let given = c.in_ok-give_all-in-Ok-true.ensures in
    let out : List ℕ = c.answer_batch.new.out.items in
    record {
      given = (
        w.0 ++ out,
        Appends-trans (g.K.Sink.taken c.args.sink.now) (g.K.Sink.taken c.batches.sink) (g.K.Sink.taken c.give_all.new.sink) w.0 out w.1 given.ok,
        batch_given g.H.LineHandler.answers c.args.handler.now c.args.window.now w.0 c.batches.handler c.batches.window out c.answer_batch.new.handler c.answer_batch.new.window w.2 c.in-Ok-true.ensures.batch,
      );
      empty = given.empty;
      later = omega (arith, c.batches.invariant.later, given.later);
    }

pub returns-in_err-give_all-in-Ok-true-clause-err :
    goal.returns-in_err-give_all-in-Ok-true-clause-err
returns-in_err-give_all-in-Ok-true-clause-err g c =
    let w = c.batches.invariant.given in
    let out : List ℕ = c.answer_batch.new.out.items in
    let e = c.in_err-give_all-in-Ok-true.ensures.err in
    let p = err_from_is_err_and c.from_residual.result c.from_residual.ensures.1 in
    rw p.1 (
      w.0 ++ e.0,
      Appends-trans (g.K.Sink.taken c.args.sink.now) (g.K.Sink.taken c.batches.sink) (g.K.Sink.taken c.give_all.new.sink) w.0 e.0 w.1 e.2,
      batch_cut g.H.LineHandler.answers c.args.handler.now c.args.window.now w.0 c.batches.handler c.batches.window out c.answer_batch.new.handler c.answer_batch.new.window e.0 e.1 w.2 c.in-Ok-true.ensures.batch e.3,
    )

pub returns-in-Ok-false-clause-ok : goal.returns-in-Ok-false-clause-ok
returns-in-Ok-false-clause-ok g c =
    let w = c.batches.invariant.given in
    let out : List ℕ = c.answer_batch.new.out.items in
    on_ok_weaker c.give_all-in-Ok-false.result (λ given. (
      w.0 ++ out,
      Appends-trans (g.K.Sink.taken c.args.sink.now) (g.K.Sink.taken c.batches.sink) (g.K.Sink.taken c.give_all-in-Ok-false.new.sink) w.0 out w.1 given,
      batch_given g.H.LineHandler.answers c.args.handler.now c.args.window.now w.0 c.batches.handler c.batches.window out c.answer_batch.new.handler c.answer_batch.new.window w.2 c.in-Ok-false.ensures.batch,
    )) c.give_all-in-Ok-false.ensures.ok

pub returns-in-Ok-false-clause-err : goal.returns-in-Ok-false-clause-err
returns-in-Ok-false-clause-err g c =
    let w = c.batches.invariant.given in
    let out : List ℕ = c.answer_batch.new.out.items in
    on_err_weaker c.give_all-in-Ok-false.result (λ e. (
      w.0 ++ e.0,
      Appends-trans (g.K.Sink.taken c.args.sink.now) (g.K.Sink.taken c.batches.sink) (g.K.Sink.taken c.give_all-in-Ok-false.new.sink) w.0 e.0 w.1 e.2,
      batch_cut g.H.LineHandler.answers c.args.handler.now c.args.window.now w.0 c.batches.handler c.batches.window out c.answer_batch.new.handler c.answer_batch.new.window e.0 e.1 w.2 c.in-Ok-false.ensures.batch e.3,
    )) c.give_all-in-Ok-false.ensures.err

pub returns-in-Err-clause-err : goal.returns-in-Err-clause-err
returns-in-Err-clause-err g c =
    let w = c.batches.invariant.given in
    let out : List ℕ = c.answer_batch.new.out.items in
    let s = c.give_and_stop.ensures.written in (
      w.0 ++ s.0,
      Appends-trans (g.K.Sink.taken c.args.sink.now) (g.K.Sink.taken c.batches.sink) (g.K.Sink.taken c.give_and_stop.new.sink) w.0 s.0 w.1 s.2,
      batch_cut g.H.LineHandler.answers c.args.handler.now c.args.window.now w.0 c.batches.handler c.batches.window out c.answer_batch.new.handler c.answer_batch.new.window s.0 s.1 w.2 c.in-Err.ensures.batch s.3,
    )
