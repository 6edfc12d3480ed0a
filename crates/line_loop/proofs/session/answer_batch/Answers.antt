use Rattle.std.proofs.Common.{Bool, List, ℕ, length, ap, sym, subst, arith}
use Rattle.std.proofs.lemmas.Bool.{OnFalse_at}
use Rattle.line_loop.specs.inner.Pending.{Pending}
use Rattle.line_loop.specs.Replies.{AnswersAtMostOne}
use Rattle.line_loop.specs.inner.Progress.{AnswersOne, AnswersQuietly, Advances}
use Rattle.line_loop.proofs.Waiting.{may_wait}
use Rattle.line_loop.proofs.Steps.{quiet_start, quiet_line, quiet_end, last_line}
use Rattle.line_loop.proofs.session.answer_batch.Goals as goal

pub lines-init : goal.lines-init
lines-init g c = record {
  quiet = quiet_start g.H.LineHandler.answers c.args.handler.now c.args.window.now c.args.out.now.items c.requires.empty;
  no_longer = omega arith;
  few = omega (arith, ap (λ (xs : List ℕ). length xs) c.requires.empty, c.args.out.now.ok.0);
  none_waits = λ n first. c.requires.empty;
}

pub returns-in_err-answer_next-clause-batch : goal.returns-in_err-answer_next-clause-batch
returns-in_err-answer_next-clause-batch g c =
    let e = c.in_err-answer_next.ensures.err in
    quiet_end g.H.LineHandler.answers c.args.handler.now c.args.window.now c.lines.out.items c.lines.handler c.lines.window
    c.answer_next.new.out.items c.answer_next.new.handler c.answer_next.new.window c.lines.invariant.quiet e.0 e.1 e.2

pub returns-in-None-clause-batch : goal.returns-in-None-clause-batch
returns-in-None-clause-batch g c =
    let n = rw c.in-None.is at c.in_ok-answer_next.ensures.none in
    quiet_end g.H.LineHandler.answers c.args.handler.now c.args.window.now c.lines.out.items c.lines.handler c.lines.window
    c.answer_next.new.out.items c.answer_next.new.handler c.answer_next.new.window c.lines.invariant.quiet n.1 n.2 n.3

pub returns-then-changes-clause-batch : goal.returns-then-changes-clause-batch
returns-then-changes-clause-batch g c =
    let a = rw c.in-Some.is at c.in_ok-answer_next.ensures.answered in
    last_line g.H.LineHandler.answers c.in-Some.changes c.args.handler.now c.args.window.now c.lines.out.items c.lines.handler c.lines.window
    a.0 c.answer_next.new.out.items c.answer_next.new.handler c.answer_next.new.window c.lines.invariant.quiet a.1 a.2

pub returns-then-next_takes_long-clause-batch : goal.returns-then-next_takes_long-clause-batch
returns-then-next_takes_long-clause-batch g c =
    let a = rw c.in-Some.is at c.in_ok-answer_next.ensures.answered in
    subst (λ (w : Pending). Advances (AnswersAtMostOne g.H.LineHandler.answers) c.args.handler.now c.args.window.now c.answer_next.new.out.items c.answer_next.new.handler w)
    (sym c.next_takes_long.ensures.same)
    (last_line g.H.LineHandler.answers c.in-Some.changes c.args.handler.now c.args.window.now c.lines.out.items c.lines.handler c.lines.window
    a.0 c.answer_next.new.out.items c.answer_next.new.handler c.answer_next.new.window c.lines.invariant.quiet a.1 a.2)

pub lines-preserved : goal.lines-preserved
lines-preserved g c =
    let a = rw c.in-Some.is at c.in_ok-answer_next.ensures.answered in
    let fewer = rw c.in-Some.is at c.in_ok-answer_next.ensures.fewer in
    record {
      quiet = subst (λ (w : Pending). Advances (AnswersQuietly g.H.LineHandler.answers) c.args.handler.now c.args.window.now c.answer_next.new.out.items c.answer_next.new.handler w)
          (sym c.next_takes_long.ensures.same)
          (quiet_line g.H.LineHandler.answers c.args.handler.now c.args.window.now c.lines.out.items c.lines.handler c.lines.window
          a.0 c.answer_next.new.out.items c.answer_next.new.handler c.answer_next.new.window c.lines.invariant.quiet a.1
          (subst (λ (b : Bool). Advances (AnswersOne g.H.LineHandler.answers b) c.lines.handler c.lines.window a.0 c.answer_next.new.handler c.answer_next.new.window) c.if-changes.false a.2));
      no_longer = omega (arith, fewer, c.lines.invariant.no_longer, ap (λ (w : Pending). length w.bytes) c.next_takes_long.ensures.same);
      few = omega (arith, c.len.ensures, c.if-len-ge-REPLIES_LIMIT.false);
      none_waits = may_wait g.H.LineHandler.takes_time c.next_takes_long.new.window c.answer_next.new.out.items (OnFalse_at c.if-next_takes_long.false c.next_takes_long.ensures.quick);
    }
