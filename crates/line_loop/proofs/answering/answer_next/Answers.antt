use Rattle.line_loop.proofs.Steps.{line_answered}
use Rattle.line_loop.proofs.answering.answer_next.Goals as goal

pub returns-clause-answered : goal.returns-clause-answered
returns-clause-answered g c =
    let o = c.in_ok-changes.ensures.ok in (
      o.0,
      o.1,
      line_answered g.H.LineHandler.answers c.in_ok-changes.changes c.args.handler.now c.find_line.new.self c.args.window.now c.drop_line.new.self c.in-Some.n o.0 c.answer_line.new.handler
          c.find_line.ensures.same c.in-Some.ensures.found o.2 c.drop_line.ensures.bytes c.drop_line.ensures.skips,
    )
