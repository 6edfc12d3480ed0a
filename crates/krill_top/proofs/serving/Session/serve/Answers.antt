use Rattle.krill_top.specs.inner.Handlers.{timed}
use Rattle.krill_top.proofs.Sessions.{converses_over}
use Rattle.krill_top.proofs.serving.Session.serve.Goals as goal

pub returns-clause-session : goal.returns-clause-session
returns-clause-session g c =
    let s = c.serve_lines.ensures.session in
    converses_over g.D.Disk g.O.Outlet (timed g.C.Clock) g.S.Source g.K.Sink _ _ c.serve_lines.result s.0 s.1 c.args.handler.now c.serve_lines.new.handler s.2 s.3 s.4
