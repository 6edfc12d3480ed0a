use Rattle.std.proofs.Common.{length}
use Rattle.std.specs.Io.KnownBytes.{IsAtEnd}
use Rattle.session_lines.specs.Replies.{IsReply}
use Rattle.session_lines.specs.Sessions.{state_of}
use Rattle.session_lines.proofs.Sessions.{serves_over}
use Rattle.session_lines.proofs.serving.Session.serve.Goals as goal

pub returns-clause-session : goal.returns-clause-session
returns-clause-session g c =
    let s = c.serve_lines.ensures.session in record {
      given = s.0;
      written = s.1;
      source = s.2;
      sink = s.3;
      replies = serves_over (state_of g.C.Clock) (IsReply g.row.O.Denot g.D.Disk (length g.N.Names.named.signers)) c.args.handler.now s.0 (IsAtEnd (g.S.Source.left c.serve_lines.new.source)) s.1 c.serve_lines.new.handler c.serve_lines.result s.4;
    }
