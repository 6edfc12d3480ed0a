use Rattle.std.specs.Io.KnownBytes.{IsAtEnd}
use Rattle.session_lines.proofs.Owning.{session_makes}
use Rattle.session_lines.proofs.laws.sessions_make_what_is_accepted.Goals as goal

pub returns : goal.returns
returns g c = λ signers old new end begun ended is. session_makes g.row.O.Denot g.D.Disk signers begun is.given (IsAtEnd (g.S.Source.left new.source)) is.written ended end is.replies
