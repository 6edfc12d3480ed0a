use Rattle.std.proofs.Common.{refl}
use Rattle.krill_top.proofs.Granting.{granted_is}
use Rattle.krill_top.proofs.generated.granted.Goals as goal

pub returns-in-Ok : goal.returns-in-Ok
returns-in-Ok c = granted_is c.args.last _ _ _ _ c.in-Ok.ensures.taken.1 c.empty-v4.ensures c.empty.ensures refl c.empty-in-Ok.ensures refl refl
