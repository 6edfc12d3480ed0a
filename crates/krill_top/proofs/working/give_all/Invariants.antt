use Rattle.std.proofs.Common.{◌≡◌, [], take}
use Rattle.krill_top.specs.Working.{AreAccepted}
use Rattle.krill_top.specs.inner.Instances.{MovesTimed}
use Rattle.krill_top.specs.inner.Handlers.{timed}
use Rattle.krill_top.proofs.working.give_all.Given as goal

abbrev pub invariant-loop-wanted : goal.invariant-loop-wanted
invariant-loop-wanted g l = (l.reply.items ≡ [])
    × MovesTimed g.D.Disk g.O.Outlet (λ b a. AreAccepted (take l.wanted-index l.commands) b a) (timed g.C.Clock l.initial.handler) (timed g.C.Clock l.handler)
