use Rattle.std.proofs.Common.{◌≡◌, ◌∙◌, ◌+◌, ◌<◌, ◌++◌, ◌∷◌, [], ℕ, List, length, get_or, take, drop, sym, ap, subst, arith, append_assoc}
use Rattle.std.proofs.lemmas.List.{take_more, take_all, take-append-drop}
use Rattle.krill_top.specs.declared.generated.Wanted.{Wanted}
use Rattle.krill_top.specs.Working.{AreAccepted, StopsAmong}
use Rattle.krill_top.specs.inner.Handlers.{timed}
use Rattle.krill_top.specs.inner.Instances.{MovesTimed}
use Rattle.krill_top.proofs.Workloads.{none_yet, one_more, no_more}
use Rattle.krill_top.proofs.working.give_all.Goals as goal

-- the first ones, the next one, and the rest
whole_of : (all : List Wanted) (place : ℕ) (d : Wanted) → place < length all → take place all ++ get_or all place d ∷ drop (place + 1) all ≡ all
whole_of all place d inside =
    sym (append_assoc (take place all) (get_or all place d ∷ []) (drop (place + 1) all)) ∙ ap (λ (l : List Wanted). l ++ drop (place + 1) all) (sym (take_more all place d inside)) ∙ take-append-drop (place + 1) all

pub loop-wanted-init : goal.loop-wanted-init
loop-wanted-init g c = (c.requires, none_yet g.D.Disk g.O.Outlet (timed g.C.Clock c.args.handler.now))

pub loop-wanted-preserved : goal.loop-wanted-preserved
loop-wanted-preserved g c =
    let place = c.loop-wanted.wanted-index in
    let all : List Wanted = c.args.commands.now in (
      c.in-Ok.ensures.empty,
      subst (λ (l : List Wanted). MovesTimed g.D.Disk g.O.Outlet (λ b a. AreAccepted l b a) (timed g.C.Clock c.args.handler.now) (timed g.C.Clock c.give.new.handler)) (sym (take_more all place _ c.loop-wanted-test.true))
          (one_more g.D.Disk g.O.Outlet (take place all) _ c.give.new.reply.items c.in-Ok.field-0 (timed g.C.Clock c.args.handler.now) (timed g.C.Clock c.loop-wanted.handler) (timed g.C.Clock c.give.new.handler)
          c.loop-wanted.invariant.1 c.in-Ok.ensures.given),
    )

pub returns-in-Err-clause-given : goal.returns-in-Err-clause-given
returns-in-Err-clause-given g c =
    let place = c.loop-wanted.wanted-index in
    let all : List Wanted = c.args.commands.now in
    subst (λ (l : List Wanted). MovesTimed g.D.Disk g.O.Outlet (λ b a. StopsAmong l c.give.new.reply.items c.in-Err.fault b a) (timed g.C.Clock c.args.handler.now) (timed g.C.Clock c.give.new.handler)) (whole_of all place _ c.loop-wanted-test.true)
    (no_more g.D.Disk g.O.Outlet (Unit {0}) (take place all) (drop (place + 1) all) _ c.give.new.reply.items c.in-Err.fault (timed g.C.Clock c.args.handler.now) (timed g.C.Clock c.loop-wanted.handler) (timed g.C.Clock c.give.new.handler)
    c.loop-wanted.invariant.1 c.in-Err.ensures.given)

pub returns-clause-given : goal.returns-clause-given
returns-clause-given g c =
    let place = c.loop-wanted.wanted-index in
    let all : List Wanted = c.args.commands.now in
    subst (λ (l : List Wanted). MovesTimed g.D.Disk g.O.Outlet (λ b a. AreAccepted l b a) (timed g.C.Clock c.args.handler.now) (timed g.C.Clock c.loop-wanted.handler)) (take_all place all (omega (arith, c.loop-wanted-test.false))) c.loop-wanted.invariant.1
