use Rattle.std.proofs.Common.{ℕ, subst, arith}
use Rattle.manager.specs.Awaiting.{IsAwaitedAt}
use Rattle.manager.proofs.Looking.{look_on}
use Rattle.manager.proofs.shared.Manager.await_edition.Goals as goal

pub loop-init : goal.loop-init
loop-init g c = record {
  so = record {
    rest = c.look-seen.ensures.rest;
    grows = c.look-seen.ensures.grows;
    serial = c.look-seen.ensures.serial;
    never_falls = c.look-seen.ensures.never_falls;
  };
}

pub loop-preserved : goal.loop-preserved
loop-preserved g c = record {
  so = look_on c.args.pass.now c.loop.pass c.look-seen-in-loop.new.pass c.loop.seen c.look-seen-in-loop.result c.loop.invariant.so
      c.look-seen-in-loop.ensures.rest c.look-seen-in-loop.ensures.grows c.look-seen-in-loop.ensures.serial c.look-seen-in-loop.ensures.never_falls;
}

pub returns-clause-rest : goal.returns-clause-rest
returns-clause-rest g c = c.loop.invariant.so.rest

pub returns-clause-grows : goal.returns-clause-grows
returns-clause-grows g c = c.loop.invariant.so.grows

pub returns-clause-never_falls : goal.returns-clause-never_falls
returns-clause-never_falls g c = let so = c.loop.invariant.so in omega (arith, so.never_falls, so.serial)

pub returns-clause-awaited : goal.returns-clause-awaited
returns-clause-awaited g c = subst (λ (n : ℕ). IsAwaitedAt c.args.serial n c.awaited_by.result) c.loop.invariant.so.serial c.awaited_by.ensures
