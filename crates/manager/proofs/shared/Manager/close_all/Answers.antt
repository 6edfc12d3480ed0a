use Rattle.std.proofs.Common.{◌∷◌}
use Rattle.manager.proofs.Sharing.{shared_are}
use Rattle.manager.proofs.shared.Manager.close_all.Goals as goal

pub returns-clause-shared : goal.returns-clause-shared
returns-clause-shared g c = shared_are (c.args.pass ∷ c.args.others.items) c.join_passes.new.pass c.close.new.into.items c.join_passes.ensures c.close.ensures.ended

pub returns-clause-ends : goal.returns-clause-ends
returns-clause-ends g c = (c.join_passes.new.pass.shown, c.join_passes.ensures.shown, c.close.ensures.ends)
