use Rattle.std.proofs.Common.{sym, ◌∙◌}
use Rattle.krill_top.proofs.Telling.{needs_none, repeats_all, repeats_stopped}
use Rattle.krill_top.proofs.instance.Instance.repeat_export.Goals as goal

pub export-requires : goal.export-requires
export-requires g c = c.is_exported.ensures.some c.if-is_exported.false

pub returns-then-is_exported-clause-moves : goal.returns-then-is_exported-clause-moves
returns-then-is_exported-clause-moves g c =
    needs_none g.D.Disk g.O.Outlet c.args.self.now (λ state stands. sym (c.is_exported.ensures.exported state stands) ∙ c.if-is_exported.true)

pub returns-in-Ok-clause-moves : goal.returns-in-Ok-clause-moves
returns-in-Ok-clause-moves g c =
    repeats_all g.D.Disk g.O.Outlet c.args.self.now c.export.new.self (λ state stands. sym (c.is_exported.ensures.exported state stands) ∙ c.if-is_exported.false) c.in-Ok.ensures.moves

pub returns-in-Err-clause-moves : goal.returns-in-Err-clause-moves
returns-in-Err-clause-moves g c =
    repeats_stopped g.D.Disk g.O.Outlet c.in-Err.fault c.args.self.now c.export.new.self (λ state stands. sym (c.is_exported.ensures.exported state stands) ∙ c.if-is_exported.false) c.in-Err.ensures.moves
