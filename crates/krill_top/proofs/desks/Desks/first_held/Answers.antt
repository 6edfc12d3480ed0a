use Rattle.std.proofs.Common.{◌≡◌, ◌∙◌, List, length, sym, ap, arith}
use Rattle.desk_core.specs.View.{View}
use Rattle.krill_top.proofs.Holding.{none_more, none_held, first_held}
use Rattle.krill_top.proofs.desks.Desks.first_held.Goals as goal

pub loop-desk-preserved : goal.loop-desk-preserved
loop-desk-preserved g c = none_more c.args.self.now c.loop-desk.desk c.held-held.result c.loop-desk.invariant c.held-held.ensures c.if-held-ne0.false

pub returns-then-held-ne0 : goal.returns-then-held-ne0
returns-then-held-ne0 g c desk_states are =
    let D : Type 0 = g.row.D.Denot in
    let long : length c.args.self.now ≡ 64 = ap (λ (l : List (View D)). length l) (sym c.self.view_is) ∙ c.self.invariant in
    first_held c.args.self.now c.loop-desk.desk c.held-held.result desk_states (omega (arith, long, c.loop-desk-test.true)) c.loop-desk.invariant c.held-held.ensures c.if-held-ne0.true are

pub returns : goal.returns
returns g c desk_states are =
    let D : Type 0 = g.row.D.Denot in
    let long : length c.args.self.now ≡ 64 = ap (λ (l : List (View D)). length l) (sym c.self.view_is) ∙ c.self.invariant in
    none_held c.args.self.now c.loop-desk.desk desk_states (omega (arith, long, c.loop-desk-test.false)) c.loop-desk.invariant are
