use Rattle.std.proofs.Common.{◌≡◌, ◌+◌, ℕ, List, take, subst, sym, arith}
use Rattle.std.specs.Prelude.{Some, slice_get}
use Rattle.std.proofs.lemmas.List.{take_all}
use Rattle.std.proofs.lemmas.Option.{slice_get_read}
use Rattle.editions.specs.declared.gathered.Gathered.{Gathered}
use Rattle.test_histories.specs.Gathered.{AreFirstsOf}
use Rattle.test_histories.proofs.Firsts.{firsts_next}
use Rattle.test_histories.proofs.press.firsts_of.Goals as goal

pub loop-desk-preserved : goal.loop-desk-preserved
loop-desk-preserved c =
    let k = c.loop-desk.desk in
    let desks = c.args.desks.now in
    let cut = c.args.cut.now in
    let group = c.in_ok-first.first in
    let there : slice_get desks k ≡ Some c.index-desks-desk.result =
    slice_get_read desks 64 k c.index-desks-desk.result (sym c.requires.all) (omega (arith, c.requires.cut, c.loop-desk-test.true)) c.index-desks-desk.is in
    subst (λ (l : List Gathered). AreFirstsOf 0 desks (take (k + 1) cut) l) (sym c.in_ok-push.ensures.items)
    (firsts_next desks cut c.loop-desk.firsts.items k c.index-desks-desk.result group c.loop-desk-test.true there c.loop-desk.invariant c.in_ok-first.ensures)

pub returns : goal.returns
returns c =
    subst (λ (l : List ℕ). AreFirstsOf 0 c.args.desks.now l c.loop-desk.firsts.items) (take_all c.loop-desk.desk c.args.cut.now c.loop-desk-test.false) c.loop-desk.invariant
