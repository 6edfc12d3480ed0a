use Rattle.std.proofs.Common.{◌≡◌, ◌+◌, ◌++◌, ◌∷◌, [], ℕ, List, take, subst, sym, arith, rules}
use Rattle.std.proofs.lemmas.List.{take_all}
use Rattle.editions.specs.declared.gathered.Gathered.{Gathered}
use Rattle.krill_top.specs.inner.Gathered.{AreFirstsOf}
use Rattle.krill_top.proofs.PressOpening.{firsts_next}
use Rattle.krill_top.proofs.press_opening.firsts_of.Goals as goal

pub first-requires-clause-held : goal.first-requires-clause-held
first-requires-clause-held g c = c.requires.within c.loop-desk.desk

pub loop-desk-preserved : goal.loop-desk-preserved
loop-desk-preserved g c =
    let k = c.loop-desk.desk in
    let desks = c.args.desks.now in
    let cut = c.args.cut.now in
    let group = c.in_ok-first.field-0 in
    let pushed : c.push.new.self.items ≡ c.loop-desk.firsts.items ++ group ∷ [] = search rules in
    subst (λ (l : List Gathered). AreFirstsOf 0 desks (take (k + 1) cut) l) (sym pushed)
    (firsts_next desks cut c.loop-desk.firsts.items k group c.loop-desk-test.true (omega (arith, c.requires.all, c.requires.cut, c.loop-desk-test.true)) c.loop-desk.invariant c.in_ok-first.ensures)

pub returns : goal.returns
returns g c =
    subst (λ (l : List ℕ). AreFirstsOf 0 c.args.desks.now l c.loop-desk.firsts.items) (take_all c.loop-desk.desk c.args.cut.now c.loop-desk-test.false) c.loop-desk.invariant
