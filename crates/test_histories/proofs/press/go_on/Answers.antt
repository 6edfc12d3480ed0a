use Rattle.std.proofs.Common.{◌≤◌, ℕ, List, length, sym, subst}
use Rattle.test_histories.specs.Gathered.{AreFirstsOf}
use Rattle.test_histories.proofs.Firsts.{cut_short, are_firsts}
use Rattle.test_histories.proofs.press.go_on.Goals as goal

pub firsts_of-requires-clause-cut : goal.firsts_of-requires-clause-cut
firsts_of-requires-clause-cut c = subst (λ (l : List ℕ). length l ≤ 64) (sym c.cut.ensures) (cut_short c.args.loaded c.requires.order)

pub resume-requires-clause-firsts : goal.resume-requires-clause-firsts
resume-requires-clause-firsts c =
    let desks = c.args.desks.now in
    let groups = c.in_ok-firsts.firsts.items in
    are_firsts desks c.requires.stand.0 c.args.loaded.cut groups c.requires.stand.1
    (subst (λ (l : List ℕ). AreFirstsOf 0 desks l groups) c.cut.ensures c.in_ok-firsts.ensures)

pub returns : goal.returns
returns c =
    let desks = c.args.desks.now in
    let groups = c.in_ok-firsts.firsts.items in (
      groups,
      subst (λ (l : List ℕ). AreFirstsOf 0 desks l groups) c.cut.ensures c.in_ok-firsts.ensures,
      c.in-Ok.ensures.goes_on,
    )
