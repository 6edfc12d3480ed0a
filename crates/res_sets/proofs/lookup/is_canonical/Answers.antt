use Rattle.std.proofs.Common.{◌≤◌, arith}
use Rattle.std.proofs.lemmas.Bool.{false≢true}
use Rattle.std.proofs.lemmas.Bool.Decides.{nat_tests}
use Rattle.res_sets.specs.Numbers.{family_end}
use Rattle.res_sets.specs.Merging.{low_after}
use Rattle.res_sets.proofs.Lookups.{Checking-head, Checking-next}
use Rattle.res_sets.proofs.lookup.is_canonical.Goals as goal
use Rattle.res_sets.proofs.lookup.is_canonical.Goals.{then-range-greatest-via-then-range-greatest, then-range-greatest-via-else-range-greatest+then-not-leaves_gap}

pub returns-then-range-greatest : goal.returns-then-range-greatest
returns-then-range-greatest c = (
  λ no. absurd (false≢true no),
  λ good.
      let head = Checking-head (family_end c.args.family) c.args.ranges.now (low_after c.loop-range.before) c.loop-range.range-index c.range-item.result c.loop-range-test.true c.range-item.is c.loop-range.invariant (record { rise = good.rise; within = good.within }) in
      absurd (elim c.then-range-greatest.branch [
        | then-range-greatest-via-then-range-greatest w ↦ omega (arith, head.1, w.if-range-greatest.true, c.last-greatest.ensures)
        | then-range-greatest-via-else-range-greatest+then-not-leaves_gap w ↦ grind (arith, nat_tests, head.0, w.leaves_gap.ensures, w.if-not-leaves_gap.true)
      ]),
)

pub loop-range-preserved : goal.loop-range-preserved
loop-range-preserved c =
    let low : low_after c.loop-range.before ≤ c.range-item.result.first = grind (arith, nat_tests, c.leaves_gap.ensures, c.if-not-leaves_gap.false) in
    Checking-next (family_end c.args.family) c.args.ranges.now (low_after c.loop-range.before) c.loop-range.range-index c.range-item.result c.loop-range-test.true c.range-item.is low
    (omega (arith, c.if-range-greatest.false, c.last-greatest.ensures)) c.loop-range.invariant
