use Rattle.res_sets.proofs.Merges.{behind_next, any_spans-next}
use Rattle.res_sets.proofs.merging.join_sorted.Goals as goal

pub loop-range-preserved : goal.loop-range-preserved
loop-range-preserved c = record {
  rises = c.in_ok-append.ensures.rises;
  behind = behind_next c.args.ranges.now c.append.new.out.items c.range-item.result c.loop-range.range-index c.requires c.loop-range-test.true c.range-item.is c.in_ok-append.ensures.last;
  members = λ n. any_spans-next c.args.ranges.now c.loop-range.out.items c.append.new.out.items c.range-item.result c.loop-range.range-index n c.loop-range-test.true c.range-item.is (c.loop-range.invariant.members n) (c.in_ok-append.ensures.members n);
}
